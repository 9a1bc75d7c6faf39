-- The first client of a number among those of which something isn't told yet.
use Rattle.assise_threads.proofs.Common.{◌≡◌, ◌∙◌, ◌<◌, ℕ, ◌+◌, ◌==◌, Bool, true, false, if◌then◌else◌, List, [], ◌∷◌, ◌++◌, length, take, drop, get_or}
use Rattle.assise_threads.proofs.Common.{slice_set, Option, None, Some, IsSome, option_to_list, ◌↔◌, Result, refl, sym, ap, ap₂, subst, arith, take-append-drop}
use Rattle.assise_threads.proofs.Common.{drop-set, set-get_or, take-set, take_more, eq-eqb, ne_eqb, Refusal, Reply, TakesFirst, outcomes_of, untold}
use Rattle.assise_threads.specs.declared.outcomes.Outcomes.{Outcomes}

-- ---- a place of a list

module _ (os : List Outcomes) (i : ℕ) (within : i < length os) where
  set_parts : (o : Outcomes) → slice_set os i o ≡ take i os ++ o ∷ drop (i + 1) os
  set_parts o = sym (take-append-drop i (slice_set os i o)) ∙ ap₂ (λ a b. a ++ b) (take-set os i o) (drop-set os i o within)

  at_parts : (o : Outcomes) → o ≡ get_or os i o → os ≡ take i os ++ o ∷ drop (i + 1) os
  at_parts o is = sym (set-get_or os i o) ∙ (ap (slice_set os i) (sym is) ∙ set_parts o)

-- ---- behind others

pub first-skips : {X : Type 0} (b : Bool) (x : X) (u v w : Option X) → (if b then Some x else u) ≡ None → (u ≡ None → v ≡ w) → (if b then Some x else v) ≡ w
first-skips true x u v w e f = cc
first-skips false x u v w e f = f e

passed : (c : ℕ) (xs ys : List Outcomes) → outcomes_of c (untold xs) ≡ None → outcomes_of c (untold (xs ++ ys)) ≡ outcomes_of c (untold ys)
passed c [] ys none = refl
passed c (x ∷ xs) ys none =
    first-skips (x.client == c) x.left.rest.items (outcomes_of c (untold xs)) (outcomes_of c (untold (xs ++ ys))) (outcomes_of c (untold ys)) none
    (λ h. passed c xs ys h)

here : (c : ℕ) (o : Outcomes) (ys : List Outcomes) → o.client ≡ c → outcomes_of c (untold (o ∷ ys)) ≡ Some o.left.rest.items
here c o ys is = ap (λ b. if b then Some o.left.rest.items else outcomes_of c (untold ys)) (eq-eqb o.client c is)

not-here : (c : ℕ) (o : Outcomes) (ys : List Outcomes) → (o.client ≡ c → ⊥) → outcomes_of c (untold (o ∷ ys)) ≡ outcomes_of c (untold ys)
not-here c o ys ne = ap (λ b. if b then Some o.left.rest.items else outcomes_of c (untold ys)) (ne_eqb o.client c ne)

found : (c : ℕ) (xs ys : List Outcomes) (o : Outcomes) → outcomes_of c (untold xs) ≡ None → o.client ≡ c → outcomes_of c (untold (xs ++ o ∷ ys))
    ≡ Some o.left.rest.items
found c xs ys o none is = passed c xs (o ∷ ys) none ∙ here c o ys is

none_yet : (c : ℕ) (xs : List Outcomes) (o : Outcomes) → outcomes_of c (untold xs) ≡ None → (o.client ≡ c → ⊥) → outcomes_of c (untold (xs ++ o ∷ [])) ≡ None
none_yet c xs o none ne = passed c xs (o ∷ []) none ∙ not-here c o [] ne

-- another client's stays, whatever becomes of this one
other_stays : (c : ℕ) (xs ys : List Outcomes) (o p : Outcomes) → p.client ≡ o.client → (o.client ≡ c → ⊥) → outcomes_of c (untold (xs ++ p ∷ ys))
    ≡ outcomes_of c (untold (xs ++ o ∷ ys))
other_stays c [] ys o p same ne = not-here c p ys (λ e. ne (sym same ∙ e)) ∙ sym (not-here c o ys ne)
other_stays c (x ∷ xs) ys o p same ne = ap (λ z. if x.client == c then Some x.left.rest.items else z) (other_stays c xs ys o p same ne)

-- ---- the first is taken

pub takes_first : (before after : List (Result Reply Refusal)) (count : ℕ) (r : Option (Result Reply Refusal)) → length before ≡ count →
    (IsSome r ↔ (0 < count)) → before ≡ option_to_list r ++ after → TakesFirst (Some before) r (Some after)
takes_first [] after count None many some is = (refl, ap Some (sym is))
takes_first [] after count (Some r) many some is = cc
takes_first (x ∷ xs) after count None many some is = let none = some.1 (omega arith) in cc
takes_first (x ∷ xs) after count (Some r) many some is = subst (λ z. TakesFirst (Some z) (Some r) (Some after)) (sym is) (refl, refl)

module _ (c : ℕ) (all os : List Outcomes) (i : ℕ) (o p : Outcomes) (same : os ≡ all) (within : i < length os) (is : o ≡ get_or os i o) where
  pub taken_there : (r : Option (Result Reply Refusal)) → outcomes_of c (untold (take i os)) ≡ None → o.client ≡ c → p.client ≡ c →
      TakesFirst (Some o.left.rest.items) r (Some p.left.rest.items)
      → TakesFirst (outcomes_of c (untold all)) r (outcomes_of c (untold (slice_set os i p)))
  taken_there r none its stays takes =
      let old : outcomes_of c (untold all) ≡ Some o.left.rest.items = ap (λ z. outcomes_of c (untold z)) (sym same ∙ at_parts os i within o is)
      ∙ found c (take i os) (drop (i + 1) os) o none its in
      let new : outcomes_of c (untold (slice_set os i p)) ≡ Some p.left.rest.items = ap (λ z. outcomes_of c (untold z)) (set_parts os i within p)
      ∙ found c (take i os) (drop (i + 1) os) p none stays in
      subst (λ z. TakesFirst z r (outcomes_of c (untold (slice_set os i p)))) (sym old) (subst (TakesFirst (Some o.left.rest.items) r) (sym new) takes)

  pub left_there : (o.client ≡ c → ⊥) → p.client ≡ o.client → outcomes_of c (untold (slice_set os i p)) ≡ outcomes_of c (untold all)
  left_there ne stays =
      ap (λ z. outcomes_of c (untold z)) (set_parts os i within p)
      ∙ (other_stays c (take i os) (drop (i + 1) os) o p stays ne ∙ ap (λ z. outcomes_of c (untold z)) (sym (at_parts os i within o is) ∙ same))

  pub not_yet : outcomes_of c (untold (take i os)) ≡ None → (o.client ≡ c → ⊥) → outcomes_of c (untold (take (i + 1) os)) ≡ None
  not_yet none ne = ap (λ z. outcomes_of c (untold z)) (take_more os i o within ∙ ap (λ x. take i os ++ x ∷ []) (sym is)) ∙ none_yet c (take i os) o none ne
