-- What comes next of an iterator over a chain, once a node was found in it.
use Rattle.assise_chain.proofs.Common.{◌≡◌, ℕ, ◌==◌, Bool, true, false, cond, if◌then◌else◌, List, [], ◌∷◌, Option, Some, None, Bor, ap, sym, ◌∙◌, refl, subst}
use Rattle.assise_chain.proofs.Common.{YieldsList, FoldsTo, find, behind, first_of_all, arith}
use denote.Param.Members.{Mut}
use Rattle.std.specs.Fn.{CalledAt}
use Rattle.std.specs.Iterator.{AlwaysYields, Yields, YieldsThen}
use Rattle.std.specs.Option.{MatchOption}
use Rattle.std.specs.Bool.{⊤}
use Rattle.std.proofs.lemmas.Iterator.Adapters.{option_map_id}
use Rattle.std.proofs.lemmas.Iterator.Search.{find_from_yields_List}

-- who isn't found has nobody behind it
none_behind_if : (b : Bool) (node n : ℕ) (ns : List ℕ) → None ≡ cond b (Some n) (find (λ m. m == node) ns) →
    (None ≡ find (λ m. m == node) ns → None ≡ behind node ns)
    → None ≡ (if b then first_of_all ns else behind node ns)
none_behind_if true node n ns e rest = cc
none_behind_if false node n ns e rest = rest e

pub none_behind : (node : ℕ) (ns : List ℕ) → None ≡ find (λ m. m == node) ns → None ≡ behind node ns
none_behind node [] e = refl
none_behind node (n ∷ ns) e = none_behind_if (n == node) node n ns e (λ f. none_behind node ns f)

-- what comes next is the first of what is left
next_first : {S : Type 0} (steps : S → Option ℕ → S → Type 0) (all : List ℕ) (s u : S) (r : Option ℕ) → AlwaysYields steps (λ x. x) s all → steps s r u →
    r ≡ first_of_all all
next_first steps [] s u None e p = refl
next_first steps [] s u (Some x) e p = absurd (e x u p)
next_first steps (y ∷ ys) s u None e p = absurd (e.0 u p)
next_first steps (y ∷ ys) s u (Some x) e p = ap Some (e.1 x u p).0

module _ {S F : Type 0} (steps : S → Option ℕ → S → Type 0) (g : Mut F (Bor ℕ × Unit {0}) Bool) (node : ℕ) (f : F)
    (tells : (x : ℕ) (b : Bool) (q : F) → CalledAt g f x b q → (q ≡ f) × (b ≡ (x == node))) where
  abbrev Passes : F → ℕ → F → Type 0
  Passes p x q = CalledAt g p x false q

  next_behind : (all xs : List ℕ) (s t u w : S) (x : ℕ) (j h : F) (r : Option ℕ) → AlwaysYields steps (λ x. x) s all → Yields steps s xs t → steps t (Some x) u
      → FoldsTo Passes f xs j → CalledAt g j x true h → steps u r w → r ≡ behind node all
  next_behind [] [] s t u w x j h r e y p folds called next = absurd (subst (λ a. AlwaysYields steps (λ z. z) a []) y e x u p)
  next_behind (n ∷ ns) [] s t u w x j h r e y p folds called next =
      let here = (subst (λ a. AlwaysYields steps (λ z. z) a (n ∷ ns)) y e).1 x u p in
      let found : true ≡ (x == node) = (tells x true h (subst (λ q. CalledAt g q x true h) (sym folds) called)).1 in
      let is : (n == node) ≡ true = ap (λ m. m == node) (sym here.0) ∙ sym found in
      rw is (next_first steps ns u w r here.1 next)
  next_behind [] (z ∷ zs) s t u w x j h r e y p folds called next = absurd (e z y.0 y.1)
  next_behind (n ∷ ns) (z ∷ zs) s t u w x j h r e y p folds called next =
      let here = e.1 z y.0 y.1 in
      let passed = tells z false folds.0 folds.1 in
      let isnt : (n == node) ≡ false = ap (λ m. m == node) (sym here.0) ∙ sym passed.1 in
      rw isnt (next_behind ns zs y.0 t u w x j h r here.1 y.2 p (subst (λ q. FoldsTo Passes q zs j) passed.0 folds.2) called next)

-- a search of the chain that found nobody
pub nobody_found : {S F : Type 0} {steps : S → Option ℕ → S → Type 0} {g : Mut F (Bor ℕ × Unit {0}) Bool} {s : S} {all : List ℕ} (node : ℕ) (u : S) (f : F)
    (r answer : Option ℕ)
    → ((xs : List ℕ) × (j : F) × YieldsThen steps s xs r u × FoldsTo (λ p x q. CalledAt g p x false q) f xs j
    × MatchOption r ⊤ (λ x. (h : F) × CalledAt g j x true h))
    → YieldsList steps (λ x. x) s all → ((x : ℕ) (b : Bool) (q : F) → CalledAt g f x b q → (q ≡ f) × (b ≡ (x == node))) → r ≡ None → answer ≡ None →
    answer ≡ behind node all
nobody_found {all = all} node u f r answer ran road tells none is =
    is ∙ none_behind node all (sym none ∙ sym (option_map_id r) ∙ find_from_yields_List (λ m. m == node) u f r ran road tells)

-- a search of the chain that found the node, and what comes next
pub found_then_next : {S F : Type 0} {steps : S → Option ℕ → S → Type 0} {g : Mut F (Bor ℕ × Unit {0}) Bool} {s : S} {all : List ℕ} (node : ℕ) (u w : S) (f : F)
    (r next : Option ℕ) (x : ℕ)
    → ((xs : List ℕ) × (j : F) × YieldsThen steps s xs r u × FoldsTo (λ p x q. CalledAt g p x false q) f xs j
    × MatchOption r ⊤ (λ x. (h : F) × CalledAt g j x true h))
    → YieldsList steps (λ x. x) s all → ((x : ℕ) (b : Bool) (q : F) → CalledAt g f x b q → (q ≡ f) × (b ≡ (x == node))) → r ≡ Some x → steps u next w →
    next ≡ behind node all
found_then_next {S} {F} {steps} {g} {s} {all} node u w f r next x ran road tells some after =
    let at : (xs : List ℕ) × (j : F) × YieldsThen steps s xs (Some x) u × FoldsTo (λ p x q. CalledAt g p x false q) f xs j × MatchOption (Some x) ⊤
    (λ x. (h : F) × CalledAt g j x true h)
    = grind arith in
    next_behind steps g node f tells all at.0 s at.2.0 u w x at.1 at.4.0 next road.runs at.2.1 at.2.2 at.3 at.4.1 after
