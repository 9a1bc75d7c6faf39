-- What stands in a list that is filtered or put behind another, and that no item stands in it twice.
use Rattle.assise_chain.proofs.Common.{◌≡◌, ℕ, ◌<◌, Bool, true, false, cond, List, [], ◌∷◌, ◌++◌, ap, sym, ◌∙◌, refl, arith, inl, inr, ◌⊎◌, filter, nat_lt}
use Rattle.assise_chain.proofs.Common.{nat_le, AllByRecursion, cases_lt, IsAscending, chain, AllDiffer, IsOneOf}

module _ {X : Type 0} where
  in_left : (xs ys : List X) (x : X) → IsOneOf xs x → IsOneOf (xs ++ ys) x
  in_left [] ys x a = absurd a
  in_left (y ∷ xs) ys x (inl e) = inl e
  in_left (y ∷ xs) ys x (inr a) = inr (in_left xs ys x a)

  pub in_right : (xs ys : List X) (x : X) → IsOneOf ys x → IsOneOf (xs ++ ys) x
  in_right [] ys x a = a
  in_right (y ∷ xs) ys x a = inr (in_right xs ys x a)

  of_both : (xs ys : List X) (x : X) → IsOneOf (xs ++ ys) x → IsOneOf xs x ⊎ IsOneOf ys x
  of_both [] ys x a = inr a
  of_both (y ∷ xs) ys x (inl e) = inl (inl e)
  of_both (y ∷ xs) ys x (inr a) = elim (of_both xs ys x a) [ inl l ↦ inl (inr l) | inr r ↦ inr r ]

  -- where an item is kept or left out
  in_kept : (b : Bool) (y : X) (ys : List X) (x : X) → IsOneOf ys x → IsOneOf (cond b (y ∷ ys) ys) x
  in_kept true y ys x a = inr a
  in_kept false y ys x a = a

  of_kept : (b : Bool) (y : X) (ys : List X) (x : X) → IsOneOf (cond b (y ∷ ys) ys) x → ((b ≡ true) × (y ≡ x)) ⊎ IsOneOf ys x
  of_kept true y ys x (inl e) = inl (refl, e)
  of_kept true y ys x (inr a) = inr a
  of_kept false y ys x a = inr a

  kept_differ : (b : Bool) (y : X) (ys : List X) → (IsOneOf ys y → ⊥) → AllDiffer ys → AllDiffer (cond b (y ∷ ys) ys)
  kept_differ true y ys new d = (new, d)
  kept_differ false y ys new d = d

  module _ (p : X → Bool) where
    in_filter : (xs : List X) (x : X) → IsOneOf xs x → p x ≡ true → IsOneOf (filter p xs) x
    in_filter [] x a t = a
    in_filter (y ∷ ys) x (inl e) t = let is : p y ≡ true = ap p e ∙ t in rw is (inl e)
    in_filter (y ∷ ys) x (inr a) t = in_kept (p y) y (filter p ys) x (in_filter ys x a t)

    of_filter : (xs : List X) (x : X) → IsOneOf (filter p xs) x → IsOneOf xs x × (p x ≡ true)
    of_filter [] x a = absurd a
    of_filter (y ∷ ys) x a = elim (of_kept (p y) y (filter p ys) x a) [
      | inl h ↦ (inl h.1, ap p (sym h.1) ∙ h.0)
      | inr r ↦ let w = of_filter ys x r in (inr w.0, w.1)
    ]

    filter_differ : (xs : List X) → AllDiffer xs → AllDiffer (filter p xs)
    filter_differ [] d = tt
    filter_differ (y ∷ ys) d = kept_differ (p y) y (filter p ys) (λ a. d.0 (of_filter ys y a).0) (filter_differ ys d.1)

  both_differ : (xs ys : List X) → AllDiffer xs → AllDiffer ys → ((x : X) → IsOneOf xs x → IsOneOf ys x → ⊥) → AllDiffer (xs ++ ys)
  both_differ [] ys d e disjoint = e
  both_differ (x ∷ xs) ys d e disjoint = (
    (λ a. elim (of_both xs ys x a) [ inl l ↦ d.0 l | inr r ↦ disjoint x (inl refl) r ]),
    both_differ xs ys d.1 e (λ z l r. disjoint z (inr l) r),
  )

-- ---- ascending nodes

-- who is above all of some isn't one of them
pub above_all : (ns : List ℕ) (n m : ℕ) → AllByRecursion (λ k. n < k) ns → IsOneOf ns m → n < m
above_all [] n m above a = absurd a
above_all (k ∷ ns) n m above (inl e) = let first : n < k = above.0 in omega (arith, e)
above_all (k ∷ ns) n m above (inr a) = above_all ns n m above.1 a

ascending_differ : (ns : List ℕ) → IsAscending ns → AllDiffer ns
ascending_differ [] r = tt
ascending_differ (n ∷ ns) r = ((λ a. let self : n < n = above_all ns n n r.0 a in omega arith), ascending_differ ns r.1)

-- nobody is both from the head on and below it
not_both_sides : (head n : ℕ) → nat_le head n ≡ true → nat_lt n head ≡ true → ⊥
not_both_sides head n above below = grind arith

-- ---- the chain

pub of_chain : (full : List ℕ) (head n : ℕ) → IsOneOf (chain full head) n → IsOneOf full n
of_chain full head n a = elim (of_both (filter (nat_le head) full) (filter (λ m. nat_lt m head) full) n a) [
  | inl l ↦ (of_filter (nat_le head) full n l).0
  | inr r ↦ (of_filter (λ m. nat_lt m head) full n r).0
]

pub in_chain : (full : List ℕ) (head n : ℕ) → IsOneOf full n → IsOneOf (chain full head) n
in_chain full head n a = elim (cases_lt n head) [
  | inl below ↦
      let is : nat_lt n head ≡ true = search arith in
      in_right (filter (nat_le head) full) (filter (λ m. nat_lt m head) full) n (in_filter (λ m. nat_lt m head) full n a is)
  | inr above ↦
      let is : nat_le head n ≡ true = search arith in
      in_left (filter (nat_le head) full) (filter (λ m. nat_lt m head) full) n (in_filter (nat_le head) full n a is)
]

pub chain_differs : (full : List ℕ) (head : ℕ) → IsAscending full → AllDiffer (chain full head)
chain_differs full head r =
    let d = ascending_differ full r in
    both_differ (filter (nat_le head) full) (filter (λ m. nat_lt m head) full) (filter_differ (nat_le head) full d) (filter_differ (λ m. nat_lt m head) full d)
    (λ n l r. not_both_sides head n (of_filter (nat_le head) full n l).1 (of_filter (λ m. nat_lt m head) full n r).1)
