-- Keys in order, in parts.
use Rattle.assise_inode_table.proofs.Common.{◌≡◌, List, [], ◌∷◌, ◌++◌, sym, ap, refl, ◌∙◌, true, false, true≢false, Ordering, Less, Equal, Greater, is_gt}
use Rattle.assise_inode_table.proofs.Common.{AllByRecursion, IsStrictlySortedBy, ordering_reverse, IsTotalOrder, IsAntisymmetric, arith}

module _ {K : Type 0} (P : K → Type 0) where
  pub all_left : (xs ys : List K) → AllByRecursion P (xs ++ ys) → AllByRecursion P xs
  all_left [] ys h = tt
  all_left (x ∷ xs) ys h = (h.0, all_left xs ys h.1)

  pub all_right : (xs ys : List K) → AllByRecursion P (xs ++ ys) → AllByRecursion P ys
  all_right [] ys h = h
  all_right (x ∷ xs) ys h = all_right xs ys h.1

  pub all_both : (xs ys : List K) → AllByRecursion P xs → AllByRecursion P ys → AllByRecursion P (xs ++ ys)
  all_both [] ys a b = b
  all_both (x ∷ xs) ys a b = (a.0, all_both xs ys a.1 b)

  pub all_weaker : (Q : K → Type 0) (xs : List K) → ((x : K) → P x → Q x) → AllByRecursion P xs → AllByRecursion Q xs
  all_weaker Q [] f h = tt
  all_weaker Q (x ∷ xs) f h = (f x h.0, all_weaker Q xs f h.1)

module _ {K : Type 0} (R : K → K → Ordering) where
  pub sorted_left : (xs ys : List K) → IsStrictlySortedBy R (xs ++ ys) → IsStrictlySortedBy R xs
  unfolding IsStrictlySortedBy
  sorted_left [] ys s = tt
  sorted_left (x ∷ xs) ys s = (all_left (λ y. R x y ≡ Less) xs ys s.0, sorted_left xs ys s.1)

  pub sorted_right : (xs ys : List K) → IsStrictlySortedBy R (xs ++ ys) → IsStrictlySortedBy R ys
  unfolding IsStrictlySortedBy
  sorted_right [] ys s = s
  sorted_right (x ∷ xs) ys s = sorted_right xs ys s.1

  -- those before a key are below it
  pub below_next : (xs : List K) (y : K) (ys : List K) → IsStrictlySortedBy R (xs ++ y ∷ ys) → AllByRecursion (λ x. R x y ≡ Less) xs
  unfolding IsStrictlySortedBy
  below_next [] y ys s = tt
  below_next (x ∷ xs) y ys s = ((all_right (λ z. R x z ≡ Less) xs (y ∷ ys) s.0).0, below_next xs y ys s.1)

  -- and those behind it are above it
  pub above_head : (y : K) (ys : List K) → IsStrictlySortedBy R (y ∷ ys) → AllByRecursion (λ z. R y z ≡ Less) ys
  unfolding IsStrictlySortedBy
  above_head y ys s = s.0

  -- one more key, in a gap
  pub sorted_between : (xs : List K) (k : K) (ys : List K) → IsStrictlySortedBy R (xs ++ ys) → AllByRecursion (λ x. R x k ≡ Less) xs →
      AllByRecursion (λ y. R k y ≡ Less) ys
      → IsStrictlySortedBy R (xs ++ k ∷ ys)
  unfolding IsStrictlySortedBy
  sorted_between [] k ys s a b = (b, s)
  sorted_between (x ∷ xs) k ys s a b = grind (arith, sorted_between xs k ys s.1 a.1 b, all_both, all_left, all_right)

  -- without a part
  pub sorted_without : (xs ys zs : List K) → IsStrictlySortedBy R (xs ++ (ys ++ zs)) → IsStrictlySortedBy R (xs ++ zs)
  unfolding IsStrictlySortedBy
  sorted_without [] ys zs s = sorted_right ys zs s
  sorted_without (x ∷ xs) ys zs s = grind (arith, sorted_without xs ys zs s.1, all_both, all_left, all_right)

module _ {K : Type 0} {R : K → K → Ordering} (o : IsTotalOrder R) (same : IsAntisymmetric R) where
  pub turned : (x y : K) → R x y ≡ Less → R y x ≡ Greater
  turned x y h = o.antisymm y x ∙ ap ordering_reverse h

  pub turned_back : (x y : K) → R x y ≡ Greater → R y x ≡ Less
  turned_back x y h = o.antisymm y x ∙ ap ordering_reverse h

  -- what is below a key is below each that isn't before that
  pub below_through : (x y z : K) → R x y ≡ Less → is_gt (R y z) ≡ false → R x z ≡ Less
  below_through x y z h g = grind arith

  pub is_greater : (r : Ordering) → is_gt r ≡ true → r ≡ Greater
  is_greater Less g = absurd (true≢false (sym g))
  is_greater Equal g = absurd (true≢false (sym g))
  is_greater Greater g = refl
