-- Lists of numbers that ascend, as sets.
use Rattle.assise_manager.proofs.Common.{◌≡◌, ℕ, suc, ◌+◌, ◌<◌, ◌≤◌, Bool, true, false, ◌||◌, ◌⊎◌, Option, Some, None, IfSome, List, [], ◌∷◌, drop, length}
use Rattle.assise_manager.proofs.Common.{get_or, refl, sym, ap, ◌∙◌, rules, arith, Bor, inl, inr, eqb, subst, zero, true≢false, add-one, list_any, insert}
use Rattle.assise_manager.proofs.Common.{dedup, slice_index_or, slice_get, option_copied, Result, Ok, Err, OnOk, OnErr, nat_cmp, eq_by_cmp, is_eq}
use Rattle.assise_manager.proofs.Common.{ordering_index, AllByRecursion, IsEquivalence, list_any-append, list_any_at, take-append-drop, nat_cmp_total, Equal-is}
use Rattle.assise_manager.proofs.Common.{tied_itself, members, contains-from_list, contains-insert, contains-remove, contains-empty, len-insert}
use Rattle.assise_manager.proofs.Common.{nat_cmp-IsAntisymmetric, IsStrictlySortedBy, IsNonDecreasingBy, IsPartitionPoint, sorted_from_strictly_increasing}
use Rattle.assise_manager.proofs.Common.{below_from_sorted, IsLowest}
use Rattle.std.specs.Prelude.{IsSome}
use Rattle.std.specs.declared.cmp.Ordering.TheVariants.{Less, Equal, Greater}
use Rattle.std.proofs.lemmas.Cmp.{eq_by_cmp_equiv}
use Rattle.std.proofs.lemmas.Map.Views.{Contains-from_any, list_any-from_Contains}
use Rattle.std.proofs.lemmas.List.Kept.{Contains-dedup_nat, Contains-from_dedup}
use Rattle.std.specs.FinSet as set
use Rattle.std.proofs.lemmas.List.Edits.{length-insert, get_or-insert_at, get_or-insert_below, get_or-insert_above}
use Rattle.assise_manager.proofs.Shared.Sets.{same, same_list, insert_there}

either : {P : Type 0} (a b : Bool) → (a || b) ≡ true → (a ≡ true → P) → (b ≡ true → P) → P
either true b e p q = p refl
either false b e p q = q e

or_middle : (a b c : Bool) → (a || (b || c)) ≡ (b || (a || c))
or_middle true true c = refl
or_middle true false c = refl
or_middle false b c = refl

pub less : (x y : ℕ) → nat_cmp x y ≡ Less → x < y
less x y e = grind arith

pub greater : (x y : ℕ) → nat_cmp x y ≡ Greater → y < x
greater x y e = grind arith

lt_both : (a b c d : ℕ) → a ≡ c → b ≡ d → c < d → a < b
lt_both a b c d p q r = omega arith

-- each later number is above the first
above_first : (x q : ℕ) (xs : List ℕ) → AllByRecursion (λ y. nat_cmp x y ≡ Less) xs → list_any (eq_by_cmp nat_cmp q) xs ≡ true → x < q
above_first x q [] all found = grind (rules)
above_first x q (y ∷ ys) all found = grind (arith, above_first x q ys all.1)

absent : (x : ℕ) (xs : List ℕ) → AllByRecursion (λ y. nat_cmp x y ≡ Less) xs → set.contains (set.from_list {R = nat_cmp} xs) x ≡ false
absent x xs all = grind (arith, above_first, contains-from_list, nat_cmp_total)

-- how many there are
pub len_ascending : (xs : List ℕ) → IsStrictlySortedBy nat_cmp xs → set.len (set.from_list {R = nat_cmp} xs) ≡ length xs
unfolding IsStrictlySortedBy
len_ascending [] s = grind (members, rules)
len_ascending (x ∷ xs) s = grind (arith, len_ascending xs s.1, len-insert, absent)

-- the first is the lowest
pub first_lowest : (x : ℕ) (xs : List ℕ) → IsStrictlySortedBy nat_cmp (x ∷ xs) → IsLowest (set.from_list (x ∷ xs)) x
unfolding IsStrictlySortedBy
first_lowest x xs s =
    record {
      there = grind (members, rules, tied_itself nat_cmp_total x);
      below = λ q there.
          either (eq_by_cmp nat_cmp q x) _ (sym (contains-from_list nat_cmp_total (x ∷ xs) q) ∙ there)
          (λ same. subst (λ z. x ≤ z) (sym (nat_cmp-IsAntisymmetric q x ((Equal-is (nat_cmp q x)).0 same))) (omega arith))
          (λ later. let h : x < q = above_first x q xs s.0 later in omega arith);
    }

-- without the first
pub without_first : (x : ℕ) (xs : List ℕ) → IsStrictlySortedBy nat_cmp (x ∷ xs) → set.from_list {R = nat_cmp} xs ≡ set.remove (set.from_list (x ∷ xs)) x
unfolding IsStrictlySortedBy
without_first x xs s = grind (arith, same, nat_cmp-IsAntisymmetric, absent x xs s.0, contains-remove, nat_cmp_total, contains-insert)

behind_place : (xs : List ℕ) (i x k : ℕ) → IsStrictlySortedBy nat_cmp xs → i ≤ length xs → i < k → k < length xs →
    get_or (insert xs i x) k 0 < get_or (insert xs i x) (k + 1) 0
behind_place xs i x zero s within behind inside = absurd (omega arith)
behind_place xs i x (suc k) s within behind inside =
    lt_both _ _ _ _ (ap (λ n. get_or (insert xs i x) n 0) (sym (add-one k)) ∙ get_or-insert_above xs i x 0 k (omega arith) within)
    (get_or-insert_above xs i x 0 (suc k) (omega arith) within) (below_from_sorted xs k (suc k) 0 s (omega arith) inside)

-- a number put in at its place
pub insert_ascending : (xs : List ℕ) (i x : ℕ) → IsStrictlySortedBy nat_cmp xs → i ≤ length xs → ((k : ℕ) → k < i → get_or xs k 0 < x) →
    ((k : ℕ) → i ≤ k → k < length xs → x < get_or xs k 0) → IsStrictlySortedBy nat_cmp (insert xs i x)
insert_ascending xs i x s within below above = grind
    (arith, length-insert, below_from_sorted, sorted_from_strictly_increasing, get_or-insert_at, get_or-insert_above, get_or-insert_below, behind_place)

-- a number put in anywhere
pub insert_set : (xs : List ℕ) (i x : ℕ) → i ≤ length xs → set.from_list {R = nat_cmp} (insert xs i x) ≡ set.insert (set.from_list xs) x
insert_set xs i x within = grind (arith, same_list (insert xs i x) (x ∷ xs) (grind (arith, list_any-append, take-append-drop i xs)))

same_truth : (a b : Bool) → (a ≡ true → b ≡ true) → (b ≡ true → a ≡ true) → a ≡ b
same_truth true b p q = sym (p refl)
same_truth false true p q = q refl
same_truth false false p q = refl

same_number : (x y : ℕ) → eq_by_cmp nat_cmp x y ≡ true → x ≡ y
same_number x y e = nat_cmp-IsAntisymmetric x y ((Equal-is (nat_cmp x y)).0 e)

ties : IsEquivalence (eq_by_cmp nat_cmp)
ties = eq_by_cmp_equiv nat_cmp_total

-- sorted, and each kept once
pub dedup_set : (xs : List ℕ) → set.from_list {R = nat_cmp} (dedup eqb xs) ≡ set.from_list xs
dedup_set xs = same_list (dedup eqb xs) xs (λ q. same_truth _ _
    (λ here. list_any-from_Contains ties q xs (Contains-from_dedup eqb xs q (Contains-from_any same_number q (dedup eqb xs) here)))
    (λ here. list_any-from_Contains ties q (dedup eqb xs) (Contains-dedup_nat xs q (Contains-from_any same_number q xs here))))

both_le : (a b : ℕ) → a ≤ b → b ≤ a → a ≡ b
both_le a b p q = omega arith

abbrev MatchOrder : ℕ → ℕ → ℕ → Type 0
MatchOrder n a x = ((a < x) × (n ≡ 0)) ⊎ (((a ≡ x) × (n ≡ 1)) ⊎ ((x < a) × (n ≡ 2)))

index_ascends_from : (a b x m n : ℕ) → MatchOrder m a x → MatchOrder n b x → a ≤ b → m ≤ n
index_ascends_from a b x m n p q h = grind arith

index_of : (a x : ℕ) → MatchOrder (ordering_index (nat_cmp a x)) a x
index_of a x = grind arith

index_ascends : (a b x : ℕ) → a ≤ b → ordering_index (nat_cmp a x) ≤ ordering_index (nat_cmp b x)
index_ascends a b x h = index_ascends_from a b x _ _ (index_of a x) (index_of b x) h

-- a list that ascends can be searched
pub searchable : (xs : List ℕ) (x : ℕ) → IsStrictlySortedBy nat_cmp xs → IsNonDecreasingBy (λ y. ordering_index (nat_cmp y x)) xs
searchable xs x s i j d low inside = search (below_from_sorted, arith) parts 3

-- a number that a search doesn't find, put in at the place that it answers
pub placed_ascending : (xs : List ℕ) (i x : ℕ) → IsStrictlySortedBy nat_cmp xs → i ≤ length xs →
    IsPartitionPoint (λ y. nat_cmp y x ≡ Less) (λ y. nat_cmp y x ≡ Greater) xs i → IsStrictlySortedBy nat_cmp (insert xs i x)
placed_ascending xs i x s within parted = grind (arith, insert_ascending)

-- a number that a search finds
pub found_there : (xs : List ℕ) (i x : ℕ) → i < length xs → nat_cmp (get_or xs i 0) x ≡ Equal → set.from_list {R = nat_cmp} xs ≡ set.insert (set.from_list xs) x
found_there xs i x inside e = grind (arith, insert_there, contains-from_list, nat_cmp_total, list_any_at)

there_first : (x : ℕ) (xs : List ℕ) → set.contains (set.from_list {R = nat_cmp} (x ∷ xs)) x ≡ true
there_first x xs = contains-from_list nat_cmp_total (x ∷ xs) x ∙ ap (λ b. b || list_any (eq_by_cmp nat_cmp x) xs) (ap is_eq (tied_itself nat_cmp_total x))

-- without the first, if there is one
pub drop_ascending : (xs : List ℕ) → IsStrictlySortedBy nat_cmp xs → IsStrictlySortedBy nat_cmp (drop 1 xs)
unfolding IsStrictlySortedBy
drop_ascending [] s = s
drop_ascending (x ∷ xs) s = s.1

pub drop_taken : (xs : List ℕ) → IsStrictlySortedBy nat_cmp xs → (inode : ℕ) → IsLowest (set.from_list xs) inode → set.from_list {R = nat_cmp} (drop 1 xs)
    ≡ set.remove (set.from_list xs) inode
drop_taken [] s inode low = absurd (true≢false (sym low.there ∙ contains-empty nat_cmp inode))
drop_taken (x ∷ xs) s inode low =
    let first : IsLowest (set.from_list (x ∷ xs)) x = first_lowest x xs s in
    let up : inode ≤ x = low.below x first.there in
    let down : x ≤ inode = first.below inode low.there in
    subst (λ n. set.from_list {R = nat_cmp} xs ≡ set.remove (set.from_list (x ∷ xs)) n) (both_le x inode down up) (without_first x xs s)

pub drop_none : (xs : List ℕ) → set.from_list {R = nat_cmp} xs ≡ set.empty → set.from_list {R = nat_cmp} (drop 1 xs) ≡ set.from_list xs
drop_none [] none = refl
drop_none (x ∷ xs) none = absurd (true≢false (sym (there_first x xs) ∙ ap (λ s. set.contains s x) none ∙ contains-empty nat_cmp x))

pub none_lowest : (xs : List ℕ) → slice_get xs 0 ≡ None → set.from_list {R = nat_cmp} xs ≡ set.empty
none_lowest [] none = refl
none_lowest (x ∷ xs) none = grind (rules)

-- the first, if there is one
pub lowest_of : (xs : List ℕ) (o : Option ℕ) → IsStrictlySortedBy nat_cmp xs → o ≡ slice_get xs 0 → IfSome o (IsLowest (set.from_list xs))
lowest_of [] o s e = subst (λ r. IfSome r (IsLowest (set.from_list {R = nat_cmp} []))) (sym e) tt
lowest_of (x ∷ xs) o s e = subst (λ r. IfSome r (IsLowest (set.from_list (x ∷ xs)))) (sym e) (first_lowest x xs s)

-- a list that a growth left or changed
pub either_ascends : {T E : Type 0} (r : Result T E) (old new grown : List ℕ) (P : Type 0) → OnOk r (new ≡ grown) → OnErr r ((new ≡ old) × P) →
    IsStrictlySortedBy nat_cmp old → IsStrictlySortedBy nat_cmp grown → IsStrictlySortedBy nat_cmp new
either_ascends (Ok t) old new grown P ok err s g = subst (IsStrictlySortedBy nat_cmp) (sym ok) g
either_ascends (Err e) old new grown P ok err s g = subst (IsStrictlySortedBy nat_cmp) (sym err.0) s

-- the first of a list, lent and copied
pub prefix_is : (xs : List ℕ) (n : ℕ) (r : Option (Bor ℕ)) → n ≡ length xs → (IsSome r → 0 < n) → (0 < n → IsSome r) →
    IfSome r (λ x. x.now ≡ slice_index_or xs 0 x.now) → option_copied r ≡ slice_get xs 0
prefix_is [] n None e some there at = refl
prefix_is [] n (Some x) e some there at = absurd (let h : 0 < n = some refl in omega arith)
prefix_is (x ∷ xs) n None e some there at = absurd (true≢false (sym (there (omega arith))))
prefix_is (x ∷ xs) n (Some y) e some there at = ap Some at

-- some numbers have a lowest, or there are none
pub lowest_or_none : (xs : List ℕ) → IsStrictlySortedBy nat_cmp xs → (set.from_list {R = nat_cmp} xs ≡ set.empty) ⊎ ((i : ℕ) × IsLowest (set.from_list xs) i)
lowest_or_none [] s = inl refl
lowest_or_none (x ∷ xs) s = inr (x, first_lowest x xs s)
