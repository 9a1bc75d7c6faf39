-- Sets of numbers, and the lists that they are made from.
use Rattle.assise_manager.proofs.Common.{◌≡◌, ℕ, ◌+◌, ◌<◌, Bool, true, ◌||◌, List, [], ◌∷◌, ◌++◌, map, take, length, get_or, refl, sym, ap, ◌∙◌, rules, add-one}
use Rattle.assise_manager.proofs.Common.{list_any, nat_cmp, eq_by_cmp, members, same_set, nat_cmp-IsAntisymmetric, contains-from_list, from_list_push}
use Rattle.assise_manager.proofs.Common.{nat_cmp_total, unsigned_tied, nat_eq, list_any-append, IsPermutation, take-suc, map-append, insert_key, all_inodes}
use Rattle.assise_manager.proofs.Common.{arith}
use Rattle.std.specs.FinSet as set
use Rattle.std.proofs.lemmas.List.Sorted.{list_any-IsPermutation}

abbrev pub Numbers : Type 0
Numbers = set.FinSet nat_cmp

pub same : (s t : Numbers) → ((q : ℕ) → set.contains s q ≡ set.contains t q) → s ≡ t
same s t is = same_set nat_cmp_total nat_cmp-IsAntisymmetric s t is

list_any_same : (p r : ℕ → Bool) → ((q : ℕ) → p q ≡ r q) → (xs : List ℕ) → list_any p xs ≡ list_any r xs
list_any_same p r is [] = refl
list_any_same p r is (x ∷ xs) = λ i. is x i || list_any_same p r is xs i

-- two lists whose members are the same
pub same_list : (xs ys : List ℕ) → ((q : ℕ) → list_any (eq_by_cmp nat_cmp q) xs ≡ list_any (eq_by_cmp nat_cmp q) ys) → set.from_list {R = nat_cmp} xs
    ≡ set.from_list ys
same_list xs ys is = same _ _ (λ q. contains-from_list nat_cmp_total xs q ∙ is q ∙ sym (contains-from_list nat_cmp_total ys q))

-- one number more
pub union_push : (s t : Numbers) (k : ℕ) → set.union s (set.insert t k) ≡ set.insert (set.union s t) k
union_push s t k = same _ _ (λ q. grind (members, rules))

pub union-empty : (s : Numbers) → set.union s set.empty ≡ s
union-empty s = same _ _ (λ q. grind (members, rules))

pub push : (xs : List ℕ) (k : ℕ) → set.from_list {R = nat_cmp} (xs ++ k ∷ []) ≡ set.insert (set.from_list xs) k
push xs k = from_list_push nat_cmp_total nat_cmp-IsAntisymmetric xs k

there_any : (xs : List ℕ) (k : ℕ) → list_any (nat_eq k) xs ≡ true → set.contains (set.from_list {R = nat_cmp} xs) k ≡ true
there_any xs k there = contains-from_list nat_cmp_total xs k ∙ list_any_same (eq_by_cmp nat_cmp k) (nat_eq k) (λ q. unsigned_tied k q) xs ∙ there

-- a number that is there already
pub insert_there : (s : Numbers) (k : ℕ) → set.contains s k ≡ true → set.insert s k ≡ s
insert_there s k there = same _ _ (λ q. grind (members, rules))

-- a list that takes a number in unless it has it
pub listed_insert : (xs : List ℕ) (k : ℕ) → set.from_list {R = nat_cmp} (insert_key nat_eq xs k) ≡ set.insert (set.from_list xs) k
listed_insert xs k = grind (arith, list_any, nat_eq, set.from_list, nat_cmp, insert_there, there_any, push)

-- the numbers of two lists
pub from_append : (xs ys : List ℕ) → set.from_list {R = nat_cmp} (xs ++ ys) ≡ set.union (set.from_list xs) (set.from_list ys)
from_append xs ys = same _ _ (λ q. grind (members, rules, list_any-append (eq_by_cmp nat_cmp q) xs ys))

pub from_permutation : (xs ys : List ℕ) → IsPermutation xs ys → set.from_list {R = nat_cmp} ys ≡ set.from_list xs
from_permutation xs ys p = same_list ys xs (λ q. sym (list_any-IsPermutation (eq_by_cmp nat_cmp q) xs ys p))

-- the numbers of a list's prefix, and of one place more
pub union_take : (s : Numbers) (xs : List ℕ) (i d : ℕ) → i < length xs → set.union s (set.from_list {R = nat_cmp} (take (i + 1) xs))
    ≡ set.insert (set.union s (set.from_list (take i xs))) (get_or xs i d)
union_take s xs i d inside =
    ap (λ n. set.union s (set.from_list {R = nat_cmp} (take n xs))) (add-one i)
    ∙ ap (λ l. set.union s (set.from_list {R = nat_cmp} l)) (take-suc xs i d inside)
    ∙ ap (set.union s) (push (take i xs) (get_or xs i d))
    ∙ union_push s _ _

-- a list of lists, with one more
pub all_push : (ls : List Numbers) (l : Numbers) → all_inodes (ls ++ l ∷ []) ≡ set.union (all_inodes ls) l
all_push [] l = same _ _ (λ q. grind (members, rules))
all_push (k ∷ ls) l = ap (set.union k) (all_push ls l) ∙ same _ _ (λ q. grind (members, rules))

-- the lists of a prefix, and of one place more
pub all_take : {X : Type 0} (f : X → Numbers) (xs : List X) (i : ℕ) (d : X) → i < length xs → set.union (all_inodes (map f (take i xs))) (f (get_or xs i d))
    ≡ all_inodes (map f (take (i + 1) xs))
all_take f xs i d inside =
    sym (all_push (map f (take i xs)) (f (get_or xs i d)))
    ∙ ap all_inodes (sym (ap (λ n. map f (take n xs)) (add-one i) ∙ ap (map f) (take-suc xs i d inside) ∙ map-append f (take i xs) (get_or xs i d ∷ [])))

pub union_empty : (s : Numbers) → set.union set.empty s ≡ s
union_empty s = same _ _ (λ q. grind (members, rules))
