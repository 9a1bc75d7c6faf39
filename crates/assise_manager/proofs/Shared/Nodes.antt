-- Lists of standings: what a change of one node, or of each, leaves of the list of full nodes.
use Rattle.assise_manager.proofs.Common.{◌≡◌, ◌≢◌, ℕ, zero, suc, ◌+◌, ◌<◌, ◌≤◌, Bool, true, false, cond, ◌&&◌, inl, inr, IsSome, is_some, Some, List, [], ◌∷◌}
use Rattle.assise_manager.proofs.Common.{map, length, refl, sym, ap, subst, arith, true≢false, eqb-true, ◌==◌, list_all, list_any, slice_get, slice_set}
use Rattle.assise_manager.proofs.Common.{slice_index_or, and_parts, and_from, or_cases, or_left, none-some, same_Some, Standing, full_from, is_full, full, down}
use Rattle.assise_manager.proofs.Common.{is_away}
use Rattle.std.proofs.Common.{eq-eqb}
use Rattle.assise_manager.specs.Standings.Standing.{returning}

-- no test passes and fails
pub never : {P : Type 0} → false ≡ true → P
never e = absurd (true≢false (sym e))

-- who is away isn't full
pub away_not_full : (s : Standing) → is_away (Some s) ≡ true → is_full s ≡ false
away_not_full full away = never away
away_not_full (down since) away = refl
away_not_full (returning since donor stale) away = refl

-- a node that is away becomes another one that is
pub full_from_set_away : (k : ℕ) (xs : List Standing) (i : ℕ) (s : Standing) → is_away (slice_get xs i) ≡ true → is_away (Some s) ≡ true
    → full_from k (slice_set xs i s) ≡ full_from k xs
full_from_set_away k [] i s at new = refl
full_from_set_away k (x ∷ xs) zero s at new = grind arith
full_from_set_away k (x ∷ xs) (suc i) s at new = ap (λ l. cond (is_full x) (k ∷ l) l) (full_from_set_away (suc k) xs i s at new)

-- a change of each node that makes none full and leaves each full one so
pub full_from_map : (f : Standing → Standing) → ((s : Standing) → is_full (f s) ≡ is_full s) → (k : ℕ) (xs : List Standing)
    → full_from k (map f xs) ≡ full_from k xs
full_from_map f same k [] = refl
full_from_map f same k (x ∷ xs) = grind (arith, full_from_map f same (suc k) xs)

-- such a change leaves whether all are full
pub all_full_map : (f : Standing → Standing) → ((s : Standing) → is_full (f s) ≡ is_full s) → (xs : List Standing)
    → list_all is_full (map f xs) ≡ list_all is_full xs
all_full_map f same [] = refl
all_full_map f same (x ∷ xs) = grind (arith, all_full_map f same xs)

-- what all pass still all pass once one that passes is put in
pub list_all_set : (p : Standing → Bool) (xs : List Standing) (i : ℕ) (s : Standing) → list_all p xs ≡ true → p s ≡ true
    → list_all p (slice_set xs i s) ≡ true
list_all_set p [] i s all new = refl
list_all_set p (x ∷ xs) zero s all new = and_from (p s) (list_all p xs) new (and_parts (p x) (list_all p xs) all).1
list_all_set p (x ∷ xs) (suc i) s all new =
    let both = and_parts (p x) (list_all p xs) all in
    and_from (p x) (list_all p (slice_set xs i s)) both.0 (list_all_set p xs i s both.1 new)

-- each passes another test once it is changed
pub list_all_map : (p q : Standing → Bool) (f : Standing → Standing) (xs : List Standing) → list_all p xs ≡ true
    → ((s : Standing) → p s ≡ true → q (f s) ≡ true) → list_all q (map f xs) ≡ true
list_all_map p q f [] all each = refl
list_all_map p q f (x ∷ xs) all each =
    let both = and_parts (p x) (list_all p xs) all in
    and_from (q (f x)) (list_all q (map f xs)) (each x both.0) (list_all_map p q f xs both.1 each)

-- each passes another test
pub list_all_more : (p q : Standing → Bool) (xs : List Standing) → list_all p xs ≡ true → ((s : Standing) → p s ≡ true → q s ≡ true)
    → list_all q xs ≡ true
list_all_more p q [] all each = refl
list_all_more p q (x ∷ xs) all each =
    let both = and_parts (p x) (list_all p xs) all in
    and_from (q x) (list_all q xs) (each x both.0) (list_all_more p q xs both.1 each)

-- the one at a place passes what all do
pub list_all_place : (p : Standing → Bool) (xs : List Standing) (i : ℕ) (s : Standing) → list_all p xs ≡ true → slice_get xs i ≡ Some s
    → p s ≡ true
list_all_place p [] i s all at = absurd (none-some s at)
list_all_place p (x ∷ xs) zero s all at = subst (λ t. p t ≡ true) (same_Some x s at) (and_parts (p x) (list_all p xs) all).0
list_all_place p (x ∷ xs) (suc i) s all at = list_all_place p xs i s (and_parts (p x) (list_all p xs) all).1 at

-- what is put in at a place that there is stands there
pub set_place : (xs : List Standing) (i : ℕ) (s : Standing) → IsSome (slice_get xs i) → slice_get (slice_set xs i s) i ≡ Some s
set_place [] i s there = never there
set_place (x ∷ xs) zero s there = refl
set_place (x ∷ xs) (suc i) s there = set_place xs i s there

pub slice_get_set : (xs : List Standing) (i : ℕ) (old s : Standing) → slice_get xs i ≡ Some old → slice_get (slice_set xs i s) i ≡ Some s
slice_get_set xs i old s at = set_place xs i s (ap is_some at)

-- a number of the list that isn't its first, which it may lack
tail_has : (b : Bool) (k d : ℕ) (l : List ℕ) → list_any (λ n. n == d) (cond b (k ∷ l) l) ≡ true → (k ≡ d → ⊥)
    → list_any (λ n. n == d) l ≡ true
tail_has true k d l there other = grind arith
tail_has false k d l there other = there

-- a number stays in the list if it stays in the rest
rest_has : (b : Bool) (k d : ℕ) (l m : List ℕ) → (list_any (λ n. n == d) l ≡ true → list_any (λ n. n == d) m ≡ true)
    → list_any (λ n. n == d) (cond b (k ∷ l) l) ≡ true → list_any (λ n. n == d) (cond b (k ∷ m) m) ≡ true
rest_has true k d l m rest there = grind arith
rest_has false k d l m rest there = rest there

-- a node is set to something that isn't full: each other full one stays
pub others_stay : (k d : ℕ) (xs : List Standing) (i : ℕ) (s : Standing) → is_full s ≡ false → list_any (λ n. n == d) (full_from k xs) ≡ true
    → d ≢ k + i → list_any (λ n. n == d) (full_from k (slice_set xs i s)) ≡ true
others_stay k d [] i s new there other = there
others_stay k d (x ∷ xs) zero s new there other = grind arith
others_stay k d (x ∷ xs) (suc i) s new there other =
    rest_has (is_full x) k d (full_from (suc k) xs) (full_from (suc k) (slice_set xs i s))
    (λ rest. others_stay (suc k) d xs i s new rest (λ e. other (omega arith))) there

one_less : (b c : Bool) (k : ℕ) (l : List ℕ) → b ≡ true → c ≡ false → length (cond c (k ∷ l) l) + 1 ≡ length (cond b (k ∷ l) l)
one_less true false k l b c = omega arith
one_less true true k l b c = absurd (true≢false c)
one_less false c k l b d = never b

rest_less : (b : Bool) (k : ℕ) (l m : List ℕ) → length m + 1 ≡ length l → length (cond b (k ∷ m) m) + 1 ≡ length (cond b (k ∷ l) l)
rest_less true k l m less = omega arith
rest_less false k l m less = less

-- a full node is set to something that isn't: one full node less
pub one_full_less : (k : ℕ) (xs : List Standing) (i : ℕ) (s : Standing) → is_full s ≡ false → slice_get xs i ≡ Some full
    → length (full_from k (slice_set xs i s)) + 1 ≡ length (full_from k xs)
one_full_less k [] i s new at = absurd (none-some full at)
one_full_less k (x ∷ xs) zero s new at = one_less (is_full x) (is_full s) k (full_from (suc k) xs) (ap is_full (same_Some x full at)) new
one_full_less k (x ∷ xs) (suc i) s new at = grind (arith, one_full_less (suc k) xs i s new at)

-- a node is set to full: each that was full stays
pub all_stay : (k d : ℕ) (xs : List Standing) (i : ℕ) → list_any (λ n. n == d) (full_from k xs) ≡ true
    → list_any (λ n. n == d) (full_from k (slice_set xs i full)) ≡ true
all_stay k d [] i there = there
all_stay k d (x ∷ xs) zero there = grind arith
all_stay k d (x ∷ xs) (suc i) there =
    rest_has (is_full x) k d (full_from (suc k) xs) (full_from (suc k) (slice_set xs i full)) (λ rest. all_stay (suc k) d xs i rest) there

rest_counts : (b : Bool) (k : ℕ) (l m : List ℕ) → length l ≤ length m → length (cond b (k ∷ l) l) ≤ length (cond b (k ∷ m) m)
rest_counts true k l m more = omega arith
rest_counts false k l m more = more

-- a node is set to full: there are no fewer full nodes
pub no_fewer_full : (k : ℕ) (xs : List Standing) (i : ℕ) → length (full_from k xs) ≤ length (full_from k (slice_set xs i full))
no_fewer_full k [] i = omega arith
no_fewer_full k (x ∷ xs) zero = grind arith
no_fewer_full k (x ∷ xs) (suc i) = grind (arith, no_fewer_full (suc k) xs i)

-- no more are full than there are
pub few_full : (k : ℕ) (xs : List Standing) → length (full_from k xs) ≤ length xs
few_full k [] = omega arith
few_full k (x ∷ xs) = grind (arith, few_full (suc k) xs)

first_full : (b c : Bool) (k n : ℕ) (l : List ℕ) → (b && c) ≡ true → (c ≡ true → length l ≡ n) → length (cond b (k ∷ l) l) ≡ suc n
first_full true c k n l all rest = ap suc (rest all)
first_full false c k n l all rest = never all

-- where all are full, as many are as there are
pub all_full_count : (k : ℕ) (xs : List Standing) → list_all is_full xs ≡ true → length (full_from k xs) ≡ length xs
all_full_count k [] all = refl
all_full_count k (x ∷ xs) all = grind (arith, all_full_count (suc k) xs)

first_counted : (b c : Bool) (k n : ℕ) (l : List ℕ) → length l ≤ n → length (cond b (k ∷ l) l) ≡ suc n → (length l ≡ n → c ≡ true)
    → (b && c) ≡ true
first_counted true c k n l few count rest = rest (omega arith)
first_counted false c k n l few count rest = absurd (omega arith)

-- where as many are full as there are, all are
pub count_all_full : (k : ℕ) (xs : List Standing) → length (full_from k xs) ≡ length xs → list_all is_full xs ≡ true
count_all_full k [] count = refl
count_all_full k (x ∷ xs) count = grind (arith, count_all_full (suc k) xs, few_full)

-- the number of a full node
abbrev IsFullFrom : ℕ → ℕ → List Standing → Type 0
IsFullFrom k d xs = (i : ℕ) × (d ≡ k + i) × (slice_get xs i ≡ Some full)

one_further : (k d : ℕ) (x : Standing) (xs : List Standing) → IsFullFrom (suc k) d xs → IsFullFrom k d (x ∷ xs)
one_further k d x xs rest = let at : d ≡ suc k + rest.0 = rest.1 in (suc rest.0, omega arith, rest.2)

-- each number in the list is that of a full node
pub full_there : (k d : ℕ) (xs : List Standing) → list_any (λ n. n == d) (full_from k xs) ≡ true
    → (i : ℕ) × (d ≡ k + i) × (slice_get xs i ≡ Some full)
full_there k d [] there = never there
full_there k d (full ∷ xs) there =
    elim (or_cases (k == d) (list_any (λ n. n == d) (full_from (suc k) xs)) there) [
      | inl first ↦ (let same : k ≡ d = eqb-true k d first in (zero, omega arith, refl))
      | inr later ↦ one_further k d full xs (full_there (suc k) d xs later)
    ]
full_there k d (down since ∷ xs) there = one_further k d (down since) xs (full_there (suc k) d xs there)
full_there k d (returning since donor stale ∷ xs) there = one_further k d (returning since donor stale) xs (full_there (suc k) d xs there)

-- the first of a list is one of it
pub first_there : (xs : List ℕ) → 0 < length xs → list_any (λ n. n == slice_index_or xs 0 0) xs ≡ true
first_there [] some = absurd (omega arith)
first_there (x ∷ xs) some = or_left (x == x) (list_any (λ n. n == x) xs) (eq-eqb x x refl)
