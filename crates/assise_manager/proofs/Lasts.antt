-- The last of some lists of inodes.
use Rattle.assise_manager.proofs.Common.{◌≡◌, ℕ, zero, suc, ◌-◌, ◌≤◌, true, List, [], ◌∷◌, map, length, refl, ap, ◌∙◌, arith, Result, Ok, Err, OnOk}
use Rattle.assise_manager.proofs.Common.{slice_index_or, slice_set, nat_cmp, WrittenList, with_written, listed_inodes, has_list_room, has_last_room}
use Rattle.std.specs.FinSet as set

-- the room of the last
pub last_room : (count : ℕ) (xs : List WrittenList) (k : ℕ) (d : WrittenList) → suc k ≡ length xs →
    has_last_room count xs ≡ has_list_room count (slice_index_or xs k d)
last_room count [] k d e = absurd (omega arith)
last_room count (x ∷ []) zero d e = refl
last_room count (x ∷ []) (suc k) d e = absurd (omega arith)
last_room count (x ∷ y ∷ xs) zero d e = absurd (omega arith)
last_room count (x ∷ y ∷ xs) (suc k) d e = last_room count (y ∷ xs) k d (omega arith)

-- the last in another's place
pub last_room_set : (count : ℕ) (xs : List WrittenList) (k : ℕ) (y : WrittenList) → suc k ≡ length xs → has_last_room count (slice_set xs k y)
    ≡ has_list_room count y
last_room_set count [] k y e = absurd (omega arith)
last_room_set count (x ∷ []) zero y e = refl
last_room_set count (x ∷ []) (suc k) y e = absurd (omega arith)
last_room_set count (x ∷ z ∷ xs) zero y e = absurd (omega arith)
last_room_set count (x ∷ z ∷ []) (suc zero) y e = refl
last_room_set count (x ∷ z ∷ []) (suc (suc k)) y e = absurd (omega arith)
last_room_set count (x ∷ z ∷ w ∷ xs) (suc zero) y e = absurd (omega arith)
last_room_set count (x ∷ z ∷ w ∷ xs) (suc (suc k)) y e = last_room_set count (z ∷ w ∷ xs) (suc k) y (omega arith)

-- the last with more inodes
pub last_written : (inodes : set.FinSet nat_cmp) (xs : List WrittenList) (k : ℕ) (y d : WrittenList) → suc k ≡ length xs →
    listed_inodes y ≡ set.union (listed_inodes (slice_index_or xs k d)) inodes → map listed_inodes (slice_set xs k y) ≡ with_written (map listed_inodes xs)
    inodes
last_written inodes [] k y d e h = absurd (omega arith)
last_written inodes (x ∷ []) zero y d e h = ap (λ l. l ∷ []) h
last_written inodes (x ∷ []) (suc k) y d e h = absurd (omega arith)
last_written inodes (x ∷ z ∷ xs) zero y d e h = absurd (omega arith)
last_written inodes (x ∷ z ∷ xs) (suc k) y d e h = ap (λ l. listed_inodes x ∷ l) (last_written inodes (z ∷ xs) k y d (omega arith) h)

-- the last with the same inodes
pub last_same : (xs : List WrittenList) (k : ℕ) (y d : WrittenList) → suc k ≡ length xs → listed_inodes y ≡ listed_inodes (slice_index_or xs k d) →
    map listed_inodes (slice_set xs k y) ≡ map listed_inodes xs
last_same [] k y d e h = absurd (omega arith)
last_same (x ∷ xs) zero y d e h = ap (λ l. l ∷ map listed_inodes xs) h
last_same (x ∷ []) (suc k) y d e h = absurd (omega arith)
last_same (x ∷ z ∷ xs) (suc k) y d e h = ap (λ l. listed_inodes x ∷ l) (last_same (z ∷ xs) k y d (omega arith) h)

-- the place of the last
pub last_place : (k n : ℕ) → 1 ≤ n → k ≡ n - 1 → suc k ≡ n
last_place k n some e = omega arith

-- the room that was made, where it was
pub room_made : {E : Type 0} (r : Result (Unit {0}) E) (count : ℕ) (xs : List WrittenList) (k : ℕ) (y : WrittenList) → suc k ≡ length xs →
    OnOk r (has_list_room count y ≡ true) → OnOk r (has_last_room count (slice_set xs k y) ≡ true)
room_made (Ok t) count xs k y e made = last_room_set count xs k y e ∙ made
room_made (Err t) count xs k y e made = tt
