-- A script is cut at its first line feed.
use Rattle.assise_fault_script.proofs.Common.{◌≡◌, ◌≢◌, ℕ, true, false, Option, ◌+◌, ◌-◌, ◌<◌, Bool, List, [], ◌∷◌, length, take, drop, map, filter, Some, None}
use Rattle.assise_fault_script.proofs.Common.{nat_lt, arith, inl, inr, refl, length-drop, cases_Bool, nat_tests, take_all, slice_split_first, slice_split_none}
use Rattle.assise_fault_script.proofs.Common.{length-slice_split, fails_before_first, position_or_len_is, slice_split, position, position_or_len, is_line_feed}
use Rattle.assise_fault_script.proofs.Common.{lines_of, without_return, without_returns}
use Rattle.memchr.specs.Find.{IsFirstByte, is_byte}

-- what stands behind place i
abbrev pub behind : ℕ → List ℕ → List ℕ
behind i bs = take (length bs - (i + 1)) (drop (i + 1) bs)

shorter : (more : List (List ℕ)) (piece : List ℕ) → 0 < length more → without_returns (piece ∷ more) ≡ without_return piece ∷ without_returns more
shorter [] piece h = absurd (omega arith)
shorter (q ∷ more) piece h = refl

-- a line that a line feed ends, and the others
first_line : (piece bs : List ℕ) → without_returns (piece ∷ slice_split is_line_feed bs) ≡ without_return piece ∷ lines_of bs
first_line piece bs = shorter (slice_split is_line_feed bs) piece (rw (length-slice_split is_line_feed bs) (omega arith))

pub cut : (bs : List ℕ) (i : ℕ) → position is_line_feed bs ≡ Some i → (lines_of bs ≡ without_return (take i bs) ∷ lines_of (behind i bs))
    × (length (behind i bs) < length bs)
cut bs i e = grind (arith, take_all, length-drop, slice_split_first, first_line)

pub uncut : (bs : List ℕ) → position is_line_feed bs ≡ None → lines_of bs ≡ bs ∷ []
uncut bs e = grind (arith, slice_split_none, fails_before_first)

is_false : (b : Bool) → b ≢ true → b ≡ false
is_false b not_true = elim (cases_Bool b) [ inl is_true ↦ absurd (not_true is_true) | inr false_is ↦ false_is ]

-- the first byte that is a line feed stands at the position of one
pub first_place : (bs : List ℕ) (r : Option ℕ) → IsFirstByte (is_byte 10) bs r → r ≡ position is_line_feed bs
first_place bs None h =
    let none : position_or_len is_line_feed bs ≡ length bs = position_or_len_is is_line_feed bs (length bs) 0 (omega arith)
    (λ k lt. is_false _ (h k (omega arith) lt)) (λ lt. absurd (omega (arith, lt))) in
    let no : nat_lt (position_or_len is_line_feed bs) (length bs) ≡ false = grind (arith, nat_tests) in
    rw no refl
first_place bs (Some k) h = grind (arith, position_or_len_is)

pub map-filter : {X Y : Type 0} (f : X → Y) (p : Y → Bool) (xs : List X) → map f (filter (λ x. p (f x)) xs) ≡ filter p (map f xs)
map-filter f p [] = refl
map-filter f p (x ∷ xs) = grind (arith, map-filter f p xs)
