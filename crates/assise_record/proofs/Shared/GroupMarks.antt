-- Groups of at most 64 records, and the marks of what is left of them.
use Rattle.assise_record.proofs.Common.{◌≡◌, ℕ, zero, suc, ◌-◌, ◌<◌, ◌≤◌, ◌&&◌, nat_le, Bool, true, false, List, [], ◌∷◌, ◌++◌, length, take, drop, get_or, map}
use Rattle.assise_record.proofs.Common.{refl, ap, ◌∙◌, arith, inl, inr, length-append, cases_lt, get_or-append_right, length-drop, length-map, AllHaveEffects}
use Rattle.assise_record.proofs.Common.{AreGroups, all_records, all_coalesced, are_whole, all_marks, coalesced_group, groups_of, marks_of, LogRecord}
use Rattle.std.proofs.Common.{take-append-drop}
use Rattle.assise_record.proofs.Shared.GroupRest.{group-some}

-- ---- groups of records

pub groups-all : (n : ℕ) (rs : List LogRecord) → length rs ≤ n → all_records (groups_of n rs) ≡ rs
groups-all zero [] h = refl
groups-all zero (r ∷ rs) h = absurd (omega (arith, h))
groups-all (suc n) [] h = refl
groups-all (suc n) (r ∷ rs) h =
    ap (λ l. take 64 (r ∷ rs) ++ l) (groups-all n (drop 64 (r ∷ rs)) (omega (arith, h, length-drop 64 (r ∷ rs)))) ∙ take-append-drop 64 (r ∷ rs)

effects-take : (k : ℕ) (rs : List LogRecord) → AllHaveEffects rs → AllHaveEffects (take k rs)
effects-take zero rs h = tt
effects-take (suc k) [] h = tt
effects-take (suc k) (r ∷ rs) h = (h.0, effects-take k rs h.1)

effects-drop : (k : ℕ) (rs : List LogRecord) → AllHaveEffects rs → AllHaveEffects (drop k rs)
effects-drop zero rs h = h
effects-drop (suc k) [] h = tt
effects-drop (suc k) (r ∷ rs) h = effects-drop k rs h.1

pub groups-are : (n : ℕ) (rs : List LogRecord) → AllHaveEffects rs → AreGroups (groups_of n rs)
groups-are zero rs h = tt
groups-are (suc n) [] h = tt
groups-are (suc n) (r ∷ rs) h = search (groups-are n (drop 64 (r ∷ rs)) (effects-drop 64 (r ∷ rs) h), effects-take, arith) parts 3

-- as many steps as there are records are enough, and more come to the same
pub groups-steps : (n m : ℕ) (rs : List LogRecord) → length rs ≤ n → length rs ≤ m → groups_of n rs ≡ groups_of m rs
groups-steps zero zero [] few less = refl
groups-steps zero (suc m) [] few less = refl
groups-steps (suc n) zero [] few less = refl
groups-steps (suc n) (suc m) [] few less = refl
groups-steps zero m (r ∷ rs) few less = absurd (omega (arith, few))
groups-steps (suc n) zero (r ∷ rs) few less = absurd (omega (arith, less))
groups-steps (suc n) (suc m) (r ∷ rs) few less =
    ap (λ gs. take 64 (r ∷ rs) ∷ gs)
    (groups-steps n m (drop 64 (r ∷ rs)) (omega (arith, few, length-drop 64 (r ∷ rs))) (omega (arith, less, length-drop 64 (r ∷ rs))))

-- each group is coalesced, and then they stand one behind another
pub all-coalesced : (gs : List (List LogRecord)) → all_records (map coalesced_group gs) ≡ all_coalesced gs
all-coalesced [] = refl
all-coalesced (g ∷ gs) = ap (λ rs. coalesced_group g ++ rs) (all-coalesced gs)

-- ---- marks

pub length-marks : (rs : List LogRecord) → length (marks_of rs) ≡ length rs
length-marks [] = refl
length-marks (r ∷ rs) = ap suc (length-map rs (λ (q : LogRecord). false))

-- behind the first record of a group none is the first of one
behind_first : (rs : List LogRecord) (ms : List Bool) (k : ℕ) → k < length rs → get_or (map (λ (q : LogRecord). false) rs ++ ms) k true ≡ false
behind_first [] ms k h = absurd (omega (arith, h))
behind_first (r ∷ rs) ms zero h = refl
behind_first (r ∷ rs) ms (suc k) h = behind_first rs ms k (omega (arith, h))

inside : (rs : List LogRecord) (ms : List Bool) (k : ℕ) → suc k < length rs → get_or (marks_of rs ++ ms) (suc k) true ≡ false
inside [] ms k h = absurd (omega (arith, h))
inside (r ∷ rs) ms k h = behind_first rs ms k (omega (arith, h))

first_of : (rs : List LogRecord) (ms : List Bool) → 0 < length rs → get_or (marks_of rs ++ ms) 0 true ≡ true
first_of [] ms some = absurd (omega (arith, some))
first_of (r ∷ rs) ms some = refl

some_whole : (g : List LogRecord) (gs : List (List LogRecord)) (k : ℕ) →
    are_whole (g ∷ gs) (suc k) ≡ (nat_le (length (coalesced_group g)) (suc k) && are_whole gs (suc k - length (coalesced_group g)))
some_whole g gs k = grind arith

-- by the marks of what is left a group begins, or nothing comes, exactly where the records before are whole groups
pub marked : (gs : List (List LogRecord)) (k : ℕ) → AreGroups gs → k ≤ length (all_coalesced gs) → get_or (all_marks (map coalesced_group gs)) k true
    ≡ are_whole gs k
marked [] zero h low = refl
marked [] (suc k) h low = absurd (omega (arith, low))
marked (g ∷ gs) zero h low = first_of (coalesced_group g) (all_marks (map coalesced_group gs)) (group-some g h.0.0 h.0.1)
marked (g ∷ gs) (suc k) h low =
    elim (cases_lt (suc k) (length (coalesced_group g))) [
      | inl within ↦
          grind (arith, inside)
      | inr past ↦
          grind (
            arith,
            marked gs (suc k - length (coalesced_group g)) h.1 (omega (arith, past, low, length-append (coalesced_group g) (all_coalesced gs))),
            coalesced_group,
            length-append,
            all_coalesced,
            get_or-append_right,
            length-marks,
          )
    ]
