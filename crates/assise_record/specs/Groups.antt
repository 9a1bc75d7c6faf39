-- Groups of a client's records, which are replicated, digested and cut whole.
-- Assise (OSDI 2020), section 3 (CC-NVM: in optimistic mode update logs are coalesced before they are replicated).
use Rattle.std.specs.Prelude.{◌≡◌, ℕ, zero, suc, ◌+◌, ◌-◌, ◌<◌, ◌==◌, nat_le, Bool, true, false, ◌&&◌, ◌||◌, take, drop, List, [], ◌∷◌, ◌++◌, length, map, if◌then◌else◌}
use Rattle.assise_record.specs.declared.effect.Effect.{Effect}
use Rattle.assise_record.specs.Coalesced.{overridden}
use Rattle.assise_record.specs.LogRecord.{LogRecord}
use Rattle.assise_record.specs.Records.{all_effects, has_some, record_of, call_of}

-- of a record's effects those that neither a later one of its own nor one of these overrides
abbrev pub left_of : List Effect → List Effect → List Effect
left_of [] later = []
left_of (e ∷ es) later = if overridden e (es ++ later) then left_of es later else e ∷ left_of es later

-- the records of a group that have effects left
abbrev pub left_in : List LogRecord → List LogRecord
left_in [] = []
left_in (r ∷ rs) = record_of r.call (left_of r.effects (all_effects rs)) ++ left_in rs

-- the first record gets this call
abbrev pub begun_by : ℕ → List LogRecord → List LogRecord
begun_by call [] = []
begun_by call (r ∷ rs) = record { call = call; effects = r.effects } ∷ rs

-- a group without what is overridden in it: its first record stands for the call that the group begins with
abbrev pub coalesced_group : List LogRecord → List LogRecord
coalesced_group rs = begun_by (call_of rs 0 0) (left_in rs)

-- each record has some effects
abbrev pub AllHaveEffects : List LogRecord → Type 0
AllHaveEffects [] = Unit {0}
AllHaveEffects (r ∷ rs) = (has_some r.effects ≡ true) × AllHaveEffects rs

-- ---- groups one after another

-- a group has records, each with effects
abbrev pub IsGroup : List LogRecord → Type 0
IsGroup g = (0 < length g) × AllHaveEffects g

abbrev pub AreGroups : List (List LogRecord) → Type 0
AreGroups [] = Unit {0}
AreGroups (g ∷ gs) = IsGroup g × AreGroups gs

-- their records
abbrev pub all_records : List (List LogRecord) → List LogRecord
all_records [] = []
all_records (g ∷ gs) = g ++ all_records gs

-- what is left of them
abbrev pub all_coalesced : List (List LogRecord) → List LogRecord
all_coalesced [] = []
all_coalesced (g ∷ gs) = coalesced_group g ++ all_coalesced gs

-- the first `k` records of what is left are whole groups
abbrev pub are_whole : List (List LogRecord) → ℕ → Bool
are_whole [] k = k == 0
are_whole (g ∷ gs) k = (k == 0) || (nat_le (length (coalesced_group g)) k && are_whole gs (k - length (coalesced_group g)))

-- and how many records the groups of those `k` had before they were coalesced
abbrev pub were : List (List LogRecord) → ℕ → ℕ
were [] k = k
were (g ∷ gs) k = if nat_le (length (coalesced_group g)) k then length g + were gs (k - length (coalesced_group g)) else 0

-- ---- groups of a log

-- records in groups of at most 64, the last with the rest
abbrev pub groups_of : ℕ → List LogRecord → List (List LogRecord)
groups_of zero rs = []
groups_of (suc n) [] = []
groups_of (suc n) (r ∷ rs) = take 64 (r ∷ rs) ∷ groups_of n (drop 64 (r ∷ rs))

-- of the records of a group, whether each is the first
abbrev pub marks_of : List LogRecord → List Bool
marks_of [] = []
marks_of (r ∷ rs) = true ∷ map (λ q. false) rs

-- of the records of groups, whether each is the first of its group
abbrev pub all_marks : List (List LogRecord) → List Bool
all_marks [] = []
all_marks (g ∷ gs) = marks_of g ++ all_marks gs
