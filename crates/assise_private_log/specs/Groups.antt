-- A log whose last records give way to groups, each of which is coalesced.
-- Assise (OSDI 2020), section 3 (CC-NVM: in optimistic mode update logs are coalesced before they are replicated).
use Rattle.std.specs.Prelude.{ℕ, List, [], ◌∷◌, ◌++◌, length, map}
use Rattle.assise_record.specs.declared.effect.Effect.{Effect}
use Rattle.assise_record.specs.Groups.{coalesced_group, groups_of, left_of, marks_of}
use Rattle.assise_record.specs.LogRecord.{LogRecord}
use Rattle.assise_record.specs.Records.{record_of}
use Rattle.assise_private_log.specs.NumberedLog.{NumberedLog, records_from, without_tail}

-- records that are left, and one more with what is left of it; the first of them has this call
abbrev pub with_left : ℕ → List LogRecord → LogRecord → List Effect → List LogRecord
with_left call [] r later = record_of call (left_of r.effects later)
with_left call (q ∷ qs) r later = (q ∷ qs) ++ record_of r.call (left_of r.effects later)

-- with a group behind the last
abbrev pub with_group : NumberedLog → List LogRecord → NumberedLog
with_group l rs = record { first = l.first; limit = l.limit; records = l.records ++ rs; begins = l.begins ++ marks_of rs }

-- with groups behind the last, one after another
abbrev pub with_groups : NumberedLog → List (List LogRecord) → NumberedLog
with_groups l [] = l
with_groups l (g ∷ gs) = with_groups (with_group l g) gs

-- the groups that the records from a number on are cut into, each without what is overridden in it
abbrev pub groups_from : NumberedLog → ℕ → List (List LogRecord)
groups_from l from = map coalesced_group (groups_of (length (records_from l from)) (records_from l from))

-- with those groups in place of the records from a number on
abbrev pub regrouped : NumberedLog → ℕ → NumberedLog
regrouped l from = with_groups (without_tail l from) (groups_from l from)
