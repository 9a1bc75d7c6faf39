-- What a node sends of its log: Assise (OSDI 2020), section 3, on logs that are replicated along a chain; van Renesse and
-- Schneider, chain replication (OSDI 2004), section 2.
use Rattle.std.specs.Prelude.{ℕ, zero, suc, ◌-◌, max, min, Bool, if◌then◌else◌, List, [], ◌∷◌, length, take, Option, Some, None}
use Rattle.assise_record.specs.LogRecord.{LogRecord}
use Rattle.assise_record.specs.LogFrame.{LogFrame}
use Rattle.assise_private_log.specs.Borders.{whole_count}
use Rattle.assise_private_log.specs.NumberedLog.{NumberedLog, is_border, records_from}

-- the number of the first record that is sent, where one is
abbrev pub first_sent : NumberedLog → ℕ → ℕ
first_sent l from = max from l.first

-- the records from a number on and below another
abbrev pub log_records_between : NumberedLog → ℕ → ℕ → List LogRecord
log_records_between l from to = take (to - first_sent l from) (records_from l from)

-- how many records one message has: whole groups, as many as have at most 64 together
abbrev pub count_sent : NumberedLog → ℕ → ℕ → ℕ
count_sent l from to = whole_count l (first_sent l from) (min 64 (length (log_records_between l from to)))

-- the records that one message has
abbrev pub sent : NumberedLog → ℕ → ℕ → List LogRecord
sent l from to = take (count_sent l from to) (log_records_between l from to)

-- of each of a number of records from another on, whether a group ends with it, by where groups end
abbrev pub end_marks : (ℕ → Bool) → ℕ → ℕ → List Bool
end_marks border first zero = []
end_marks border first (suc count) = border (suc first) ∷ end_marks border (suc first) count

-- the marks of a log's records
abbrev pub last_marks : NumberedLog → ℕ → ℕ → List Bool
last_marks l = end_marks (is_border l)

-- records from a number on, of which there is at least one, in a frame: of version 2 with these marks, or of version 1
abbrev pub frame_of : Bool → ℕ → ℕ → ℕ → List LogRecord → List Bool → Option LogFrame
frame_of marked epoch client first [] last = None
frame_of marked epoch client first (r ∷ rs) last = Some (record {
  version = if marked then 2 else 1;
  epoch = epoch;
  client = client;
  first = first;
  records = r ∷ rs;
  last = if marked then last else [];
})

-- the frame that is sent, with marks or without, where there are such records
abbrev pub message_of : NumberedLog → Bool → ℕ → ℕ → ℕ → ℕ → Option LogFrame
message_of l marked epoch client from to =
    frame_of marked epoch client (first_sent l from) (sent l from to) (last_marks l (first_sent l from) (length (sent l from to)))
