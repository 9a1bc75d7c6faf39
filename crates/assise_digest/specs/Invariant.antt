-- What holds of the parts of a region.
use Rattle.std.specs.Prelude.{ℕ, ◌<◌, List, map, length, slice_index_or, Option, Some, None, is_some}
use Rattle.assise_record.specs.LogRecord.{LogRecord}
use Rattle.assise_inode_table.specs.Contents.{InodeMap}
use Rattle.assise_digest.specs.Pending.{StandsFor}
use Rattle.assise_digest.specs.Region.{AreWhole, IsBegun, ReceivedLog, ahead, with_more}
use Rattle.assise_digest.specs.declared.pending.Pending.{Pending}
use Rattle.assise_digest.specs.declared.received.Received.{Received}

abbrev pub seen_log : Received → ReceivedLog
seen_log x = record { log = x.log; digested = x.digested; at_home = is_some x.pending }

abbrev pub seen_logs : List Received → List ReceivedLog
seen_logs xs = map seen_log xs

-- what is kept for the client, if it lives here, stands for its records that aren't digested
abbrev pub StandsHere : InodeMap → ReceivedLog → Option Pending → Type 0
StandsHere m l None = Unit {0}
StandsHere m l (Some p) = StandsFor p m l.digested (ahead l)

-- what is kept after one more record
abbrev pub IsKeptFor : InodeMap → ReceivedLog → LogRecord → Option Pending → Type 0
IsKeptFor m l r o = StandsHere m (with_more l r) o

pub record LogInvariant (m : InodeMap) (x : Received) : Type 0 where
  pub begun : IsBegun (seen_log x)
  pub whole : AreWhole x.log.records
  pub stands : StandsHere m (seen_log x) x.pending

abbrev pub LogsInvariant : InodeMap → List Received → Type 0
LogsInvariant m xs = (k : ℕ) (none : Received) → k < length xs → LogInvariant m (slice_index_or xs k none)
