-- What a node makes of a frame that comes to it: Assise (OSDI 2020), section 3, on replication and on epochs; van Renesse and
-- Schneider, chain replication (OSDI 2004), section 2.
use Rattle.std.specs.Prelude.{◌≡◌, ℕ, ◌-◌, ◌≤◌, true, List, ◌++◌, drop, map}
use Rattle.assise_record.specs.LogRecord.{LogRecord}
use Rattle.assise_record.specs.LogFrame.{LogFrame}
use Rattle.assise_private_log.specs.NumberedLog.{NumberedLog, end}

-- a frame is of this epoch, and leaves no gap behind the records that were received, which are those below a number
pub record IsTimely (received : ℕ) (f : LogFrame) (epoch : ℕ) : Type 0 where
  pub this_epoch : f.epoch ≡ epoch
  pub no_gap : f.first ≤ received

-- the records of the frame that the log doesn't have
abbrev pub records_past : NumberedLog → LogFrame → List LogRecord
records_past l f = drop (end l - f.first) f.records

-- the log with them, each of which is a group by itself
abbrev pub accepted : NumberedLog → LogFrame → NumberedLog
accepted l f = record { first = l.first; limit = l.limit; records = l.records ++ records_past l f; begins = l.begins ++ map (λ r. true) (records_past l f) }
