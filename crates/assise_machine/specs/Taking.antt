-- What a node may take in of a frame.
-- Assise (OSDI 2020), section 3 (replication along a chain, epochs); van Renesse and Schneider, chain replication (OSDI 2004),
-- section 2.
use Rattle.std.specs.Prelude.{◌≡◌, ℕ, ◌+◌, ◌-◌, ◌<◌, ◌≤◌, Bool, true, List, drop, length, take}
use Rattle.assise_manager.specs.NodeLevels.{level_of, newest}
use Rattle.assise_record.specs.LogFrame.{LogFrame, is_marked}
use Rattle.assise_record.specs.LogRecord.{LogRecord}
use Rattle.assise_private_log.specs.NumberedLog.{NumberedLog, is_border, records_from}
use Rattle.assise_chain.specs.Messages.{last_marks}
use Rattle.assise_machine_state.specs.ClientValues.{client_in}
use Rattle.assise_machine_state.specs.NodeValues.{log_in}
use Rattle.assise_machine_state.specs.Observed.{own_node}
use Rattle.assise_machine_state.specs.StateValues.{StateValue, standings}

-- the client's own log
abbrev pub own_log : StateValue → ℕ → NumberedLog
own_log s c = (log_in s.nodes (own_node (standings s) (client_in s.clients c)) c).log

-- the frame's records that lie past a number
abbrev pub lacking : LogFrame → ℕ → List LogRecord
lacking f received = drop (received - f.first) f.records

-- the marks of the frame's records that lie past a number
abbrev pub marks_past : LogFrame → ℕ → List Bool
marks_past f received = drop (received - f.first) f.last

-- where the frame has marks, those past a number are where groups of the log end
abbrev pub HasMarksOf : NumberedLog → LogFrame → (received : ℕ) → Type 0
HasMarksOf l f received = is_marked f.version ≡ true → marks_past f received ≡ last_marks l received (length (lacking f received))

-- the frame is of the epoch and of a version that is read, it leaves no gap, and what lies past what was received stands next in the
-- log, with its groups, and ends with one
pub record IsNext (l : NumberedLog) (epoch newest : ℕ) (f : LogFrame) (received : ℕ) : Type 0 where
  pub this_epoch : f.epoch ≡ epoch
  pub known : f.version ≤ newest
  pub no_gap : f.first ≤ received
  pub own : take (length (lacking f received)) (records_from l received) ≡ lacking f received
  pub whole : received < f.first + length f.records → is_border l (f.first + length f.records) ≡ true
  pub marks : HasMarksOf l f received

abbrev pub IsNextOf : StateValue → LogFrame → (node received : ℕ) → Type 0
IsNextOf s f node received = IsNext (own_log s f.client) s.members.epoch (newest (level_of s.members.levels node)) f received

-- `count` records from a number on are no more than the log may have
abbrev pub HasRoomFor : NumberedLog → (from count : ℕ) → Type 0
HasRoomFor l from count = (from - l.first) + count ≤ l.limit
