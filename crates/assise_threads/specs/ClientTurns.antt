-- The turns of the clients of a run with threads.
use Rattle.std.specs.Prelude.{ℕ, List, Result}
use Rattle.assise_names.specs.declared.call.Op.{Op}
use Rattle.assise_names.specs.declared.refusal.Refusal.{Refusal}
use Rattle.assise_names.specs.declared.reply.Reply.{Reply}
use Rattle.assise_history.specs.Entries.{EntryValue}
use Rattle.assise_manager.specs.NodeLevels.{level_of, newest}
use Rattle.assise_model_events.specs.Events.{Answer, ClusterEvent}
use Rattle.assise_model_events.specs.Happenings.{Happens}
use Rattle.assise_model_events.specs.Machine.{Machine, MachineInvariant}
use Rattle.assise_workers.specs.Told.{Turned}

abbrev pub history_seen : Machine → List EntryValue
history_seen m = m.history

-- the newest version of frames that each node reads
abbrev pub versions_read : Machine → ℕ → ℕ
versions_read m n = newest (level_of m.members.levels n)

-- the event happens to a machine with the invariant, and leaves one with it
pub record HappensSoundly (m : Machine) (e : ClusterEvent) (a : Answer) (m' : Machine) : Type 0 where
  pub before : ∥ MachineInvariant m ∥₁
  pub happens : Happens m e a m'
  pub after : ∥ MachineInvariant m' ∥₁

-- what came of the call, by at most `turns` turns in each of which it was tried at a machine
abbrev pub TurnedThere : ℕ → ℕ → Op → List EntryValue → Result Reply Refusal → List EntryValue → Type 0
TurnedThere turns c op old r new = Turned history_seen HappensSoundly turns c op old r new
