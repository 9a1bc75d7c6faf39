-- What the main thread does with the cluster between a take and its give.
-- Assise (OSDI 2020), section 3 (digests, process crash, fail-over, recovery).
use Rattle.std.specs.Prelude.{◌≡◌, List, [], ◌∷◌, ◌++◌}
use Rattle.assise_history.specs.Entries.{EntryValue, opens, calls, crashes, fails, returns}
use Rattle.assise_history.specs.Legal.{IsLegal}
use Rattle.assise_keeper.specs.Clients.{Extends}
use Rattle.assise_model_events.specs.Events.{Answer, ClusterEvent}
use Rattle.assise_model_events.specs.Happenings.{Happens}
use Rattle.assise_model_events.specs.Machine.{Machine, MachineInvariant}
use Rattle.assise_machine.specs.Following.{IsWorkedTo}
use Rattle.assise_rounds.specs.Traces.{Told}

-- In one take this was done to a machine with the invariant, to which clients' calls and what nodes do of themselves lead from the one that
-- was seen last; and what that came to was given back, with a legal history that extends the one that was seen.
pub record InOneTake (Does : Machine → Told → Machine → Type 0) (old new : Machine) : Type 0 where
  pub before : Machine
  pub told : Told
  pub lawful : ∥ MachineInvariant before ∥₁
  pub worked : IsWorkedTo old before
  pub does : Does before told new
  pub legal : ∥ IsLegal new.history ∥₁
  pub grows : Extends new.history old.history

-- the event happens, with this answer
abbrev pub Happened : ClusterEvent → Answer → Machine → Told → Machine → Type 0
Happened e a m es m' = Happens m e a m'

-- no client is opened and no call answered by these entries
abbrev pub AreNobodys : List EntryValue → Type 0
AreNobodys [] = Unit {0}
AreNobodys (opens c n u ∷ es) = ⊥
AreNobodys (calls x ∷ es) = ⊥
AreNobodys (crashes c ∷ es) = AreNobodys es
AreNobodys (fails n losses ∷ es) = AreNobodys es
AreNobodys (returns n ∷ es) = AreNobodys es

-- the history goes on by such entries
pub record AddsNobodys (old new : List EntryValue) : Type 0 where
  pub more : List EntryValue
  pub split : new ≡ old ++ more
  pub nobodys : AreNobodys more
