-- Events of a cluster with their answers, one after another.
use Rattle.std.specs.Prelude.{◌≡◌, ℕ, List, [], ◌∷◌, ◌++◌}
use Rattle.assise_model_events.specs.Events.{Answer, ClusterEvent}
use Rattle.assise_model_events.specs.Happenings.{Happens}
use Rattle.assise_model_events.specs.Machine.{Machine}
use Rattle.assise_machine.specs.Running.{IsServed}

abbrev pub Told : Type 0
Told = List (ClusterEvent × Answer)

-- each event happens; or it is an open that is refused because there is no revoker
abbrev pub IsEventTrace : Machine → Told → Machine → Type 0
IsEventTrace m [] m' = m' ≡ m
IsEventTrace m ((e, a) ∷ es) m' = (v : Machine) × (((stock : ℕ) × IsServed stock m e a v) × IsEventTrace v es m')

-- ---- of which a trace is made

-- no event
pub record Nothing (m : Machine) (es : Told) (m' : Machine) : Type 0 where
  pub told : es ≡ []
  pub stays : m' ≡ m

-- one event
pub record IsEvent (e : ClusterEvent) (a : Answer) (m : Machine) (es : Told) (m' : Machine) : Type 0 where
  pub told : es ≡ (e, a) ∷ []
  pub happens : Happens m e a m'

-- these events, and then those
pub record Then (First Second : Machine → Told → Machine → Type 0) (m : Machine) (es : Told) (m' : Machine) : Type 0 where
  pub between : Machine
  pub before : Told
  pub after : Told
  pub told : es ≡ before ++ after
  pub first : First m before between
  pub second : Second between after m'
