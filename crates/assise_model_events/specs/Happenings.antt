-- What happens to a cluster, one event after another, and what holds whatever happens.
-- Assise (OSDI 2020), section 3 (CC-NVM: prefix crash consistency, fail-over, node recovery).
use Rattle.std.specs.Prelude.{◌≡◌, ℕ, List, [], ◌∷◌}
use Rattle.assise_model_history.specs.Traces.{IsTrace, last_of}
use Rattle.assise_model_history.specs.State.{State}
use Rattle.assise_model_events.specs.ClientEvents.{Opening, Calling, Syncing, Noting, Crashing}
use Rattle.assise_model_events.specs.Dsyncs.{Coalescing}
use Rattle.assise_model_events.specs.Events.{ClusterEvent, open_client, try_call, try_fsync, outgoing, deliver, digest, release_ready, set_hot, crash, fail, back, refill, join, raise, Answer}
use Rattle.assise_model_events.specs.Machine.{Machine, state_of}
use Rattle.assise_model_events.specs.MemberEvents.{Failing, Returning, Refilling, Joining, Raising}
use Rattle.assise_model_events.specs.NodeEvents.{Sending, Delivering, Digesting, Releasing, SettingHot}
use Rattle.assise_names.specs.declared.call.Op.{Op}
use Rattle.assise_names.specs.declared.call.Op.TheVariants.{Create, Mkdir, Read, Write, Truncate, Rename, Unlink, Rmdir, List as ListCall, Stat, Fsync, Dsync}
use Rattle.assise_names.specs.declared.durability.Durability.{Durability}
use Rattle.assise_names.specs.declared.durability.Durability.TheVariants.{Pessimistic, Optimistic}
use Rattle.assise_history.specs.Legal.{durability_of}

-- an fsync waits, or is answered at once
abbrev pub Fsyncing : Durability → Machine → ℕ → Answer → Machine → Type 0
Fsyncing Pessimistic m c a m' = Syncing m c Fsync a m'
Fsyncing Optimistic m c a m' = Noting m c a m'

-- a dsync waits; while an optimistic client's waits, what it sends becomes groups
abbrev pub Dsyncing : Durability → Machine → ℕ → Answer → Machine → Type 0
Dsyncing Pessimistic m c a m' = Syncing m c Dsync a m'
Dsyncing Optimistic m c a m' = Coalescing m c a m'

-- a call that a client tries: a sync is one
abbrev pub Trying : Machine → ℕ → Op → Answer → Machine → Type 0
Trying m c Fsync a m' = Fsyncing (durability_of c m.history) m c a m'
Trying m c Dsync a m' = Dsyncing (durability_of c m.history) m c a m'
Trying m c (Create p) a m' = Calling m c (Create p) a m'
Trying m c (Mkdir p) a m' = Calling m c (Mkdir p) a m'
Trying m c (Read p offset n) a m' = Calling m c (Read p offset n) a m'
Trying m c (Write p offset bytes) a m' = Calling m c (Write p offset bytes) a m'
Trying m c (Truncate p size) a m' = Calling m c (Truncate p size) a m'
Trying m c (Rename p q) a m' = Calling m c (Rename p q) a m'
Trying m c (Unlink p) a m' = Calling m c (Unlink p) a m'
Trying m c (Rmdir p) a m' = Calling m c (Rmdir p) a m'
Trying m c (ListCall p) a m' = Calling m c (ListCall p) a m'
Trying m c (Stat p) a m' = Calling m c (Stat p) a m'

-- an event with its answer leads from one state to the next
abbrev pub Happens : Machine → ClusterEvent → Answer → Machine → Type 0
Happens m (open_client n u) a m' = Opening m n u a m'
Happens m (try_call c op) a m' = Trying m c op a m'
Happens m (try_fsync c) a m' = Fsyncing (durability_of c m.history) m c a m'
Happens m (outgoing n) a m' = Sending m n a m'
Happens m (deliver f n) a m' = Delivering m f n a m'
Happens m (digest n) a m' = Digesting m n a m'
Happens m release_ready a m' = Releasing m a m'
Happens m (set_hot n capacity) a m' = SettingHot m n capacity a m'
Happens m (crash c) a m' = Crashing m c a m'
Happens m (fail n) a m' = Failing m n a m'
Happens m (back n) a m' = Returning m n a m'
Happens m (refill n) a m' = Refilling m n a m'
Happens m (join n) a m' = Joining m n a m'
Happens m (raise n) a m' = Raising m n a m'

-- events with their answers, one after another
abbrev pub AllHappen : Machine → List (ClusterEvent × Answer) → Machine → Type 0
AllHappen m [] m' = m' ≡ m
AllHappen m ((e, a) ∷ es) m' = (v : Machine) × (Happens m e a v × AllHappen v es m')

-- what an event does is a trace of the machine's history
pub record Leads (m m' : Machine) : Type 0 where
  pub states : List State
  pub trace : IsTrace (state_of m) states
  pub last : last_of (state_of m) states ≡ state_of m'
