-- Calls of one sort that lead, with rounds, from one state of a cluster to another.
-- Assise (OSDI 2020), section 3 (a process waits for its log to be replicated).
use Rattle.std.specs.Prelude.{◌≡◌, ◌⊎◌, ℕ, ⊤}
use Rattle.std.specs.List.{AllByRecursion}
use Rattle.assise_names.specs.declared.call.Op.{Op}
use Rattle.assise_names.specs.declared.call.Op.TheVariants.{Dsync}
use Rattle.assise_model_events.specs.Events.{ClusterEvent, back, crash, deliver, digest, fail, join, open_client, raise, outgoing, refill, release_ready, set_hot, try_call, try_fsync}
use Rattle.assise_model_events.specs.Machine.{Machine}
use Rattle.assise_rounds.specs.Traces.{IsEventTrace, Told}

-- ---- sorts of calls, each with its client

abbrev pub IsDsync : ℕ → Op → Type 0
IsDsync c op = op ≡ Dsync

-- client 1 makes it
abbrev pub IsOfFirst : ℕ → Op → Type 0
IsOfFirst c op = c ≡ 1

-- it is this one, of this client, or a dsync of the client's, which makes room in its log
abbrev pub IsThisCall : ℕ → Op → ℕ → Op → Type 0
IsThisCall client op c other = (c ≡ client) × ((other ≡ op) ⊎ (other ≡ Dsync))

-- ---- events

-- a call of the sort is tried, or nodes do what a round asks of them
abbrev pub IsOfSort : (ℕ → Op → Type 0) → ClusterEvent → Type 0
IsOfSort Sort (try_call c op) = Sort c op
IsOfSort Sort (outgoing n) = ⊤
IsOfSort Sort (deliver f n) = ⊤
IsOfSort Sort (digest n) = ⊤
IsOfSort Sort release_ready = ⊤
IsOfSort Sort (open_client n u) = ⊥
IsOfSort Sort (try_fsync c) = ⊥
IsOfSort Sort (set_hot n capacity) = ⊥
IsOfSort Sort (crash c) = ⊥
IsOfSort Sort (fail n) = ⊥
IsOfSort Sort (back n) = ⊥
IsOfSort Sort (refill n) = ⊥
IsOfSort Sort (join n) = ⊥
IsOfSort Sort (raise n) = ⊥

-- such events alone, answered or refused, lead from one state to the other
pub record IsLedBy (Sort : ℕ → Op → Type 0) (m m' : Machine) : Type 0 where
  pub events : Told
  pub trace : IsEventTrace m events m'
  pub sorted : AllByRecursion (λ e. IsOfSort Sort e.0) events
