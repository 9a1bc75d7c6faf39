-- What the machine's history says of its state.
-- Assise (OSDI 2020), section 3 (prefix crash consistency, fail-over, node recovery).
use Rattle.std.specs.Prelude.{◌≡◌, ℕ, zero, suc, ◌≤◌, not, List, [], ◌∷◌, ◌++◌}
use Rattle.std.specs.List.{list_any}
use Rattle.assise_history.specs.Entries.{EntryValue}
use Rattle.assise_history.specs.Legal.{IsDown, IsLegal, IsOpenedOn, IsPastSyncs, calls_made, clients_opened, is_crash_of, is_failure_of}
use Rattle.assise_model_world.specs.Runs.{begun}
use Rattle.assise_model_world.specs.World.{World, Full, IsClient, first_unreplicated}
use Rattle.assise_model_history.specs.Numbered.{made_in, kept_numbered}

-- the machine with its history; its nodes are numbered from 1 to a count that stays
pub record State : Type 0 where
  pub nodes : ℕ
  pub history : List EntryValue
  pub world : World

abbrev pub IsNode : State → ℕ → Type 0
IsNode s n = (1 ≤ n) × (n ≤ s.nodes)

-- the client was opened on its home, and it crashed, or its home failed, exactly where an entry since says so
pub record WasOpened (h : List EntryValue) (w : World) (c : ℕ) : Type 0 where
  pub opened : IsOpenedOn h c (w.home c)
  pub crashed : w.crashed c ≡ list_any (is_crash_of c) opened.since
  pub lives : w.lives c ≡ not (list_any (is_failure_of (w.home c)) opened.since)

-- the history is legal, and the machine's state is what it says
pub record IsRecorded (s : State) : Type 0 where
  pub legal : IsLegal s.history
  -- the machine's calls are those of the history that are kept
  pub calls : s.world.calls ≡ kept_numbered s.history
  -- its clients are those that were opened
  pub count : s.world.clients ≡ clients_opened s.history
  pub opened : (c : ℕ) → IsClient s.world c → WasOpened s.history s.world c
  -- its counts are those of all calls, lost ones too
  pub next : (c : ℕ) → s.world.next c ≡ calls_made c s.history
  pub made : (c : ℕ) → s.world.made c ≡ made_in c s.history
  -- of its nodes those are full that are up
  pub nodes : (n : ℕ) → Full s.world n → IsNode s n
  pub up : (n : ℕ) → Full s.world n → IsDown s.history n → ⊥
  pub down : (n : ℕ) → IsNode s n → (Full s.world n → ⊥) → IsDown s.history n
  -- all full nodes have each client's calls up to its last sync
  pub synced : (c : ℕ) → IsPastSyncs s.history (record { client = c; first = first_unreplicated s.world c })

-- ---- the start

-- the numbers from this down to 1
abbrev pub down_from : ℕ → List ℕ
down_from zero = []
down_from (suc n) = suc n ∷ down_from n

-- all nodes are full, and nothing happened
abbrev pub begun_with : ℕ → State
begun_with nodes = record { nodes = nodes; history = []; world = begun (down_from nodes) }
