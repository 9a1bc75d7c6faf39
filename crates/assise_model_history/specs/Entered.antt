-- What happens to the machine, with the entry that its history gets.
-- Assise (OSDI 2020), section 3 (CC-NVM: fsync, process crash, fail-over, node recovery).
use Rattle.std.specs.Prelude.{◌≡◌, ℕ, suc, true, List, [], ◌∷◌, ◌++◌}
use Rattle.assise_names.specs.declared.durability.Durability.{Durability}
use Rattle.assise_names.specs.declared.mode.Mode.{Mode}
use Rattle.assise_history.specs.Entries.{EntryValue, opens, calls, crashes, fails, returns}
use Rattle.assise_history.specs.Legal.{syncs}
use Rattle.assise_inode_table.specs.Traces.{NumberedCall}
use Rattle.assise_record.specs.LogRecord.{LogRecord}
use Rattle.assise_model_world.specs.World.{World, Full, end_of_log, received_by_all}
use Rattle.assise_model_world.specs.ClientSteps.{Opens, MakesCall, RaisesGoals, Crashes, Acquires, Releases}
use Rattle.assise_model_world.specs.NodeSteps.{Delivers, Digests, Drops, Fails, Joins, Rests}
use Rattle.assise_model_world.specs.Coalescing.{Coalesces}
use Rattle.assise_model_history.specs.Lost.{losses_of}
use Rattle.assise_model_history.specs.Numbered.{plain_call}
use Rattle.assise_model_history.specs.State.{State, IsNode}

-- ---- with an entry

-- the history gets this entry
pub record AddsEntry (s : State) (e : EntryValue) (s' : State) : Type 0 where
  pub nodes : s'.nodes ≡ s.nodes
  pub entry : s'.history ≡ s.history ++ e ∷ []

-- the next client is opened on full node n
pub record IsOpening (s : State) (n : ℕ) (u : Durability) (s' : State) : Type 0 where
  pub adds : AddsEntry s (opens (suc s.world.clients) n u) s'
  pub world : Opens s.world n s'.world

-- a client makes a call; a sync is answered only where all full nodes have all of the client's records
pub record IsCall (s : State) (x : NumberedCall) (s' : State) : Type 0 where
  pub adds : AddsEntry s (calls (plain_call x)) s'
  pub world : MakesCall s.world x s'.world
  pub replicated : syncs s.history (plain_call x) ≡ true → received_by_all s.world x.client ≡ end_of_log s.world x.client

-- a client crashes
pub record IsCrash (s : State) (c : ℕ) (s' : State) : Type 0 where
  pub adds : AddsEntry s (crashes c) s'
  pub world : Crashes s.world c s'.world

-- full node n fails, and the entry lists the first lost call of each client that loses any
pub record IsFailure (s : State) (n : ℕ) (s' : State) : Type 0 where
  pub adds : AddsEntry s (fails n (losses_of s.world n)) s'
  pub world : Fails s.world n s'.world

-- a node fails that isn't full, and nothing is lost
pub record IsFailureAgain (s : State) (n : ℕ) (s' : State) : Type 0 where
  pub adds : AddsEntry s (fails n []) s'
  pub node : IsNode s n
  pub absent : Full s.world n → ⊥
  pub world : Rests s.world s'.world

-- node n is taken in again, with all that a full node has
pub record IsReturn (s : State) (n donor : ℕ) (s' : State) : Type 0 where
  pub adds : AddsEntry s (returns n) s'
  pub node : IsNode s n
  pub world : Joins s.world n donor s'.world

-- ---- with none

-- a step that no entry tells of
pub data NeedsNoEntry (w w' : World) : Type 0 where
  raises_goals : (k : ℕ → ℕ) → RaisesGoals w k w' → NeedsNoEntry w w'
  acquires : (c i : ℕ) (mode : Mode) → Acquires w c i mode w' → NeedsNoEntry w w'
  releases : (c i : ℕ) → Releases w c i w' → NeedsNoEntry w w'
  delivers : (n c k : ℕ) → Delivers w n c k w' → NeedsNoEntry w w'
  digests : (n c k : ℕ) → Digests w n c k w' → NeedsNoEntry w w'
  drops : (f : ℕ → ℕ) → Drops w f w' → NeedsNoEntry w w'
  coalesces : (c s : ℕ) (new : List LogRecord) (was : ℕ → ℕ) → Coalesces w c s new was w' → NeedsNoEntry w w'
  rests : Rests w w' → NeedsNoEntry w w'

-- nothing but such a step happened
pub record IsUntold (s s' : State) : Type 0 where
  pub nodes : s'.nodes ≡ s.nodes
  pub entries : s'.history ≡ s.history
  pub world : NeedsNoEntry s.world s'.world
