-- Steps of the machine, one after another.
-- Assise (OSDI 2020), section 3 (CC-NVM: update logs, replication, digests, leases, recovery).
use Rattle.std.specs.Prelude.{◌≡◌, ℕ, ◌≤◌, true, false, List, [], ◌∷◌, filter}
use Rattle.assise_names.specs.declared.mode.Mode.{Mode}
use Rattle.assise_record.specs.LogRecord.{LogRecord}
use Rattle.assise_inode_table.specs.Traces.{NumberedCall, below}
use Rattle.assise_model_world.specs.World.{World, opening_values, first_undigested, first_unreplicated, calls_replicated}
use Rattle.assise_model_world.specs.ClientSteps.{Opens, MakesCall, RaisesGoals, Crashes, Acquires, Releases}
use Rattle.assise_model_world.specs.NodeSteps.{Delivers, Digests, Drops, Fails, Joins, Rests}
use Rattle.assise_model_world.specs.Coalescing.{Coalesces}

-- one step leads from the one state to the other
pub data Moves (w w' : World) : Type 0 where
  opens : (n : ℕ) → Opens w n w' → Moves w w'
  makes_call : (x : NumberedCall) → MakesCall w x w' → Moves w w'
  raises_goals : (k : ℕ → ℕ) → RaisesGoals w k w' → Moves w w'
  crashes : (c : ℕ) → Crashes w c w' → Moves w w'
  acquires : (c i : ℕ) (mode : Mode) → Acquires w c i mode w' → Moves w w'
  releases : (c i : ℕ) → Releases w c i w' → Moves w w'
  delivers : (n c k : ℕ) → Delivers w n c k w' → Moves w w'
  digests : (n c k : ℕ) → Digests w n c k w' → Moves w w'
  drops : (f : ℕ → ℕ) → Drops w f w' → Moves w w'
  coalesces : (c s : ℕ) (new : List LogRecord) (was : ℕ → ℕ) → Coalesces w c s new was w' → Moves w w'
  fails : (n : ℕ) → Fails w n w' → Moves w w'
  joins : (n donor : ℕ) → Joins w n donor w' → Moves w w'
  rests : Rests w w' → Moves w w'

-- from each state to the next by a step
abbrev pub Runs : World → List World → Type 0
Runs w [] = Unit {0}
Runs w (u ∷ us) = Moves w u × Runs u us

abbrev pub last : World → List World → World
last w [] = w
last w (u ∷ us) = last u us

-- at the start: full nodes with an empty root, and no clients
abbrev pub begun : List ℕ → World
begun nodes = record {
  full = nodes;
  area = λ n. opening_values;
  log = λ n c. [];
  received = λ n c. 0;
  digested = λ n c. 0;
  clients = 0;
  home = λ c. 0;
  lives = λ c. false;
  crashed = λ c. false;
  records = λ c. [];
  first = λ c. 0;
  border = λ c k. true;
  goal = λ c. 0;
  next = λ c. 0;
  made = λ c. 0;
  holds = λ c i. false;
  writes = λ c i. false;
  calls = [];
}

-- no step lowers the first call that some full node may lack, nor the first that one may lack in its area
pub record NoneFalls (w w' : World) : Type 0 where
  pub unreplicated : (c : ℕ) → first_unreplicated w c ≤ first_unreplicated w' c
  pub undigested : (c : ℕ) → first_undigested w c ≤ first_undigested w' c

-- the calls that all full nodes had stay, in their order, and no other call comes before their thresholds
unfoldable pub StayReplicated : World → World → Type 0
StayReplicated w w' = filter (below (first_unreplicated w)) w'.calls ≡ calls_replicated w
