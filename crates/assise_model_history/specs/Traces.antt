-- Whatever happens to the machine, from its start.
-- Assise (OSDI 2020), section 3 (CC-NVM: prefix crash consistency, fail-over, node recovery).
use Rattle.std.specs.Prelude.{◌≡◌, ℕ, ◌≤◌, true, List, [], ◌∷◌, ◌++◌, filter, map, Contains}
use Rattle.assise_names.specs.declared.durability.Durability.{Durability}
use Rattle.assise_names.specs.declared.durability.Durability.TheVariants.{Pessimistic}
use Rattle.assise_seq_tree.specs.Tree.{opening as opening_tree}
use Rattle.assise_seq_tree.specs.Runs.{AreAnswered, tree_after_calls}
use Rattle.assise_history.specs.declared.call.Call.{Call}
use Rattle.assise_history.specs.declared.call.Loss.{Loss}
use Rattle.assise_history.specs.Entries.{EntryValue, opens, calls, crashes, fails, returns}
use Rattle.assise_history.specs.Kept.{kept}
use Rattle.assise_history.specs.Legal.{IsLegal, IsPastSyncs, is_sync, syncs}
use Rattle.assise_inode_table.specs.Numbers.{makes_inode}
use Rattle.assise_inode_table.specs.Spelled.{Spells}
use Rattle.assise_inode_table.specs.Traces.{NumberedCall, exchanges, ops, below}
use Rattle.assise_model_world.specs.World.{Full, first_unreplicated, alone_at}
use Rattle.assise_model_world.specs.Runs.{NoneFalls}
use Rattle.assise_model_history.specs.Numbered.{plain_call, kept_numbered}
use Rattle.assise_model_history.specs.State.{State}
use Rattle.assise_model_history.specs.Entered.{IsOpening, IsCall, IsCrash, IsFailure, IsFailureAgain, IsReturn, IsUntold}

-- one thing that happens
pub data EntryHappens (s s' : State) : Type 0 where
  opening : (n : ℕ) (u : Durability) → IsOpening s n u s' → EntryHappens s s'
  call : (x : NumberedCall) → IsCall s x s' → EntryHappens s s'
  crash : (c : ℕ) → IsCrash s c s' → EntryHappens s s'
  failure : (n : ℕ) → IsFailure s n s' → EntryHappens s s'
  failure_again : (n : ℕ) → IsFailureAgain s n s' → EntryHappens s s'
  comeback : (n donor : ℕ) → IsReturn s n donor s' → EntryHappens s s'
  quiet : IsUntold s s' → EntryHappens s s'

-- from each state to the next
abbrev pub IsTrace : State → List State → Type 0
IsTrace s [] = Unit {0}
IsTrace s (t ∷ ts) = EntryHappens s t × IsTrace t ts

abbrev pub last_of : State → List State → State
last_of s [] = s
last_of s (t ∷ ts) = last_of t ts

-- the calls of the history that are kept and that all full nodes have
abbrev pub numbered_replicated : State → List NumberedCall
numbered_replicated s = filter (below (first_unreplicated s.world)) (kept_numbered s.history)

-- a sync of the client was answered with this call, or after it
pub record WasSynced (h : List EntryValue) (y : Call) : Type 0 where
  pub before : List EntryValue
  pub since : List EntryValue
  pub sync : Call
  pub split : h ≡ before ++ calls sync ∷ since
  pub is_one : syncs before sync ≡ true
  pub client : sync.client ≡ y.client
  pub number : y.number ≤ sync.number

-- what clients and recovery may rest on
pub record IsSafe (s : State) : Type 0 where
  pub legal : IsLegal s.history
  -- what a full node's region says alone is the tree of the replicated calls, which are a run
  pub rebuilt : (n : ℕ) → Full s.world n → Spells (alone_at s.world n) (tree_after_calls opening_tree (ops (numbered_replicated s)))
  pub run : AreAnswered opening_tree (exchanges (numbered_replicated s))
  -- each call is among these up to its client's last sync
  pub synced : (before since : List EntryValue) (y : Call) → s.history ≡ before ++ calls y ∷ since → WasSynced s.history y → Contains (map plain_call (numbered_replicated s)) y
  -- what a failure lists begins after the client's last sync
  pub fair : (before later : List EntryValue) (n : ℕ) (lower higher : List Loss) (l : Loss) → s.history ≡ before ++ fails n (lower ++ l ∷ higher) ∷ later → IsPastSyncs before l

-- from a state to a later one
pub record IsLasting (s t : State) : Type 0 where
  -- its nodes stay
  pub nodes : t.nodes ≡ s.nodes
  -- the history grows
  pub more : List EntryValue
  pub grown : t.history ≡ s.history ++ more
  -- and the calls that all full nodes had are the same still
  pub stay : filter (below (first_unreplicated s.world)) (kept_numbered t.history) ≡ numbered_replicated s
  pub none_falls : NoneFalls s.world t.world

-- the entries of a trace in which a client is opened, calls and crashes, and its node fails and returns
pub record IsEventful (h : List EntryValue) : Type 0 where
  pub sync : Call
  pub losses : List Loss
  pub is_one : is_sync sync.op Pessimistic ≡ true
  pub entries : h ≡ opens 1 1 Pessimistic ∷ calls sync ∷ crashes 1 ∷ fails 1 losses ∷ returns 1 ∷ []

-- the entries of a trace in which a client makes an inode, and its node's failure takes this call
pub record IsLossy (h : List EntryValue) : Type 0 where
  pub create : Call
  pub makes : makes_inode create.op create.reply ≡ true
  pub entries : h ≡ opens 1 1 Pessimistic ∷ calls create ∷ fails 1 (record { client = 1; first = 0 } ∷ []) ∷ []
  pub none_left : kept h ≡ []
