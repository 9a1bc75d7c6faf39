-- The whole machine, and what holds of it between its events.
-- Assise (OSDI 2020), section 3 (CC-NVM: update logs, replication, digests, leases, fail-over, recovery).
use Rattle.std.specs.Prelude.{◌≡◌, ℕ, suc, ◌-◌, ◌≤◌, List, [], ◌++◌, length, replicate, slice_set}
use Rattle.assise_names.specs.declared.limits.TheConstants.{MOST_CLIENTS}
use Rattle.assise_history.specs.Entries.{EntryValue}
use Rattle.assise_lease_tree.specs.TwoLevels.{nobody}
use Rattle.assise_manager.specs.Changes.{all_full}
use Rattle.assise_manager.specs.Membership.{Membership}
use Rattle.assise_model_world.specs.Runs.{begun}
use Rattle.assise_model_world.specs.Invariant.{WorldInvariant, AreDropped}
use Rattle.assise_model_world.specs.World.{World}
use Rattle.assise_model_leases.specs.Leases.{Leases, AreLeases}
use Rattle.assise_model_members.specs.Members.{AreMembers}
use Rattle.assise_model_history.specs.State.{State, IsRecorded, down_from}

pub record Machine : Type 0 where
  -- the most records of one client's log
  pub limit : ℕ
  -- how many inodes may be hot at each node, by number
  pub hot : List ℕ
  -- what was answered and what happened, in order
  pub history : List EntryValue
  -- nodes with their areas and logs, and clients
  pub world : World
  -- who holds which inode
  pub leases : Leases
  -- which nodes are full, and what the others may have missed
  pub members : Membership

-- the machine with its history alone
abbrev pub state_of : Machine → State
state_of m = record { nodes = length m.members.nodes; history = m.history; world = m.world }

-- the invariant between events
pub record MachineInvariant (m : Machine) : Type 0 where
  -- full nodes have what is replicated, and leases guard what some full node has not digested
  pub sound : WorldInvariant m.world
  -- each log begins where some full node has not digested it
  pub dropped : AreDropped m.world
  -- the history is legal, and the state is what it says
  pub recorded : IsRecorded (state_of m)
  -- two hold an inode only if both read, and the cut of each revoked lease covers
  pub leases : AreLeases m.world m.leases
  -- nodes that aren't full differ from the others only in what is listed
  pub members : AreMembers m.world m.members
  -- numbers stay small
  pub epochs : m.members.epoch ≤ suc (length m.history)
  pub logs : (c : ℕ) → length (m.world.records c) ≤ m.limit
  pub clients : m.world.clients ≤ MOST_CLIENTS

-- ---- the start

-- all nodes are full, `hot` inodes may be hot at each, and nothing happened
abbrev pub begun_as : (nodes limit hot : ℕ) → Machine
begun_as nodes limit hot = record {
  limit = limit;
  hot = replicate nodes hot;
  history = [];
  world = begun (down_from nodes);
  leases = record { levels = nobody; cut = λ c i. 0 };
  members = all_full nodes;
}

-- ---- what an event leaves as it is

-- the history gets these entries, and the limits of logs and of what is hot stay
pub record Adds (m : Machine) (entries : List EntryValue) (m' : Machine) : Type 0 where
  pub history : m'.history ≡ m.history ++ entries
  pub limit : m'.limit ≡ m.limit
  pub hot : m'.hot ≡ m.hot

-- ---- how many inodes may be hot

-- `capacity` at node n, and all else as it was
abbrev pub with_hot : Machine → (n capacity : ℕ) → Machine
with_hot m n capacity = record m { hot = slice_set m.hot (n - 1) capacity }
