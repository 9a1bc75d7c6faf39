-- What happens to nodes: they fail, and come back. Each outcome with its answer, and what stands after it.
-- Assise (OSDI 2020), section 3 (CC-NVM: fail-over; recovery: epochs, and the inodes written in each).
use Rattle.std.specs.Prelude.{◌≡◌, ℕ, ◌<◌, [], ◌∷◌, Option, Some, None}
use Rattle.std.specs.Ordering.{nat_cmp}
use Rattle.std.specs.FinSet as set
use Rattle.assise_names.specs.declared.refusal.Refusal.{Refusal}
use Rattle.assise_names.specs.declared.refusal.Refusal.TheVariants.{OutOfMemory}
use Rattle.assise_history.specs.Entries.{fails, returns}
use Rattle.assise_manager.specs.Changes.{failure_fault, return_fault, filling_fault, join_fault, raise_fault, raised as with_raised, stale_of}
use Rattle.assise_manager.specs.Membership.{Membership}
use Rattle.assise_manager.specs.Standings.{full, standing_of}
use Rattle.assise_model_world.specs.NodeSteps.{Drops}
use Rattle.assise_model_world.specs.World.{World, digested_by_all}
use Rattle.assise_model_leases.specs.Handing.{FailsWithLeases as LeasesFail}
use Rattle.assise_model_members.specs.Returns.{OtherAreasStay, FailsWithMembers, FailsAgain, BeginsReturn, Refills, Rejoins}
use Rattle.assise_model_history.specs.Lost.{losses_of}
use Rattle.assise_model_events.specs.Events.{Answer, refused, failed, began, left, joined, raised}
use Rattle.assise_model_events.specs.Machine.{Machine, Adds}

-- ---- a node fails

-- full node n fails: logs are cut, and what is cut is lost; leases of its clients are revoked; what still stands in a log is listed; and
-- prefixes of logs go that all full nodes have digested which are left
pub record IsFailed (m : Machine) (n : ℕ) (m' : Machine) : Type 0 where
  pub was_full : standing_of m.members.nodes n ≡ Some full
  pub cut : World
  pub refreshed : World
  pub inodes : set.FinSet nat_cmp
  pub failure : FailsWithMembers m.world m.members n inodes cut refreshed m'.members
  pub leases : LeasesFail m.world m.leases n cut m'.leases
  pub drops : Drops refreshed (digested_by_all refreshed) m'.world
  pub others : OtherAreasStay refreshed m'.world
  pub adds : Adds m (fails n (losses_of m.world n) ∷ []) m'

-- a node that was coming back is down again, and nothing is lost
pub record IsFailedAgain (m : Machine) (n : ℕ) (m' : Machine) : Type 0 where
  pub failure : FailsAgain m.world m.members n m'.world m'.members
  pub leases : m'.leases ≡ m.leases
  pub adds : Adds m (fails n [] ∷ []) m'

pub data Failing (m : Machine) (n : ℕ) (a : Answer) (m' : Machine) : Type 0 where
  is_failed : failure_fault m.members n ≡ None → a ≡ failed (losses_of m.world n) → IsFailed m n m' → Failing m n a m'
  is_failed_again : failure_fault m.members n ≡ None → a ≡ failed [] → IsFailedAgain m n m' → Failing m n a m'
  lacks_memory : failure_fault m.members n ≡ None → a ≡ refused OutOfMemory → m' ≡ m → Failing m n a m'
  is_refused : (r : Refusal) → failure_fault m.members n ≡ Some r → a ≡ refused r → m' ≡ m → Failing m n a m'

-- ---- a node comes back

-- how many inodes a node may lack
abbrev pub count_of : Option (set.FinSet nat_cmp) → ℕ
count_of None = 0
count_of (Some stale) = set.len stale

abbrev pub stale_at : Membership → ℕ → ℕ
stale_at o n = count_of (stale_of (standing_of o.nodes n))

-- node n, which was down, comes back without its copies of what it may have missed
pub record IsBack (m : Machine) (n : ℕ) (m' : Machine) : Type 0 where
  pub comes : BeginsReturn m.world m.members n m'.world m'.members
  pub leases : m'.leases ≡ m.leases
  pub adds : Adds m [] m'

pub data Returning (m : Machine) (n : ℕ) (a : Answer) (m' : Machine) : Type 0 where
  is_back : return_fault m.members n ≡ None → a ≡ began (stale_at m'.members n) → IsBack m n m' → Returning m n a m'
  lacks_memory : return_fault m.members n ≡ None → a ≡ refused OutOfMemory → m' ≡ m → Returning m n a m'
  is_refused : (r : Refusal) → return_fault m.members n ≡ Some r → a ≡ refused r → m' ≡ m → Returning m n a m'

-- ---- a node is filled

-- node n gets its donor's value of the lowest inode that it may lack
pub record IsRefilled (m : Machine) (n : ℕ) (m' : Machine) : Type 0 where
  pub inode : ℕ
  pub refills : Refills m.world m.members n inode m'.world m'.members
  pub leases : m'.leases ≡ m.leases
  pub adds : Adds m [] m'

pub data Refilling (m : Machine) (n : ℕ) (a : Answer) (m' : Machine) : Type 0 where
  is_refilled : filling_fault m.members n ≡ None → a ≡ left (stale_at m'.members n) → IsRefilled m n m' → Refilling m n a m'
  is_whole : filling_fault m.members n ≡ None → stale_at m.members n ≡ 0 → a ≡ left 0 → m' ≡ m → Refilling m n a m'
  lacks_memory : filling_fault m.members n ≡ None → 0 < stale_at m.members n → a ≡ refused OutOfMemory → m' ≡ m → Refilling m n a m'
  is_refused : (r : Refusal) → filling_fault m.members n ≡ Some r → a ≡ refused r → m' ≡ m → Refilling m n a m'

-- ---- a node is full again

-- node n, which lacks no inode, gets its donor's logs
pub record IsJoined (m : Machine) (n : ℕ) (m' : Machine) : Type 0 where
  pub rejoins : Rejoins m.world m.members n m'.world m'.members
  pub leases : m'.leases ≡ m.leases
  pub adds : Adds m (returns n ∷ []) m'

pub data Joining (m : Machine) (n : ℕ) (a : Answer) (m' : Machine) : Type 0 where
  is_joined : join_fault m.members n ≡ None → a ≡ joined → IsJoined m n m' → Joining m n a m'
  lacks_memory : join_fault m.members n ≡ None → a ≡ refused OutOfMemory → m' ≡ m → Joining m n a m'
  is_refused : (r : Refusal) → join_fault m.members n ≡ Some r → a ≡ refused r → m' ≡ m → Joining m n a m'

-- ---- a node is raised

pub record IsRaised (m : Machine) (n : ℕ) (m' : Machine) : Type 0 where
  pub members : m'.members ≡ with_raised m.members n
  pub world : m'.world ≡ m.world
  pub leases : m'.leases ≡ m.leases
  pub adds : Adds m [] m'

-- it takes no memory
pub data Raising (m : Machine) (n : ℕ) (a : Answer) (m' : Machine) : Type 0 where
  is_raised : raise_fault m.members n ≡ None → a ≡ raised → IsRaised m n m' → Raising m n a m'
  is_refused : (r : Refusal) → raise_fault m.members n ≡ Some r → a ≡ refused r → m' ≡ m → Raising m n a m'
