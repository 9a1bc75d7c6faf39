-- Nodes that fail and return, beside the manager that lists what is written: what each step does to the areas, also of nodes that
-- aren't full. Assise (OSDI 2020), section 3 (recovery: epochs, and the inodes written in each).
use Rattle.std.specs.Prelude.{◌≡◌, ◌≢◌, ◌⊎◌, ℕ, true, if◌then◌else◌, Some, None}
use Rattle.std.specs.Ordering.{nat_cmp}
use Rattle.std.specs.FinSet as set
use Rattle.assise_record.specs.Records.{all_effects}
use Rattle.assise_inode_table.specs.Effects.{touched, contains}
use Rattle.assise_model_world.specs.NodeSteps.{Digests, Fails, Rests}
use Rattle.assise_model_world.specs.Staying.{SameLogs, SameClients, SameGoals, KeepsLeases, SameNode}
use Rattle.assise_model_world.specs.World.{World, Full, undigested_below}
use Rattle.assise_manager.specs.Changes.{failed, back, return_fault, with_copied, joined, join_fault, noted, donor_of, stale_of, is_returning, IsLowest}
use Rattle.assise_manager.specs.Membership.{Membership}
use Rattle.assise_manager.specs.Standings.{returning, standing_of}

-- ---- areas

-- areas of nodes that aren't full stay
abbrev pub OtherAreasStay : World → World → Type 0
OtherAreasStay w w' = (k i : ℕ) → (Full w k → ⊥) → w'.area k i ≡ w.area k i

-- a node's copies of these inodes are gone, and its other inodes stay
abbrev pub LosesCopies : World → World → ℕ → set.FinSet nat_cmp → Type 0
LosesCopies w w' k stale = (i : ℕ) → w'.area k i ≡ (if set.contains stale i then None else w.area k i)

-- the same nodes are full, and all areas stay
pub record KeepsAreas (w w' : World) : Type 0 where
  pub full : w'.full ≡ w.full
  pub area : (k i : ℕ) → w'.area k i ≡ w.area k i

-- ---- failures

-- full node n fails, and v is the world with its logs cut. These inodes are those that a record touches which still stands in
-- a log: they come on the new epoch's list. Who was filled from the node starts over
pub record FailsWithMembers (w : World) (m : Membership) (n : ℕ) (inodes : set.FinSet nat_cmp) (v w' : World) (m' : Membership) : Type 0 where
  pub fails : Fails w n v
  pub rests : Rests v w'
  pub members : m' ≡ failed m n inodes
  pub touched_only : (i : ℕ) → set.contains inodes i ≡ true → (c : ℕ) × (contains (touched (all_effects (v.records c))) i ≡ true)
  pub touched_all : (c i : ℕ) → contains (touched (all_effects (v.records c))) i ≡ true → set.contains inodes i ≡ true
  pub over : (k : ℕ) (stale : set.FinSet nat_cmp) → donor_of (standing_of m.nodes k) ≡ Some n → stale_of (standing_of m'.nodes k) ≡ Some stale →
      LosesCopies w w' k stale
  pub area_else : (k i : ℕ) → donor_of (standing_of m.nodes k) ≢ Some n → w'.area k i ≡ w.area k i

-- a node that was coming back is down again
pub record FailsAgain (w : World) (m : Membership) (n : ℕ) (w' : World) (m' : Membership) : Type 0 where
  pub was_returning : is_returning (standing_of m.nodes n) ≡ true
  pub members : m' ≡ failed m n set.empty
  pub rests : Rests w w'
  pub area : (k i : ℕ) → w'.area k i ≡ w.area k i

-- ---- digests

-- full node n digests client c's records below place k, and these inodes are those that they touch
pub record DigestsNoted (w : World) (m : Membership) (n c k : ℕ) (inodes : set.FinSet nat_cmp) (w' : World) (m' : Membership) : Type 0 where
  pub digests : Digests w n c k w'
  pub touches : (i : ℕ) → set.contains inodes i ≡ contains (touched (all_effects (undigested_below w n c k))) i
  pub members : m' ≡ noted m n inodes
  pub others : OtherAreasStay w w'

-- ---- returns

-- node n, which was down, begins to come back, without its copies of what it may have missed
pub record BeginsReturn (w : World) (m : Membership) (n : ℕ) (w' : World) (m' : Membership) : Type 0 where
  pub fine : return_fault m n ≡ None
  pub members : m' ≡ back m n
  pub rests : Rests w w'
  pub area_here : (stale : set.FinSet nat_cmp) → stale_of (standing_of m'.nodes n) ≡ Some stale → LosesCopies w w' n stale
  pub area_else : (k i : ℕ) → k ≢ n → w'.area k i ≡ w.area k i

-- node n, which comes back, gets its donor's value of the lowest inode that it may lack
pub record Refills (w : World) (m : Membership) (n i : ℕ) (w' : World) (m' : Membership) : Type 0 where
  pub since : ℕ
  pub donor : ℕ
  pub stale : set.FinSet nat_cmp
  pub stands : standing_of m.nodes n ≡ Some (returning since donor stale)
  pub lowest : IsLowest stale i
  pub members : m' ≡ with_copied m n i
  pub rests : Rests w w'
  pub area_here : w'.area n i ≡ w.area donor i
  pub area_else : (k j : ℕ) → (k ≡ n → j ≡ i → ⊥) → w'.area k j ≡ w.area k j

-- node n, which comes back and lacks no inode, gets its donor's logs and is full
pub record Rejoins (w : World) (m : Membership) (n : ℕ) (w' : World) (m' : Membership) : Type 0 where
  pub since : ℕ
  pub donor : ℕ
  pub stale : set.FinSet nat_cmp
  pub stands : standing_of m.nodes n ≡ Some (returning since donor stale)
  pub fine : join_fault m n ≡ None
  pub members : m' ≡ joined m n
  pub joined : Full w' n
  pub stay : (k : ℕ) → Full w k → Full w' k
  pub only : (k : ℕ) → Full w' k → (k ≡ n) ⊎ Full w k
  pub logs : SameLogs w w'
  pub clients : SameClients w w'
  pub goals : SameGoals w w'
  pub leases : KeepsLeases w w'
  pub area : (k i : ℕ) → w'.area k i ≡ w.area k i
  pub log_here : (c : ℕ) → w'.log n c ≡ w.log donor c
  pub received_here : (c : ℕ) → w'.received n c ≡ w.received donor c
  pub digested_here : (c : ℕ) → w'.digested n c ≡ w.digested donor c
  pub else_same : (k : ℕ) → Full w k → SameNode w w' k
