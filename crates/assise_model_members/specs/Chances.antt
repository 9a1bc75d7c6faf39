-- What a step asks of the state before it.
-- Assise (OSDI 2020), section 3 (recovery: epochs, and the inodes written in each).
use Rattle.std.specs.Prelude.{◌≡◌, ◌≢◌, ℕ, true, Some}
use Rattle.std.specs.Ordering.{nat_cmp}
use Rattle.std.specs.FinSet as set
use Rattle.assise_record.specs.Records.{all_effects}
use Rattle.assise_inode_table.specs.Effects.{touched, contains}
use Rattle.assise_model_world.specs.NodeSteps.{kept_at_failure}
use Rattle.assise_model_world.specs.World.{World, Full, records_between}
use Rattle.assise_manager.specs.Changes.{stale_of, IsLowest}
use Rattle.assise_manager.specs.Membership.{Membership}
use Rattle.assise_manager.specs.Standings.{standing_of}

-- full node n isn't the only one, and these inodes are those that the records touch which are kept
pub record MayFailWith (w : World) (n : ℕ) (inodes : set.FinSet nat_cmp) : Type 0 where
  pub full_node : Full w n
  pub survivor : (m : ℕ) × ((m ≢ n) × Full w m)
  pub touched_only : (i : ℕ) → set.contains inodes i ≡ true →
      (c : ℕ) × (contains (touched (all_effects (records_between w c (w.first c) (kept_at_failure w n c)))) i ≡ true)
  pub touched_all : (c i : ℕ) → contains (touched (all_effects (records_between w c (w.first c) (kept_at_failure w n c)))) i ≡ true →
      set.contains inodes i ≡ true

-- an inode is the lowest that node n may lack
pub record MayRefill (m : Membership) (n i : ℕ) : Type 0 where
  pub stale : set.FinSet nat_cmp
  pub lacks : stale_of (standing_of m.nodes n) ≡ Some stale
  pub lowest : IsLowest stale i
