-- Which nodes are full, and what the others' areas have: what a node may have missed since its first failure, and what it lacks
-- of its donor's while it is filled. Assise (OSDI 2020), section 3 (recovery: epochs, and the inodes written in each).
use Rattle.std.specs.Prelude.{◌≡◌, ℕ, false, Option, Some, None}
use Rattle.std.specs.Ordering.{nat_cmp}
use Rattle.std.specs.FinSet as set
use Rattle.assise_model_world.specs.World.{World, Full}
use Rattle.assise_manager.specs.Membership.{Membership, IsMembership, written_since}
use Rattle.assise_manager.specs.Standings.{Standing, full, down, returning, standing_of}

-- the epoch that the first failure of a node began, if it isn't full
abbrev pub since_of : Option Standing → Option ℕ
since_of None = None
since_of (Some full) = None
since_of (Some (down since)) = Some since
since_of (Some (returning since donor stale)) = Some since

-- the invariant between steps
pub record AreMembers (w : World) (m : Membership) : Type 0 where
  pub lawful : IsMembership m
  -- the machine's full nodes are those that the manager has for full
  pub full_nodes : (n : ℕ) → Full w n → standing_of m.nodes n ≡ Some full
  pub nodes_full : (n : ℕ) → standing_of m.nodes n ≡ Some full → Full w n
  -- a node that isn't full differs from a full one only in inodes that were written since its first failure
  pub due : (n since k i : ℕ) → since_of (standing_of m.nodes n) ≡ Some since → Full w k → set.contains (written_since m since) i ≡ false →
      w.area n i ≡ w.area k i
  -- a node that comes back differs from its donor only in inodes of its stale set
  pub filling : (n since donor i : ℕ) (stale : set.FinSet nat_cmp) → standing_of m.nodes n ≡ Some (returning since donor stale) →
      set.contains stale i ≡ false → w.area n i ≡ w.area donor i
