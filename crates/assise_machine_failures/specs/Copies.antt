-- Copies of inodes that a node loses.
-- Assise (OSDI 2020), section 3 (recovery: what was written while a node was away goes from its area).
use Rattle.std.specs.Prelude.{◌≡◌, ℕ, List, [], ◌∷◌, None, Some, true}
use Rattle.std.specs.FinSet as set
use Rattle.assise_digest.specs.Region.{RegionValue, with_inode}
use Rattle.assise_manager.specs.Changes.{is_returning, stale_of}
use Rattle.assise_manager.specs.Standings.{standing_of}
use Rattle.assise_machine_state.specs.Changes.{after_inode}
use Rattle.assise_machine_state.specs.NodeValues.{region_in, with_region}
use Rattle.assise_machine_state.specs.StateValues.{StateValue, standings}

-- node n has none of these inodes any more
abbrev pub without_copies : StateValue → (n : ℕ) → List ℕ → StateValue
without_copies s n [] = s
without_copies s n (i ∷ inodes) = without_copies (after_inode s n i None) n inodes

-- the same of the nodes alone
abbrev pub nodes_without : List RegionValue → (n : ℕ) → List ℕ → List RegionValue
nodes_without rs n [] = rs
nodes_without rs n (i ∷ inodes) = nodes_without (with_region rs n (with_inode (region_in rs n) i None)) n inodes

-- node n, which comes back, has none of the inodes any more that it may lack
pub record LosesStale (s : StateValue) (n : ℕ) (s' : StateValue) : Type 0 where
  pub inodes : List ℕ
  pub stale : stale_of (standing_of (standings s) n) ≡ Some (set.from_list inodes)
  pub copies : s' ≡ without_copies s n inodes

-- these nodes come back
abbrev pub AreReturning : StateValue → List ℕ → Type 0
AreReturning s [] = Unit {0}
AreReturning s (n ∷ ns) = (is_returning (standing_of (standings s) n) ≡ true) × AreReturning s ns

-- each of them loses what it may lack, one after another
abbrev pub AllLose : StateValue → List ℕ → StateValue → Type 0
AllLose s [] s' = s' ≡ s
AllLose s (n ∷ ns) s' = (v : StateValue) × (LosesStale s n v × AllLose v ns s')
