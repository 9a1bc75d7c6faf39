-- The members of a cluster: how each node stands, the epoch, and which inodes were written in it and in those before it while
-- some node wasn't full. Assise (OSDI 2020), section 3 (fail-over and recovery).
use Rattle.std.specs.Prelude.{◌≡◌, ◌==◌, ℕ, ◌+◌, ◌-◌, ◌<◌, ◌≤◌, nat_le, nat_lt, if◌then◌else◌, Bool, true, ◌&&◌, List, [], ◌∷◌, length, drop, Option, None}
use Rattle.std.specs.List.{list_all, list_any, slice_get, slice_index_or}
use Rattle.std.specs.Ordering.{nat_cmp}
use Rattle.std.specs.FinSet as set
use Rattle.assise_manager.specs.declared.level.Level.{Level}
use Rattle.assise_manager.specs.Standings.{Standing, full, down, returning, is_full, full_nodes}

pub record Membership : Type 0 where
  pub epoch : ℕ
  -- node n at place n - 1
  pub nodes : List Standing
  -- the inodes written in each of the last epochs, the current one last
  pub written : List (set.FinSet nat_cmp)
  -- up to which version each node reads frames, node n at place n - 1
  pub levels : List Level

-- the first epoch that has a list of written inodes, or the next one where none has
abbrev pub first_listed : Membership → ℕ
first_listed m = (m.epoch + 1) - length m.written

-- all inodes of some lists
abbrev pub all_inodes : List (set.FinSet nat_cmp) → set.FinSet nat_cmp
all_inodes [] = set.empty
all_inodes (inodes ∷ lists) = set.union inodes (all_inodes lists)

-- the inodes that were written since an epoch
abbrev pub written_since : Membership → ℕ → set.FinSet nat_cmp
written_since m since = all_inodes (drop (since - first_listed m) m.written)

-- the inodes that were written in an epoch, where it has a list
abbrev pub written_in : Membership → ℕ → Option (set.FinSet nat_cmp)
written_in m epoch = if nat_lt epoch (first_listed m) then None else slice_get m.written (epoch - first_listed m)

-- the lowest full node
abbrev pub lowest_full : List Standing → ℕ
lowest_full nodes = slice_index_or (full_nodes nodes) 0 0

-- each epoch from this one to the current one has a list
abbrev pub is_listed : Membership → ℕ → Bool
is_listed m since = nat_le (first_listed m) since && nat_le since m.epoch

-- what isn't full has a list for each epoch since its first failure; what comes back is filled from a full node, and what it may
-- lack was written since then
abbrev pub is_known : Membership → Standing → Bool
is_known m full = true
is_known m (down since) = is_listed m since
is_known m (returning since donor stale) =
    is_listed m since && (list_any (λ n. n == donor) (full_nodes m.nodes) && set.is_subset stale (written_since m since))

pub record IsMembership (m : Membership) : Type 0 where
  -- epochs are numbered from 1
  pub began : 1 ≤ m.epoch
  pub lists : length m.written ≤ m.epoch
  pub some_full : 0 < length (full_nodes m.nodes)
  pub known : list_all (is_known m) m.nodes ≡ true
  pub levelled : length m.levels ≡ length m.nodes
  -- where all nodes are full there are no lists
  pub none_listed : list_all is_full m.nodes ≡ true → length m.written ≡ 0
