-- How a node stands in the cluster: Assise (OSDI 2020), section 3 (fail-over and recovery: epochs, and the inodes that were
-- written in each).
use Rattle.std.specs.Prelude.{ℕ, zero, suc, ◌-◌, Bool, true, false, List, [], ◌∷◌, Option, Some, None, Result, Ok, Err, if◌then◌else◌}
use Rattle.std.specs.List.{slice_get, slice_set}
use Rattle.std.specs.Ordering.{nat_cmp}
use Rattle.std.specs.FinSet as set
use Rattle.assise_names.specs.declared.refusal.Refusal.{Refusal}
use Rattle.assise_names.specs.declared.refusal.Refusal.TheVariants.{BadNode}
use Rattle.assise_manager.specs.declared.phase.Phase.{Phase}
use Rattle.assise_manager.specs.declared.phase.Phase.TheVariants.{Full, Down, Returning}

pub data Standing : Type 0 where
  -- it has all that is replicated
  full : Standing
  -- it failed: with the epoch that its first failure began
  down : (since : ℕ) → Standing
  -- it comes back: with that epoch, the full node that it is filled from, and the inodes that its area may lack
  returning : (since donor : ℕ) (stale : set.FinSet nat_cmp) → Standing

abbrev pub is_full : Standing → Bool
is_full full = true
is_full (down since) = false
is_full (returning since donor stale) = false

-- the standing of a node: nodes are numbered from 1
abbrev pub standing_of : List Standing → ℕ → Option Standing
standing_of nodes zero = None
standing_of nodes (suc place) = slice_get nodes place

-- with another standing of a node
abbrev pub with_standing : List Standing → ℕ → Standing → List Standing
with_standing nodes node s = slice_set nodes (node - 1) s

-- the numbers of the full nodes, ascending, where the first in the list has this number
abbrev pub full_from : ℕ → List Standing → List ℕ
full_from n [] = []
full_from n (s ∷ nodes) = if is_full s then n ∷ full_from (suc n) nodes else full_from (suc n) nodes

abbrev pub full_nodes : List Standing → List ℕ
full_nodes nodes = full_from 1 nodes

-- the phase of a node, or that there is none of that number
abbrev pub phase_of : Option Standing → Result Phase Refusal
phase_of None = Err BadNode
phase_of (Some full) = Ok Full
phase_of (Some (down since)) = Ok Down
phase_of (Some (returning since donor stale)) = Ok Returning
