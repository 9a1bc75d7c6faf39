-- What a failure lists before anything changes.
-- Assise (OSDI 2020), section 3 (prefix crash consistency, fail-over; recovery: the inodes that were written).
use Rattle.std.specs.Prelude.{ℕ, zero, suc, ◌-◌, ◌==◌, Bool, false, if◌then◌else◌, List, [], ◌∷◌, ◌++◌, slice_index_or, Option, Some, None}
use Rattle.assise_record.specs.Records.{all_effects}
use Rattle.assise_inode_table.specs.Effects.{touched}
use Rattle.assise_manager.specs.Changes.{donor_of}
use Rattle.assise_manager.specs.Standings.{Standing, standing_of}
use Rattle.assise_model_world.specs.NodeSteps.{kept_at_failure}
use Rattle.assise_model_world.specs.World.{World, records_between}

-- the places up to which the logs of clients 1 to m are kept
abbrev pub kept_to : World → (n m : ℕ) → List ℕ
kept_to w n zero = []
kept_to w n (suc m) = kept_to w n m ++ kept_at_failure w n (suc m) ∷ []

-- the place of a client in such a list
abbrev pub kept_in : List ℕ → ℕ → ℕ
kept_in kept c = slice_index_or kept (c - 1) 0

-- the inodes that their records touch which are kept
abbrev pub kept_inodes : World → (n m : ℕ) → List ℕ
kept_inodes w n zero = []
kept_inodes w n (suc m) = kept_inodes w n m ++ touched (all_effects (records_between w (suc m) (w.first (suc m)) (kept_at_failure w n (suc m))))

abbrev pub is_number : ℕ → Option ℕ → Bool
is_number n None = false
is_number n (Some m) = m == n

-- those of nodes 1 to m that are filled from node n
abbrev pub filled_from : List Standing → (n m : ℕ) → List ℕ
filled_from nodes n zero = []
filled_from nodes n (suc m) = filled_from nodes n m ++ (if is_number n (donor_of (standing_of nodes (suc m))) then suc m ∷ [] else [])
