-- What the calls of the manager do: Assise (OSDI 2020), section 3 (fail-over and recovery).
use Rattle.std.specs.Prelude.{◌≡◌, ℕ, zero, suc, ◌+◌, ◌≤◌, ◌==◌, Bool, true, false, List, [], ◌∷◌, ◌++◌, length, map, Option, Some, None, if◌then◌else◌}
use Rattle.std.specs.List.{list_all}
use Rattle.std.specs.Ordering.{nat_cmp}
use Rattle.std.specs.FinSet as set
use Rattle.assise_names.specs.declared.refusal.Refusal.{Refusal}
use Rattle.assise_names.specs.declared.refusal.Refusal.TheVariants.{BadNode, WrongPhase, LastNode, Busy}
use Rattle.assise_manager.specs.Standings.{Standing, full, down, returning, is_full, standing_of, with_standing, full_nodes}
use Rattle.assise_manager.specs.declared.level.Level.{Level}
use Rattle.assise_manager.specs.declared.level.Level.TheVariants.{Plain, Marked}
use Rattle.assise_manager.specs.Membership.{Membership, written_since, lowest_full}
use Rattle.assise_manager.specs.NodeLevels.{joined_levels, level_of, plains, with_level}

-- `count` full nodes
abbrev pub fulls : ℕ → List Standing
fulls zero = []
fulls (suc count) = full ∷ fulls count

-- `count` full nodes at the first level, in the first epoch
abbrev pub all_full : ℕ → Membership
all_full count = record { epoch = 1; nodes = fulls count; written = []; levels = plains count }

-- with another standing of a node
abbrev pub with_node : Membership → ℕ → Standing → Membership
with_node m node s = record { epoch = m.epoch; nodes = with_standing m.nodes node s; written = m.written; levels = m.levels }

-- ---- failures

-- who was filled from the failed node starts over from another, and may lack all that was written since its own first failure
abbrev pub refilled_from : (ℕ → set.FinSet nat_cmp) → ℕ → ℕ → Standing → Standing
refilled_from written donor failed full = full
refilled_from written donor failed (down since) = down since
refilled_from written donor failed (returning since from stale) =
    if from == failed then returning since donor (written since) else returning since from stale

abbrev pub with_new_donor : Membership → ℕ → Membership
with_new_donor m failed =
    record { epoch = m.epoch; nodes = map (refilled_from (written_since m) (lowest_full m.nodes) failed) m.nodes; written = m.written; levels = m.levels }

-- a full node is down since the epoch that begins now, whose list has the inodes that may not be everywhere
abbrev pub with_epoch : Membership → ℕ → set.FinSet nat_cmp → Membership
with_epoch m node inodes =
    record { epoch = m.epoch + 1; nodes = with_standing m.nodes node (down (m.epoch + 1)); written = m.written ++ inodes ∷ []; levels = m.levels }

-- a full node begins an epoch as it fails; one that comes back is down again, since its first failure
abbrev pub failed_as : Membership → ℕ → set.FinSet nat_cmp → Option Standing → Membership
failed_as m node inodes None = m
failed_as m node inodes (Some full) = with_new_donor (with_epoch m node inodes) node
failed_as m node inodes (Some (down since)) = m
failed_as m node inodes (Some (returning since donor stale)) =
    with_node m node (down since)

abbrev pub failed : Membership → ℕ → set.FinSet nat_cmp → Membership
failed m node inodes = failed_as m node inodes (standing_of m.nodes node)

-- why a failure is refused: no such node, one that is down, or the only full one
abbrev pub failure_fault_of : Membership → Option Standing → Option Refusal
failure_fault_of m None = Some BadNode
failure_fault_of m (Some full) = if length (full_nodes m.nodes) == 1 then Some LastNode else None
failure_fault_of m (Some (down since)) = Some WrongPhase
failure_fault_of m (Some (returning since donor stale)) = None

abbrev pub failure_fault : Membership → ℕ → Option Refusal
failure_fault m node = failure_fault_of m (standing_of m.nodes node)

-- ---- returns

-- a node that was down comes back: it is filled from the lowest full node, and may lack all that was written since its first
-- failure
abbrev pub back_as : Membership → ℕ → Option Standing → Membership
back_as m node None = m
back_as m node (Some full) = m
back_as m node (Some (down since)) =
    with_node m node (returning since (lowest_full m.nodes) (written_since m since))
back_as m node (Some (returning since donor stale)) = m

abbrev pub back : Membership → ℕ → Membership
back m node = back_as m node (standing_of m.nodes node)

-- why a return is refused: no such node, or one that isn't down
abbrev pub return_fault_of : Option Standing → Option Refusal
return_fault_of None = Some BadNode
return_fault_of (Some full) = Some WrongPhase
return_fault_of (Some (down since)) = None
return_fault_of (Some (returning since donor stale)) = Some WrongPhase

abbrev pub return_fault : Membership → ℕ → Option Refusal
return_fault m node = return_fault_of (standing_of m.nodes node)

abbrev pub is_away : Option Standing → Bool
is_away None = false
is_away (Some full) = false
is_away (Some (down since)) = true
is_away (Some (returning since donor stale)) = true

abbrev pub is_returning : Option Standing → Bool
is_returning None = false
is_returning (Some full) = false
is_returning (Some (down since)) = false
is_returning (Some (returning since donor stale)) = true

-- the full node that a node is filled from, if it comes back
abbrev pub donor_of : Option Standing → Option ℕ
donor_of None = None
donor_of (Some full) = None
donor_of (Some (down since)) = None
donor_of (Some (returning since donor stale)) = Some donor

-- the inodes that a node may lack, if it comes back
abbrev pub stale_of : Option Standing → Option (set.FinSet nat_cmp)
stale_of None = None
stale_of (Some full) = None
stale_of (Some (down since)) = None
stale_of (Some (returning since donor stale)) = Some stale

-- why a question about a node that comes back is refused: no such node, or one that doesn't come back
abbrev pub filling_fault_of : Option Standing → Option Refusal
filling_fault_of None = Some BadNode
filling_fault_of (Some full) = Some WrongPhase
filling_fault_of (Some (down since)) = Some WrongPhase
filling_fault_of (Some (returning since donor stale)) = None

abbrev pub filling_fault : Membership → ℕ → Option Refusal
filling_fault m node = filling_fault_of (standing_of m.nodes node)

-- the lowest of some inodes
pub record IsLowest (inodes : set.FinSet nat_cmp) (inode : ℕ) : Type 0 where
  pub there : set.contains inodes inode ≡ true
  pub below : (other : ℕ) → set.contains inodes other ≡ true → inode ≤ other

-- the lowest of the inodes that a node may lack, or that there is none
abbrev pub IsLowestOf : Option (set.FinSet nat_cmp) → Option ℕ → Type 0
IsLowestOf None lowest = ⊥
IsLowestOf (Some inodes) None = inodes ≡ set.empty
IsLowestOf (Some inodes) (Some lowest) = IsLowest inodes lowest

-- a node that comes back has got an inode that it lacked
abbrev pub without_stale : ℕ → Standing → Standing
without_stale inode full = full
without_stale inode (down since) = down since
without_stale inode (returning since donor stale) = returning since donor (set.remove stale inode)

abbrev pub copied_as : List Standing → ℕ → ℕ → Option Standing → List Standing
copied_as nodes node inode None = nodes
copied_as nodes node inode (Some s) = with_standing nodes node (without_stale inode s)

abbrev pub with_copied : Membership → ℕ → ℕ → Membership
with_copied m node inode = record { epoch = m.epoch; nodes = copied_as m.nodes node inode (standing_of m.nodes node); written = m.written; levels = m.levels }

-- the lists while some node isn't full; where all are, none
abbrev pub listed_while : List Standing → List (set.FinSet nat_cmp) → List (set.FinSet nat_cmp)
listed_while nodes written = if list_all is_full nodes then [] else written

-- a node is full again: an epoch begins, in which nothing was written yet, and its level is that of its donor at least
abbrev pub joined : Membership → ℕ → Membership
joined m node =
    record { epoch = m.epoch + 1; nodes = with_standing m.nodes node full; written = listed_while (with_standing m.nodes node full) (m.written ++ set.empty ∷ []); levels = joined_levels m.levels node (donor_of (standing_of m.nodes node)) }

-- why a node can't join: no such node, one that doesn't come back, or one that may lack an inode
abbrev pub join_fault_of : Option Standing → Option Refusal
join_fault_of None = Some BadNode
join_fault_of (Some full) = Some WrongPhase
join_fault_of (Some (down since)) = Some WrongPhase
join_fault_of (Some (returning since donor stale)) = if set.len stale == 0 then None else Some Busy

abbrev pub join_fault : Membership → ℕ → Option Refusal
join_fault m node = join_fault_of (standing_of m.nodes node)

-- ---- digests

-- with the inodes on the current epoch's list, if there is one
abbrev pub with_written : List (set.FinSet nat_cmp) → set.FinSet nat_cmp → List (set.FinSet nat_cmp)
with_written [] inodes = []
with_written (list ∷ []) inodes = set.union list inodes ∷ []
with_written (list ∷ next ∷ lists) inodes = list ∷ with_written (next ∷ lists) inodes

-- who is filled from the node lacks what was written there since
abbrev pub stale_again : ℕ → set.FinSet nat_cmp → Standing → Standing
stale_again node inodes full = full
stale_again node inodes (down since) = down since
stale_again node inodes (returning since donor stale) =
    returning since donor (if donor == node then set.union stale inodes else stale)

-- inodes were written at a node
abbrev pub noted : Membership → ℕ → set.FinSet nat_cmp → Membership
noted m node inodes =
    record { epoch = m.epoch; nodes = map (stale_again node inodes) m.nodes; written = with_written m.written inodes; levels = m.levels }

-- ---- levels

-- a node reads and sends marked frames from now on
abbrev pub raised : Membership → ℕ → Membership
raised m node = record { epoch = m.epoch; nodes = m.nodes; written = m.written; levels = with_level m.levels node Marked }

-- why a raise is refused: no such node, one that isn't full, or one that was raised
abbrev pub raise_fault_of : Option Standing → Level → Option Refusal
raise_fault_of None l = Some BadNode
raise_fault_of (Some full) Plain = None
raise_fault_of (Some full) Marked = Some WrongPhase
raise_fault_of (Some (down since)) l = Some WrongPhase
raise_fault_of (Some (returning since donor stale)) l = Some WrongPhase

abbrev pub raise_fault : Membership → ℕ → Option Refusal
raise_fault m node = raise_fault_of (standing_of m.nodes node) (level_of m.levels node)
