-- What is seen of a node and of a list of inodes. And what makes a change take no memory.
use Rattle.std.specs.Prelude.{ℕ, ◌+◌, ◌==◌, if◌then◌else◌, nat_le, Bool, true, not, ◌||◌, List, [], ◌∷◌, map, drop, Option, Some, None, ◌-◌}
use Rattle.std.specs.List.{slice_index_or}
use Rattle.std.specs.Ordering.{nat_cmp}
use Rattle.std.specs.VecDeque.{deque_len, deque_capacity}
use Rattle.std.specs.FinSet as set
use Rattle.indexmap.specs.IndexSet.{spare}
use Rattle.assise_manager.specs.declared.written_list.WrittenList.{WrittenList}
use Rattle.assise_manager.specs.declared.stale_set.StaleSet.{StaleSet}
use Rattle.assise_manager.specs.declared.node.Node.{Node}
use Rattle.assise_manager.specs.declared.node.Return.{Return}
use Rattle.assise_manager.specs.declared.node.Node.TheVariants.{Full, Down, Returning}
use Rattle.assise_manager.specs.Standings.{Standing, full, down, returning}
use Rattle.assise_manager.specs.Membership.{all_inodes}

abbrev pub listed_inodes : WrittenList → set.FinSet nat_cmp
listed_inodes l = set.from_list l.inodes.keys

abbrev pub stale_inodes : StaleSet → set.FinSet nat_cmp
stale_inodes s = set.from_list s.inodes.items

abbrev pub standing : Node → Standing
standing Full = full
standing (Down since) = down since
standing (Returning r) = returning r.since r.donor (stale_inodes r.stale)

-- with what is known of a node that comes back, if that is given
abbrev pub standing_or : Option Return → Standing → Standing
standing_or None old = old
standing_or (Some r) old = returning r.since r.donor (stale_inodes r.stale)

-- the inodes of the lists from an epoch on, where the first is that of another
abbrev pub listed_since : List WrittenList → ℕ → ℕ → set.FinSet nat_cmp
listed_since lists first since = all_inodes (drop (since - first) (map listed_inodes lists))

-- the first number besides one, where numbers ascend
abbrev pub lowest_besides : List ℕ → ℕ → ℕ
lowest_besides numbers node = if slice_index_or numbers 0 0 == node then slice_index_or numbers 1 0 else slice_index_or numbers 0 0

-- ---- room

-- `count` inodes more take no memory
abbrev pub has_list_room : ℕ → WrittenList → Bool
has_list_room count l = nat_le count (spare l.inodes)

abbrev pub has_stale_room : ℕ → StaleSet → Bool
has_stale_room count s = nat_le (deque_len s.inodes + count) (deque_capacity s.inodes)

-- `count` inodes more take no memory, where the node comes back and is filled from this one
abbrev pub has_node_room : ℕ → ℕ → Node → Bool
has_node_room node count Full = true
has_node_room node count (Down since) = true
has_node_room node count (Returning r) = not (r.donor == node) || has_stale_room count r.stale

-- the last list, if there is one, takes `count` inodes more without memory
abbrev pub has_last_room : ℕ → List WrittenList → Bool
has_last_room count [] = true
has_last_room count (l ∷ []) = has_list_room count l
has_last_room count (l ∷ k ∷ ls) = has_last_room count (k ∷ ls)
