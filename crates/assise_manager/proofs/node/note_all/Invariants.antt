use Rattle.assise_manager.proofs.Common.{◌≡◌, ◌++◌, true, length, map, take, drop, from_list, list_all, standing, has_node_room, stale_again}
use Rattle.assise_manager.proofs.node.note_all.Given as goal

abbrev pub invariant-loop-one : goal.invariant-loop-one
invariant-loop-one l = (list_all (has_node_room l.node (length l.inodes)) (drop l.one-index l.nodes) ≡ true)
    × (map standing (take l.one-index l.nodes) ++ map (stale_again l.node (from_list l.inodes)) (map standing (drop l.one-index l.nodes))
    ≡ map (stale_again l.node (from_list l.inodes)) (map standing l.initial.nodes))
