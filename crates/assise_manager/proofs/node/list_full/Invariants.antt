use Rattle.assise_manager.proofs.Common.{◌≡◌, ◌≤◌, ◌+◌, ◌++◌, map, drop, vec_len, vec_capacity, standing, full_nodes, full_from}
use Rattle.assise_manager.proofs.node.list_full.Given as goal

abbrev pub invariant-loop-node : goal.invariant-loop-node
invariant-loop-node l =
    (l.number ≡ l.node-index)
    × (l.full.items ++ full_from (l.number + 1) (map standing (drop l.node-index l.nodes)) ≡ full_nodes (map standing l.nodes))
    × (vec_len l.full ≤ l.node-index)
    × (vec_capacity l.initial.full ≤ vec_capacity l.full)
