use Rattle.assise_machine_failures.proofs.Common.{◌≡◌, [], deque_iter_rest, region_in, IsNumber, nodes_without}
use Rattle.assise_machine_failures.proofs.copies.drop_all.Given as goal

abbrev pub invariant-loop-inode : goal.invariant-loop-inode
invariant-loop-inode l = record {
  there : IsNumber l.nodes l.node;
  no_logs : (region_in l.nodes l.node).logs ≡ [];
  left : nodes_without l.nodes l.node (deque_iter_rest l.inode-iterator) ≡ nodes_without l.fn.nodes l.fn.node l.fn.inodes.items;
}
