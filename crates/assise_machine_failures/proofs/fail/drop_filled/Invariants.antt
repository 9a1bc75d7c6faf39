use Rattle.assise_machine_failures.proofs.Common.{◌≡◌, take, value_of, AllLose}
use Rattle.assise_machine_failures.proofs.fail.drop_filled.Given as goal

-- the nodes before have lost their copies
abbrev pub invariant-loop-node : goal.invariant-loop-node
invariant-loop-node g l = record {
  copies : AllLose (value_of l.fn.state) (take l.node-index l.filled) (value_of l.state);
  leases : l.state.leases ≡ l.fn.state.leases;
}
