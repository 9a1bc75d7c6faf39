use Rattle.assise_machine_calls.proofs.Common.{◌+◌, ◌-◌, ◌≤◌, stored_by, SameRevokers, CutsInvariant, ShapeInvariant, value_of, FreesAmong}
use Rattle.assise_machine_calls.proofs.release.free_to.Given as goal

-- the nodes before gave up their leases
abbrev pub invariant-loop-node : goal.invariant-loop-node
invariant-loop-node g l = record {
  frees : FreesAmong (value_of l.fn.state) 1 (l.node - 1) (value_of l.state);
  shape : ShapeInvariant (value_of l.state);
  noted : CutsInvariant (value_of l.state);
  revokers : SameRevokers (stored_by l.fn.state.leases) (stored_by l.state.leases);
  low : l.node ≤ l.last + 1;
}
