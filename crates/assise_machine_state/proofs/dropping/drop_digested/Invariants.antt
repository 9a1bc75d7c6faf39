use Rattle.assise_machine_state.proofs.Common.{◌≡◌, ◌+◌, ◌-◌, ◌≤◌, drops_to, value_of}
use Rattle.assise_machine_state.proofs.dropping.drop_digested.Given as goal

-- the clients before let go
abbrev pub invariant-loop-client : goal.invariant-loop-client
invariant-loop-client g l = record {
  drops : value_of l.state ≡ drops_to (value_of l.fn.state) (l.client - 1);
  leases : l.state.leases ≡ l.fn.state.leases;
  low : l.client ≤ l.last + 1;
}
