use Rattle.assise_machine.proofs.Common.{◌≡◌, ◌+◌, ◌-◌, ◌≤◌, value_of}
use Rattle.assise_machine.proofs.DigestedTo.{GoesTo}
use Rattle.assise_machine.proofs.digesting.digest_to.Given as goal

-- what the clients before came to
abbrev pub invariant-loop-client : goal.invariant-loop-client
invariant-loop-client g l = record {
  goes : GoesTo (value_of l.fn.state) l.node (l.client - 1) (value_of l.state) l.progress.count l.progress.refused l.progress.ended;
  revokers : l.state.leases ≡ l.fn.state.leases;
  low : l.client ≤ l.last + 1;
}
