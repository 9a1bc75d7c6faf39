use Rattle.assise_machine_failures.proofs.Common.{◌≡◌, ◌+◌, ◌-◌, ◌≤◌, with_clients_cut, with_clients_failed, kept_in}
use Rattle.assise_machine_failures.proofs.cutting.cut_to.Given as goal

-- the clients before are over, if they were opened there
abbrev pub invariant-loop-client : goal.invariant-loop-client
invariant-loop-client l = record {
  nodes : l.nodes ≡ with_clients_cut l.node l.fn.clients (kept_in l.kept) (l.client - 1) l.fn.nodes;
  clients : l.clients ≡ with_clients_failed l.node (kept_in l.kept) (l.client - 1) l.fn.clients;
  low : l.client ≤ l.last + 1;
}
