use Rattle.assise_machine_state.proofs.Common.{◌≡◌, take, end, full_nodes, membership, least_of, client_in, log_in, own_node}
use Rattle.assise_machine_state.proofs.state.StateOf.acked.Given as goal

-- the least place of the first full nodes
abbrev pub invariant-loop-node : goal.invariant-loop-node
invariant-loop-node g l =
    l.least ≡ least_of (take l.node-index (full_nodes (membership l.self.members).nodes)) (λ n. end (log_in l.self.nodes n l.client).log)
    (end (log_in l.self.nodes (own_node (membership l.self.members).nodes (client_in l.self.clients l.client)) l.client).log)
