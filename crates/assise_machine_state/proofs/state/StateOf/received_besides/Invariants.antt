use Rattle.assise_machine_state.proofs.Common.{◌≡◌, take, end, full_nodes, membership, besides, most_of, log_in}
use Rattle.assise_machine_state.proofs.state.StateOf.received_besides.Given as goal

-- the greatest place of the first full nodes besides that one
abbrev pub invariant-loop-node : goal.invariant-loop-node
invariant-loop-node g l =
    l.most ≡ most_of (besides l.home (take l.node-index (full_nodes (membership l.self.members).nodes))) (λ n. end (log_in l.self.nodes n l.client).log)
