use Rattle.assise_machine_failures.proofs.Common.{◌≡◌, take, end, full_nodes, membership, least_of, client_in, log_in, own_node}
use Rattle.assise_machine_failures.proofs.KeptPlaces.{others}
use Rattle.assise_machine_failures.proofs.listing.kept.Given as goal

-- the least place of the others of the first full nodes
abbrev pub invariant-loop-other : goal.invariant-loop-other
invariant-loop-other g l =
    l.least ≡ least_of (others l.node (take l.other-index (full_nodes (membership l.state.members).nodes))) (λ n. end (log_in l.state.nodes n l.client).log)
    (end (log_in l.state.nodes (own_node (membership l.state.members).nodes (client_in l.state.clients l.client)) l.client).log)
