use Rattle.assise_machine_state.proofs.Common.{ℕ, max, ap, ◌∙◌, end, full_nodes, membership, besides, most_of, log_in, value_of}
use Rattle.assise_machine_state.proofs.Besides.{coalesced_place}
use Rattle.assise_machine_state.proofs.state.StateOf.coalesced_from.Goals as goal

pub returns : goal.returns
returns g c =
    let f : ℕ → ℕ = λ n. end (log_in c.args.self.now.nodes n c.args.client).log in
    let known = c.get-known.ensures in
    let most = c.received_besides.ensures ∙ ap (λ h. most_of (besides h (full_nodes (membership c.args.self.now.members).nodes)) f)
    (c.home.ensures ∙ ap (λ y. y.home) known) in
    c.max.ensures
    ∙ ap (λ k. max k c.received_besides.result) c.max-most.ensures
    ∙ coalesced_place (value_of c.args.self.now) c.args.client c.requires.shape c.requires.client c.goal.result c.acked.result c.received_besides.result
    (c.goal.ensures ∙ ap (λ y. y.goal) known) c.acked.ensures most
