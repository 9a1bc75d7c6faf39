use Rattle.assise_machine_state.proofs.Common.{◌≡◌, ◌∙◌, get_or, ap, sym, membership, client_in, own_node}
use Rattle.assise_machine_state.proofs.Shared.OwnLogs.{own_log, own_of_failed, own_of_unfailed}
use Rattle.assise_machine_state.proofs.state.StateOf.own_node.Goals as goal

-- the lowest full node
pub returns-then-has_failed : goal.returns-then-has_failed
returns-then-has_failed g c =
    let nodes = (membership c.args.self.now.members).nodes in
    let x = client_in c.args.self.now.clients c.args.client in
    let node : get_or c.full_nodes.result.now 0 0 ≡ own_node nodes x =
    ap (λ ns. get_or ns 0 0) c.full_nodes.ensures
    ∙ sym (own_of_failed nodes x (ap (λ y. y.failed) (sym c.get-known.ensures) ∙ sym c.has_failed.ensures ∙ c.if-has_failed.true)) in
    record { node = node; log = rw node (own_log _ _ c.requires.shape c.requires.client c.args.self.now.members.lawful.some_full) }

-- the client's home
pub returns-else-has_failed : goal.returns-else-has_failed
returns-else-has_failed g c =
    let nodes = (membership c.args.self.now.members).nodes in
    let x = client_in c.args.self.now.clients c.args.client in
    let node : c.home.result ≡ own_node nodes x =
    c.home.ensures ∙ ap (λ y. y.home) c.get-known.ensures
    ∙ sym (own_of_unfailed nodes x (ap (λ y. y.failed) (sym c.get-known.ensures) ∙ sym c.has_failed.ensures ∙ c.if-has_failed.false)) in
    record { node = node; log = rw node (own_log _ _ c.requires.shape c.requires.client c.args.self.now.members.lawful.some_full) }
