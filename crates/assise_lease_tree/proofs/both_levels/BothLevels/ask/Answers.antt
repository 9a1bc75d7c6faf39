use Rattle.assise_lease_tree.proofs.Common.{nat_eq, ap, ◌∙◌, get, leave_out, revoke, is_rival, raise_unopposed, in_way, gives_up, nodes_asked}
use Rattle.assise_lease_tree.proofs.CallsOnInode.{given_up_still}
use Rattle.assise_lease_tree.proofs.both_levels.BothLevels.ask.Goals as goal

pub returns-clause-nodes : goal.returns-clause-nodes
unfolding nodes_asked
returns-clause-nodes c =
    let home = get nat_eq c.args.homes.now in
    let n = c.args.request.node in
    let mode = c.args.request.mode in
    let gone = c.take_out.ensures.items ∙ ap (λ cs. leave_out (gives_up home cs n mode) c.args.self.now.nodes.items)
    (c.as_slice-2.ensures ∙ c.revoke_all.ensures)
    ∙ given_up_still home (in_way home c.as_slice.result.now c.args.request.client n mode) c.args.self.now.clients.items n mode c.args.self.now.nodes.items in
    c.raise_unopposed.ensures ∙ ap (raise_unopposed n mode) (c.revoke_all-2.ensures ∙ ap (revoke (is_rival n mode)) gone)
