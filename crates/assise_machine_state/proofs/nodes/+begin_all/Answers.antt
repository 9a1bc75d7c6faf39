use Rattle.assise_machine_state.proofs.Common.{◌≡◌, ◌∷◌, ◌+◌, ◌∙◌, true, false, ap, sym, on_ok_weaker, contains, full_nodes, membership, with_logs_begun}
use Rattle.assise_machine_state.proofs.Common.{is_full_in}
use Rattle.assise_machine_state.proofs.Shared.NodesAway.{begins, begins_none}
use Rattle.assise_machine_state.proofs.nodes.+begin_all.Goals as goal

pub returns-then-not-contains-clause-ok : goal.returns-then-not-contains-clause-ok
returns-then-not-contains-clause-ok t c =
    let nodes = (membership c.args.members.now).nodes in
    let other : contains (full_nodes nodes) c.args.node ≡ false =
    ap (λ ns. contains ns c.args.node) (sym c.full_nodes.ensures) ∙ sym c.contains.ensures.value ∙ c.if-not-contains.true in
    on_ok_weaker c.begin_all.result
    (λ rest.
    ap (λ rs. c.in-Some.first.now ∷ rs) rest
    ∙ sym (begins_none nodes c.args.limit c.args.home c.args.node c.in-Some.first.now c.in-Some.rest.now other)
    ∙ ap (with_logs_begun (is_full_in nodes) c.args.limit c.args.home c.args.node) (sym c.in-Some.ensures.cases.0))
    c.begin_all.ensures.ok

pub returns-else-is_err-clause-ok : goal.returns-else-is_err-clause-ok
returns-else-is_err-clause-ok t c =
    let nodes = (membership c.args.members.now).nodes in
    let listed : contains (full_nodes nodes) c.args.node ≡ true =
    ap (λ ns. contains ns c.args.node) (sym c.full_nodes.ensures) ∙ sym c.contains.ensures.value ∙ c.if-not-contains.false in
    on_ok_weaker c.begin_all-others.result
    (λ rest.
    ap (λ rs. c.begin_log.new.region ∷ rs) rest
    ∙ ap (λ r. r ∷ with_logs_begun (is_full_in nodes) c.args.limit c.args.home (c.args.node + 1) c.in-Some.rest.now) c.in_ok-begin_log.ensures.ok
    ∙ sym (begins nodes c.args.limit c.args.home c.args.node c.in-Some.first.now c.in-Some.rest.now listed)
    ∙ ap (with_logs_begun (is_full_in nodes) c.args.limit c.args.home c.args.node) (sym c.in-Some.ensures.cases.0))
    c.begin_all-others.ensures.ok
