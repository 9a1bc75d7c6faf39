use Rattle.assise_machine.proofs.Common.{◌∙◌, sym, arith, value_of}
use Rattle.assise_machine.proofs.DeliveryFaults.{may_deliver, no_client, node_refused}
use Rattle.assise_machine.proofs.delivery.delivery_refusal.Goals as goal

pub returns-in-Some : goal.returns-in-Some
returns-in-Some g c = sym (node_refused (value_of c.args.state.now) c.args.frame.now c.args.node c.in-Some.refusal (sym c.node_refusal.ensures ∙ c.in-Some.is))

pub returns-then-client-len : goal.returns-then-client-len
returns-then-client-len g c =
    sym (no_client (value_of c.args.state.now) c.args.frame.now c.args.node (sym c.node_refusal.ensures ∙ c.in_default.is)
    (omega (arith, c.len.ensures, c.client.ensures.client, c.if-client-len.true)))

pub returns : goal.returns
returns g c =
    sym (may_deliver (value_of c.args.state.now) c.args.frame.now c.args.node (sym c.node_refusal.ensures ∙ c.in_default.is) c.client.ensures.ranges.client
    (omega (arith, c.len.ensures, c.client.ensures.client, c.if-client-len.false)))
