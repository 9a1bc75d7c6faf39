use Rattle.assise_machine.proofs.Common.{◌∙◌, refl, sym, world_of, value_of}
use Rattle.assise_machine.proofs.DeliveryHappens.{Comes, begun, client, comes, has, is_next, not_timely}
use Rattle.assise_machine.proofs.delivery.frame_refusal.Given as given
use Rattle.assise_machine.proofs.delivery.frame_refusal.Goals as goal
use Rattle.assise_machine.proofs.delivery.frame_refusal.Goals.{After-end-received}

pub log-requires : goal.log-requires
unfolding world_of
log-requires g c =
    let may = comes c.args.sound.now c.args.frame.now c.args.node _ _ _ (sym c.delivery_refusal.ensures ∙ c.in_default.is) refl refl refl in
    record { there = rw c.client-client.ensures.client (has may) }

came : (g : given.Over) (c : After-end-received g) → Comes (value_of c.args.sound.now.state) c.args.frame.now c.args.node c.end-received.result
came g c =
    comes c.args.sound.now c.args.frame.now c.args.node c.end-received.result c.client-client.result c.log.result.now
    (sym c.delivery_refusal.ensures ∙ c.in_default.is) c.end-received.ensures.end c.log.ensures.log c.client-client.ensures.client

pub is_next-requires-clause-client : goal.is_next-requires-clause-client
is_next-requires-clause-client g c = client (came g (goal.at.is_next-requires-clause-client g c).After-end-received)

pub is_next-requires-clause-begun : goal.is_next-requires-clause-begun
is_next-requires-clause-begun g c = begun (came g (goal.at.is_next-requires-clause-begun g c).After-end-received)

pub returns-then-is_next-clause-timely : goal.returns-then-is_next-clause-timely
returns-then-is_next-clause-timely g c =
    is_next (came g (goal.at.returns-then-is_next-clause-timely g c).After-end-received) (c.is_next.ensures.timely c.if-is_next.true)

pub returns-else-is_next-clause-taken : goal.returns-else-is_next-clause-taken
returns-else-is_next-clause-taken g c fine timely =
    absurd (not_timely (came g (goal.at.returns-else-is_next-clause-taken g c).After-end-received) (c.is_next.ensures.stale c.if-is_next.false) timely)
