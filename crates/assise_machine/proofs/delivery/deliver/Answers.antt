use Rattle.assise_machine.proofs.Common.{◌+◌, ◌<◌, ◌∙◌, length, refl, ap, sym, arith, is_refused, is_stale, world_of, value_of}
use Rattle.assise_machine.proofs.DeliveryHappens.{Comes, Gives, begun, client, comes, given, groups, has, has_own, lives_elsewhere, not_timely, nothing_new}
use Rattle.assise_machine.proofs.DeliveryHappens.{numbers, own_other, room, some_new}
use Rattle.assise_machine.proofs.delivery.deliver.Given as given_of
use Rattle.assise_machine.proofs.delivery.deliver.Goals as goal
use Rattle.assise_machine.proofs.delivery.deliver.Goals.{After-end-received, After-extend, After-with_own_payloads-records}

pub returns-in-Some-clause-happens : goal.returns-in-Some-clause-happens
returns-in-Some-clause-happens g c = is_refused c.in-Some.refusal (sym c.delivery_refusal.ensures ∙ c.in-Some.is) refl refl

-- the frame comes so
came : (g : given_of.Over) (c : After-end-received g) → Comes (value_of c.args.sound.now.state) c.args.frame c.args.node c.end-received.result
came g c =
    comes c.args.sound.now c.args.frame c.args.node c.end-received.result c.client-client.result c.log.result.now
    (sym c.delivery_refusal.ensures ∙ c.in_default.is) c.end-received.ensures.end c.log.ensures.log c.client-client.ensures.client

pub log-requires : goal.log-requires
unfolding world_of
log-requires g c =
    let may = comes c.args.sound.now c.args.frame c.args.node _ _ _ (sym c.delivery_refusal.ensures ∙ c.in_default.is) refl refl refl in
    record { there = rw c.client-client.ensures.client (has may) }

pub is_next-requires-clause-client : goal.is_next-requires-clause-client
is_next-requires-clause-client g c = client (came g (goal.at.is_next-requires-clause-client g c).After-end-received)

pub is_next-requires-clause-begun : goal.is_next-requires-clause-begun
is_next-requires-clause-begun g c = begun (came g (goal.at.is_next-requires-clause-begun g c).After-end-received)

pub returns-then-not-is_next-clause-happens : goal.returns-then-not-is_next-clause-happens
returns-then-not-is_next-clause-happens g c =
    let before = came g (goal.at.returns-then-not-is_next-clause-happens g c).After-end-received in
    is_stale before.fine (not_timely before (c.is_next.ensures.stale c.if-not-is_next.true)) refl refl

pub returns-then-place-received-clause-happens : goal.returns-then-place-received-clause-happens
returns-then-place-received-clause-happens g c =
    nothing_new (came g (goal.at.returns-then-place-received-clause-happens g c).After-end-received) (c.is_next.ensures.timely c.if-not-is_next.false)
    (omega (arith, c.if-place-received.true, c.first.ensures.first, ap length c.records.ensures.records))

pub own_node-own-requires-clause-client : goal.own_node-own-requires-clause-client
own_node-own-requires-clause-client g c =
    rw c.client-client.ensures.client (client (came g (goal.at.own_node-own-requires-clause-client g c).After-end-received))

pub own_log-log-requires-clause-client : goal.own_log-log-requires-clause-client
own_log-log-requires-clause-client g c =
    rw c.client-client.ensures.client (client (came g (goal.at.own_log-log-requires-clause-client g c).After-end-received))

pub with_own_payloads-records-requires-clause-begun : goal.with_own_payloads-records-requires-clause-begun
with_own_payloads-records-requires-clause-begun g c =
    rw (c.own_log-log.ensures.log, c.client-client.ensures.client)
    (begun (came g (goal.at.with_own_payloads-records-requires-clause-begun g c).After-end-received))

-- there are records that the node lacks
past : (g : given_of.Over) (c : After-with_own_payloads-records g) → c.end-received.result < c.args.frame.first + length c.args.frame.records
past g c = omega (arith, c.if-place-received.false, c.first.ensures.first, ap length c.records.ensures.records)

pub extend-requires : goal.extend-requires
extend-requires g c =
    let before = came g (goal.at.extend-requires g c).After-end-received in
    let next = c.is_next.ensures.timely c.if-not-is_next.false in
    let new = past g (goal.at.extend-requires g c).After-with_own_payloads-records in
    rw (c.own_node-own.ensures.node, c.first-2.ensures.first, c.with_own_payloads-records.ensures, c.client-client.ensures.client) record {
      there = has before;
      own = has_own before;
      other = own_other before next new;
      groups = groups before next new;
      elsewhere = lives_elsewhere before next new;
      room = room before next new (c.is_next.ensures.room c.if-not-is_next.false (some_new before next new));
      numbers_fit = numbers before next new c.first.ensures.ranges.numbers;
      whole = c.is_next.ensures.whole c.if-not-is_next.false;
    }

given_now : (g : given_of.Over) (c : After-extend g) →
    Gives (value_of c.args.sound.now.state) c.args.frame c.args.node (c.first.result + length c.records.result.now)
    (record (value_of c.args.sound.now.state) { nodes = c.extend.new.self })
given_now g c =
    rw (
      c.first.ensures.first,
      c.records.ensures.records,
      c.extend.ensures,
      c.own_node-own.ensures.node,
      c.first-2.ensures.first,
      c.with_own_payloads-records.ensures,
      c.client-client.ensures.client,
    )
    (given (came g (goal.at.After-extend g c).After-end-received) (c.is_next.ensures.timely c.if-not-is_next.false)
    (past g (goal.at.After-extend g c).After-with_own_payloads-records))

pub invariant_of-sound-2 : goal.invariant_of-sound-2
invariant_of-sound-2 g c = (let given = given_now g c in record { invariant = record { holds = given.holds; shape = given.shape; noted = given.noted } })

pub returns-clause-happens : goal.returns-clause-happens
returns-clause-happens g c = (given_now g c.before).happens
