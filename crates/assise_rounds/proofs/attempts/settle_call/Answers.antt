use Rattle.assise_rounds.proofs.Common.{rules, ◌≡◌, ◌+◌, ◌∙◌, Ok, Err, map, subst, arith, LogFull, machine, turn_answer, refused, Trying, FaithfulAt}
use Rattle.assise_rounds.proofs.Common.{RoundsOver, Told, MakesRoom}
use Rattle.assise_rounds.proofs.VainTries.{awaited_in_vain, found_full, tried_idle, tried_settled, tried_full}
use Rattle.assise_rounds.proofs.attempts.settle_call.Goals as goal
use Rattle.assise_rounds.proofs.attempts.settle_call.Goals.{in-Ok-NotYet+else-not-round_over, in-Err+else-ne+else-not-make_room}

pub returns-in-Ok-Answered-clause-tries : goal.returns-in-Ok-Answered-clause-tries
returns-in-Ok-Answered-clause-tries g c =
    tried_settled (FaithfulAt (map g.L.Link.kind c.args.links.now)) c.args.turns c.args.client c.args.op.now (Ok c.in-Ok-Answered.reply) c.loop.counter
    (machine c.args.cluster.now) (machine c.loop.cluster) (machine c.try_call.new.self)
    (omega (arith, c.loop-test.true)) (λ is. search (rules, is)) c.loop.invariant.tries
    (subst (λ t. Trying (machine c.loop.cluster) c.args.client c.args.op.now (turn_answer (Ok t)) (machine c.try_call.new.self)) c.in-Ok-Answered.field-0-is
    c.in-Ok-Answered.ensures.happens)

pub returns-then-not-round_over-clause-tries : goal.returns-then-not-round_over-clause-tries
returns-then-not-round_over-clause-tries g c =
    tried_idle (FaithfulAt (map g.L.Link.kind c.args.links.now)) c.args.turns c.args.client c.args.op.now c.round_over.result c.loop.counter
    (machine c.args.cluster.now) (machine c.loop.cluster) (machine c.try_call.new.self) (machine c.round_over.new.cluster)
    (omega (arith, c.loop-test.true)) c.if-not-round_over.true c.loop.invariant.tries
    (subst (λ t. Trying (machine c.loop.cluster) c.args.client c.args.op.now (turn_answer (Ok t)) (machine c.try_call.new.self)) c.in-Ok-NotYet.field-0-is
    c.in-Ok-NotYet.ensures.happens)
    (subst (λ ks. (es : Told) × RoundsOver (FaithfulAt ks) c.round_over.result (machine c.try_call.new.self) es (machine c.round_over.new.cluster))
    c.loop.invariant.stay c.round_over.ensures.rounds)

pub returns-then-ne-clause-tries : goal.returns-then-ne-clause-tries
returns-then-ne-clause-tries g c =
    tried_settled (FaithfulAt (map g.L.Link.kind c.args.links.now)) c.args.turns c.args.client c.args.op.now (Err c.in-Err.refusal) c.loop.counter
    (machine c.args.cluster.now) (machine c.loop.cluster) (machine c.try_call.new.self)
    (omega (arith, c.loop-test.true)) (λ is. search (rules, is)) c.loop.invariant.tries c.in-Err.ensures.happens

pub returns-then-not-make_room-clause-tries : goal.returns-then-not-make_room-clause-tries
returns-then-not-make_room-clause-tries g c =
    let log_is_full : c.in-Err.refusal ≡ LogFull = search rules in
    tried_full (FaithfulAt (map g.L.Link.kind c.args.links.now)) c.args.turns c.args.client c.args.op.now c.make_room.result c.loop.counter
    (machine c.args.cluster.now) (machine c.loop.cluster) (machine c.try_call.new.self)
    (machine c.make_room.new.cluster) (omega (arith, c.loop-test.true)) c.if-not-make_room.true c.loop.invariant.tries
    (subst (λ r. Trying (machine c.loop.cluster) c.args.client c.args.op.now (refused r) (machine c.try_call.new.self)) log_is_full c.in-Err.ensures.happens)
    (subst (λ ks. (es : Told) × MakesRoom (FaithfulAt ks) c.make_room.result c.args.client (machine c.try_call.new.self) es
    (machine c.make_room.new.cluster)) c.loop.invariant.stay c.make_room.ensures.makes)

pub loop-preserved : goal.loop-preserved
loop-preserved g c = elim c.match-try_call.branch [
  | in-Ok-NotYet+else-not-round_over w ↦ rw (w.cluster-is, w.links-is) record {
    tries =
        awaited_in_vain (FaithfulAt (map g.L.Link.kind c.args.links.now)) w.round_over.result c.args.client c.args.op.now c.loop.counter (c.loop.counter + 1)
        (machine c.args.cluster.now) (machine c.loop.cluster) (machine c.try_call.new.self)
        (machine w.round_over.new.cluster) w.if-not-round_over.false (omega arith) c.loop.invariant.tries
        (subst (λ t. Trying (machine c.loop.cluster) c.args.client c.args.op.now (turn_answer (Ok t)) (machine c.try_call.new.self)) w.in-Ok-NotYet.field-0-is
        w.in-Ok-NotYet.ensures.happens)
        (subst (λ ks. (es : Told) × RoundsOver (FaithfulAt ks) w.round_over.result (machine c.try_call.new.self) es (machine w.round_over.new.cluster))
        c.loop.invariant.stay w.round_over.ensures.rounds);
    stay = w.round_over.ensures.stay ∙ c.loop.invariant.stay;
    few = omega (arith, c.loop-test.true);
  }
  | in-Err+else-ne+else-not-make_room w ↦ let log_is_full : w.in-Err.refusal ≡ LogFull = search rules in rw (w.cluster-is, w.links-is) record {
    tries =
        found_full (FaithfulAt (map g.L.Link.kind c.args.links.now)) w.make_room.result c.args.client c.args.op.now c.loop.counter (c.loop.counter + 1)
        (machine c.args.cluster.now) (machine c.loop.cluster) (machine c.try_call.new.self)
        (machine w.make_room.new.cluster) w.if-not-make_room.false (omega arith) c.loop.invariant.tries
        (subst (λ r. Trying (machine c.loop.cluster) c.args.client c.args.op.now (refused r) (machine c.try_call.new.self)) log_is_full
        w.in-Err.ensures.happens)
        (subst (λ ks. (es : Told) × MakesRoom (FaithfulAt ks) w.make_room.result c.args.client (machine c.try_call.new.self) es
        (machine w.make_room.new.cluster)) c.loop.invariant.stay w.make_room.ensures.makes);
    stay = w.make_room.ensures.stay ∙ c.loop.invariant.stay;
    few = omega (arith, c.loop-test.true);
  }
]
