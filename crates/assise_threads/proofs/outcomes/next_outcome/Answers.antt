use Rattle.assise_threads.proofs.Common.{◌∙◌, ◌<◌, ◌+◌, ◌↔◌, IsSome, length, take, sym, ap, subst, arith, set-get_or, outcomes_of, untold}
use Rattle.assise_threads.proofs.FirstOf.{left_there, not_yet, taken_there, takes_first}
use Rattle.assise_threads.proofs.outcomes.next_outcome.Goals as goal

pub returns-then-from-client-clause-next : goal.returns-then-from-client-clause-next
returns-then-from-client-clause-next c =
    let loop = c.loop-one in
    let o = c.one-item.result in
    let is = c.one-item.is in
    let within : loop.one-index < length loop.outcomes = omega (arith, c.loop-one-test.true, loop.auto.outcomes) in
    let its = sym c.from.ensures ∙ c.if-from-client.true in
    let next = c.next.ensures in
    taken_there c.args.client c.args.outcomes.now loop.outcomes loop.one-index o _ loop.invariant.same within is c.next.result loop.invariant.before
    (ap (λ x. x.client) is ∙ its) its
    (takes_first o.left.rest.items c.next.new.self.rest.items o.left.rest.len c.next.result (omega (arith, o.left.rest.ok.0))
    (subst (λ x. IsSome c.next.result ↔ (0 < x.left.rest.len)) (sym is) next.variant) (ap (λ x. x.left.rest.items) is ∙ next.items))

pub returns-then-from-client-clause-others : goal.returns-then-from-client-clause-others
returns-then-from-client-clause-others c = λ d ne.
    let loop = c.loop-one in
    let is = c.one-item.is in
    let within : loop.one-index < length loop.outcomes = omega (arith, c.loop-one-test.true, loop.auto.outcomes) in
    let its = sym c.from.ensures ∙ c.if-from-client.true in
    left_there d c.args.outcomes.now loop.outcomes loop.one-index c.one-item.result _ loop.invariant.same within is
    (λ e. ne (sym e ∙ (ap (λ x. x.client) is ∙ its))) (ap (λ x. x.client) (sym is))

pub loop-one-preserved : goal.loop-one-preserved
loop-one-preserved c =
    let loop = c.loop-one in
    let is = c.one-item.is in
    let within : loop.one-index < length loop.outcomes = omega (arith, c.loop-one-test.true, loop.auto.outcomes) in
    let here = set-get_or loop.outcomes loop.one-index c.one-item.result in
    record {
      same = here ∙ loop.invariant.same;
      before = ap (λ z. outcomes_of c.args.client (untold (take (loop.one-index + 1) z))) here
          ∙ not_yet c.args.client c.args.outcomes.now loop.outcomes loop.one-index c.one-item.result c.one-item.result loop.invariant.same within is
          loop.invariant.before (λ e. c.if-from-client.false (c.from.ensures ∙ (ap (λ x. x.client) (sym is) ∙ e)));
    }
