use Rattle.assise_libfs.proofs.Common.{rules, ◌≡◌, sym, subst, client, seen, led_from, SeesTry}
use Rattle.assise_libfs.proofs.Sights.{refused-given, sees}
use Rattle.assise_libfs.proofs.turns.try_turn.Goals as goal

pub returns-clause-sees : goal.returns-clause-sees
returns-clause-sees g c =
    let took = c.take-held.ensures in
    let given : seen c.give.new.pass ≡ g.S.Growing.history c.try_call-tried.new.self = search rules in
    let tries = rw c.state.ensures.value at c.try_call-tried.ensures.tries in
    subst (SeesTry c.args.caller c.args.op.now (seen c.args.pass.now) c.try_call-tried.result) (sym given)
    (sees c.args.caller (client c.args.pass.now) c.args.op.now _ _ _ _ c.requires.1 took.extends took.mine tries)

pub returns-clause-refused : goal.returns-clause-refused
returns-clause-refused g c =
    let given : seen c.give.new.pass ≡ g.S.Growing.history c.try_call-tried.new.self = search rules in
    refused-given c.args.caller c.args.op.now _ c.try_call-tried.result _ _ c.try_call-tried.ensures.tries given c.try_call-tried.ensures.refused

pub give-requires-clause-leads : goal.give-requires-clause-leads
give-requires-clause-leads g c =
    let acts = rw c.state.ensures.value at c.try_call-tried.ensures.acts in
    led_from g.S.Growing.leads _ c.take-held.result c.try_call-tried.new.self c.take-held.ensures.state (g.met.S.Served.acts_lead _ _ _ _ acts)

pub give-requires-clause-works : goal.give-requires-clause-works
give-requires-clause-works g c = λ never.
    let acts = rw c.state.ensures.value at c.try_call-tried.ensures.acts in
    led_from g.S.Growing.works _ c.take-held.result c.try_call-tried.new.self c.take-held.ensures.state (g.met.S.Served.acts_work _ _ _ _ tt acts)
