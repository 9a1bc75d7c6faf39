use Rattle.assise_workers.proofs.Common.{rules, Extends, led_from, seen_at}
use Rattle.assise_workers.proofs.Deliveries.{one_if_ok}
use Rattle.assise_workers.proofs.worker.Worker.bring_in.Goals as goal

pub returns-clause-turn : goal.returns-clause-turn
returns-clause-turn g c =
    let extends : Extends (g.S.Growing.history c.state.result.now) (seen_at c.args.self.now) = search rules in (
      _,
      (
        record {
          before = c.state.result.now;
          after = c.deliver-delivered.new.self;
          extends = extends;
          does = c.deliver-delivered.ensures.acts;
          seen =
              c.give.ensures.seen;
        },
        one_if_ok c.deliver-delivered.result c.is_ok.result c.from.result c.is_ok.ensures.value c.from.ensures,
      ),
    )

pub give-requires-clause-leads : goal.give-requires-clause-leads
give-requires-clause-leads g c =
    let acts = rw c.state.ensures.value at c.deliver-delivered.ensures.acts in
    led_from g.S.Growing.leads _ c.take-held.result c.deliver-delivered.new.self c.take-held.ensures.state (g.met.S.Replicated.acts_lead _ _ _ _ acts)

pub give-requires-clause-works : goal.give-requires-clause-works
give-requires-clause-works g c =
    let acts = rw c.state.ensures.value at c.deliver-delivered.ensures.acts in
    led_from g.S.Growing.works _ c.take-held.result c.deliver-delivered.new.self c.take-held.ensures.state (g.met.S.Replicated.acts_work _ _ _ _ tt acts)
