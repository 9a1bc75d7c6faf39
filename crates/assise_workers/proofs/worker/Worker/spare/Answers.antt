use Rattle.assise_workers.proofs.Common.{led_from}
use Rattle.assise_workers.proofs.worker.Worker.spare.Goals as goal

pub give-requires-clause-leads : goal.give-requires-clause-leads
give-requires-clause-leads g c = led_from g.S.Growing.leads _ c.take-held.result c.state.result.now c.take-held.ensures.state
    (rw c.state.ensures.value (g.S.Growing.stays c.take-held.result))

pub give-requires-clause-works : goal.give-requires-clause-works
give-requires-clause-works g c = led_from g.S.Growing.works _ c.take-held.result c.state.result.now c.take-held.ensures.state
    (rw c.state.ensures.value (g.S.Growing.rests c.take-held.result))
