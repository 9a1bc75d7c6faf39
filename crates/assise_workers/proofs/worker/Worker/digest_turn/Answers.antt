use Rattle.assise_workers.proofs.Common.{led_from}
use Rattle.assise_workers.proofs.worker.Worker.digest_turn.Goals as goal

pub give-requires-clause-leads : goal.give-requires-clause-leads
give-requires-clause-leads g c =
    let digests = rw c.state.ensures.value at c.digest.ensures.acts in
    let releases = rw c.state-2.ensures.value at c.release_ready-released.ensures.acts in
    led_from g.S.Growing.leads _ c.take-held.result c.release_ready-released.new.self c.take-held.ensures.state
    (g.S.Growing.goes_on _ _ _ (g.met.S.Replicated.acts_lead _ _ _ _ digests) (g.met.S.Replicated.acts_lead _ _ _ _ releases))

pub give-requires-clause-works : goal.give-requires-clause-works
give-requires-clause-works g c =
    let digests = rw c.state.ensures.value at c.digest.ensures.acts in
    let releases = rw c.state-2.ensures.value at c.release_ready-released.ensures.acts in
    led_from g.S.Growing.works _ c.take-held.result c.release_ready-released.new.self c.take-held.ensures.state
    (g.S.Growing.works_on _ _ _ (g.met.S.Replicated.acts_work _ _ _ _ tt digests) (g.met.S.Replicated.acts_work _ _ _ _ tt releases))
