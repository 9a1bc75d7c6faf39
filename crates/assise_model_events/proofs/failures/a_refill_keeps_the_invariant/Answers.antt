use Rattle.assise_model_events.proofs.ReturnKeeps.{refill_leads, refill_holds}
use Rattle.assise_model_events.proofs.failures.a_refill_keeps_the_invariant.Goals as goal

pub returns-clause-leads : goal.returns-clause-leads
returns-clause-leads r = λ m m' n a h e. refill_leads m m' n a h e

pub returns-clause-keeps : goal.returns-clause-keeps
returns-clause-keeps r = λ m m' n a h e. refill_holds m m' n a h e
