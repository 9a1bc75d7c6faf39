use Rattle.assise_model_events.proofs.Felled.{fail_leads, fail_holds}
use Rattle.assise_model_events.proofs.failures.a_failure_keeps_the_invariant.Goals as goal

pub returns-clause-leads : goal.returns-clause-leads
returns-clause-leads r = λ m m' n a h e. fail_leads m m' n a h e

pub returns-clause-keeps : goal.returns-clause-keeps
returns-clause-keeps r = λ m m' n a h e. fail_holds m m' n a h e
