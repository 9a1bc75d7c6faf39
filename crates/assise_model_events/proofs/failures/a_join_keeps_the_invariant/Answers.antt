use Rattle.assise_model_events.proofs.Shared.Rejoined.{join_leads, join_holds}
use Rattle.assise_model_events.proofs.failures.a_join_keeps_the_invariant.Goals as goal

pub returns-clause-leads : goal.returns-clause-leads
returns-clause-leads r = λ m m' n a h e. join_leads m m' n a h e

pub returns-clause-keeps : goal.returns-clause-keeps
returns-clause-keeps r = λ m m' n a h e. join_holds m m' n a h e
