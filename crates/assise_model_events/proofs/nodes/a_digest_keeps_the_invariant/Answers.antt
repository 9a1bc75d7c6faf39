use Rattle.assise_model_events.proofs.Digested.{digesting_leads, digesting_holds}
use Rattle.assise_model_events.proofs.nodes.a_digest_keeps_the_invariant.Goals as goal

pub returns-clause-leads : goal.returns-clause-leads
returns-clause-leads r = λ m m' n a h e. digesting_leads m m' n a h e

pub returns-clause-keeps : goal.returns-clause-keeps
returns-clause-keeps r = λ m m' n a h e. digesting_holds m m' n a h e
