use Rattle.assise_model_events.proofs.OpenAndCrash.{crashing_leads, crashing_keeps}
use Rattle.assise_model_events.proofs.clients.a_crash_keeps_the_invariant.Goals as goal

pub returns-clause-leads : goal.returns-clause-leads
returns-clause-leads r = λ m m' c a h e. crashing_leads m m' c a h e

pub returns-clause-keeps : goal.returns-clause-keeps
returns-clause-keeps r = λ m m' c a h e. crashing_keeps m m' c a h e
