use Rattle.assise_model_events.proofs.OpenAndCrash.{opening_leads, opening_keeps}
use Rattle.assise_model_events.proofs.clients.an_opening_keeps_the_invariant.Goals as goal

pub returns-clause-leads : goal.returns-clause-leads
returns-clause-leads r = λ m m' n u a h e. opening_leads m m' n u a h e

pub returns-clause-keeps : goal.returns-clause-keeps
returns-clause-keeps r = λ m m' n u a h e. opening_keeps m m' n u a h e
