use Rattle.assise_model_events.proofs.ReleaseKeeps.{release_leads, release_holds}
use Rattle.assise_model_events.proofs.nodes.a_release_keeps_the_invariant.Goals as goal

pub returns-clause-leads : goal.returns-clause-leads
returns-clause-leads r = λ m m' a h e. release_leads m m' a h e

pub returns-clause-keeps : goal.returns-clause-keeps
returns-clause-keeps r = λ m m' a h e. release_holds m m' a h e
