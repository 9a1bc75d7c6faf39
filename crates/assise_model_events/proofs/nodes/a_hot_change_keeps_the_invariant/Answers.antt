use Rattle.assise_model_events.proofs.Shared.EachEvent.{hot_holds, hot_leads}
use Rattle.assise_model_events.proofs.EntriesTold.{hot_told}
use Rattle.assise_model_events.proofs.nodes.a_hot_change_keeps_the_invariant.Goals as goal

pub returns-clause-told : goal.returns-clause-told
returns-clause-told r = λ m m' n capacity a e. hot_told m m' n capacity a e

pub returns-clause-leads : goal.returns-clause-leads
returns-clause-leads r = λ m m' n capacity a e. hot_leads m m' n capacity a e

pub returns-clause-keeps : goal.returns-clause-keeps
returns-clause-keeps r = λ m m' n capacity a h e. hot_holds m m' n capacity a h e
