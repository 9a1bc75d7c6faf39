use Rattle.assise_model_events.proofs.Shared.EachEvent.{event_told, event_leads, event_keeps}
use Rattle.assise_model_events.proofs.headline.each_event_keeps_the_invariant.Goals as goal

pub returns-clause-told : goal.returns-clause-told
returns-clause-told r = λ m m' e a h. event_told m m' e a h

pub returns-clause-leads : goal.returns-clause-leads
returns-clause-leads r = λ m m' e a h s. event_leads m m' e a h s

pub returns-clause-keeps : goal.returns-clause-keeps
returns-clause-keeps r = λ m m' e a h s. event_keeps m m' e a h s
