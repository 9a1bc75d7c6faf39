use Rattle.assise_model_events.proofs.DeliveryKeeps.{delivery_leads, delivery_keeps}
use Rattle.assise_model_events.proofs.nodes.a_delivery_keeps_the_invariant.Goals as goal

pub returns-clause-leads : goal.returns-clause-leads
returns-clause-leads r = λ m m' f n a h e. delivery_leads m m' f n a h e

pub returns-clause-keeps : goal.returns-clause-keeps
returns-clause-keeps r = λ m m' f n a h e. delivery_keeps m m' f n a h e
