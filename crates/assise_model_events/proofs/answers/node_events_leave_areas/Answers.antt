use Rattle.assise_model_events.proofs.OtherAreas.{delivered_areas, digested_areas, called_areas}
use Rattle.assise_model_events.proofs.answers.node_events_leave_areas.Goals as goal

pub returns-clause-delivery : goal.returns-clause-delivery
returns-clause-delivery r = λ m m' f n k e j i there. delivered_areas m m' f n k e j i there

pub returns-clause-digest : goal.returns-clause-digest
returns-clause-digest r = λ m m' n count e j i there other. digested_areas m m' n count e j i there other

pub returns-clause-call : goal.returns-clause-call
returns-clause-call r = λ m m' c op reply h e j i there. called_areas m m' c op reply h e j i there
