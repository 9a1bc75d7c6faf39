use Rattle.assise_model_events.proofs.AnswerSays.{delivered_place, delivered_stands}
use Rattle.assise_model_events.proofs.answers.a_delivery_answers_what_the_node_has.Goals as goal

pub returns-clause-answered : goal.returns-clause-answered
returns-clause-answered r = λ m m' f n k e. delivered_place m m' f n k e

pub returns-clause-stands : goal.returns-clause-stands
returns-clause-stands r = λ m m' f n k e. delivered_stands m m' f n k e
