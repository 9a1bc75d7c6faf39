use Rattle.assise_model_events.proofs.AnswerSays.{digested_none, digested_most}
use Rattle.assise_model_events.proofs.answers.a_digest_of_none.Goals as goal

pub returns-clause-none : goal.returns-clause-none
returns-clause-none r = λ m m' n e. digested_none m m' n e

pub returns-clause-most : goal.returns-clause-most
returns-clause-most r = λ m m' n count e. digested_most m m' n count e
