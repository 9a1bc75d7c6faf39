use Rattle.assise_model_events.proofs.AnswerSays.{listed_exactly, again_none}
use Rattle.assise_model_events.proofs.answers.a_failure_lists_its_losses.Goals as goal

pub returns-clause-exactly : goal.returns-clause-exactly
returns-clause-exactly r = λ m m' n losses l h at e. listed_exactly m m' n losses l h at e

pub returns-clause-again : goal.returns-clause-again
returns-clause-again r = λ m m' n losses away e. again_none m m' n losses away e
