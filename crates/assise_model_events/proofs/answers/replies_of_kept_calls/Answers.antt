use Rattle.assise_model_events.proofs.AnswerSays.{call_replies, sync_replies}
use Rattle.assise_model_events.proofs.answers.replies_of_kept_calls.Goals as goal

pub returns-clause-call : goal.returns-clause-call
returns-clause-call r = λ m m' c op reply h e. call_replies m m' c op reply h e

pub returns-clause-sync : goal.returns-clause-sync
returns-clause-sync r = λ m m' c op reply h e. sync_replies m m' c op reply h e
