use Rattle.assise_model_events.proofs.AnswerSays.{synced_all, syncing_lacks}
use Rattle.assise_model_events.proofs.answers.a_sync_is_answered_once_replicated.Goals as goal

pub returns-clause-answered : goal.returns-clause-answered
returns-clause-answered r = λ m m' c op reply e. synced_all m m' c op reply e

pub returns-clause-awaited : goal.returns-clause-awaited
returns-clause-awaited r = λ m m' c op e. syncing_lacks m m' c op e
