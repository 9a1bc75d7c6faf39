use Rattle.assise_model_events.proofs.AnswerSays.{join_busy, busy_same, join_fine}
use Rattle.assise_model_events.proofs.answers.a_join_waits_for_stale_inodes.Goals as goal

pub returns-clause-busy : goal.returns-clause-busy
returns-clause-busy r = λ m m' n e. join_busy m m' n e

pub returns-clause-same : goal.returns-clause-same
returns-clause-same r = λ m m' n e. busy_same m m' n e

pub returns-clause-joined : goal.returns-clause-joined
returns-clause-joined r = λ m m' n e. join_fine m m' n e
