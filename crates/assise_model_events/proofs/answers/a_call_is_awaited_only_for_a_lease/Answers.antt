use Rattle.assise_model_events.proofs.AnswerSays.{awaits}
use Rattle.assise_model_events.proofs.answers.a_call_is_awaited_only_for_a_lease.Goals as goal

pub returns : goal.returns
returns r = λ m m' c op e. awaits m m' c op e
