use Rattle.assise_model_history.proofs.Common.{losses_of}
use Rattle.assise_model_history.proofs.Shared.FailureKeeps.{loss_answered, past_syncs}
use Rattle.assise_model_history.proofs.Shared.FailureList.{in_midst}
use Rattle.assise_model_history.proofs.losses.a_failure_takes_no_synced_call.Goals as goal

pub returns : goal.returns
returns c = record {
  past = λ s n lower higher l sound r split. past_syncs s n l sound r (in_midst (losses_of s.world n) lower higher l split);
  answered = loss_answered;
}
