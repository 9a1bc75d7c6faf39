use Rattle.assise_model_history.proofs.Shared.FailureKeeps.{failure_takes}
use Rattle.assise_model_history.proofs.Shared.FailureList.{exactly_lost, losses_ascend}
use Rattle.assise_model_history.proofs.losses.a_failure_lists_the_first_lost_calls.Goals as goal

pub returns : goal.returns
returns c = record { exactly = exactly_lost; ascending = losses_ascend; taken = λ s t n sound e. failure_takes s.world t.world n sound e.world }
