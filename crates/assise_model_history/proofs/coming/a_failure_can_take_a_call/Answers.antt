use Rattle.assise_model_history.proofs.Shared.LossReached.{lossy}
use Rattle.assise_model_history.proofs.coming.a_failure_can_take_a_call.Goals as goal

pub returns : goal.returns
returns c = lossy
