use Rattle.assise_model_history.proofs.Shared.FailureKeeps.{failure_again_recorded, nothing_fair}
use Rattle.assise_model_history.proofs.entries.a_second_failure_is_recorded.Goals as goal

pub returns : goal.returns
returns c = record { fits = nothing_fair; recorded = λ s t n sound r e. failure_again_recorded s n t sound r e }
