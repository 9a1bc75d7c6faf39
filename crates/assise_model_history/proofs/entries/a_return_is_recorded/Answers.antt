use Rattle.assise_model_history.proofs.Shared.FailureKeeps.{return_fits, return_recorded}
use Rattle.assise_model_history.proofs.entries.a_return_is_recorded.Goals as goal

pub returns : goal.returns
returns c = record { fits = λ s t n donor r e. return_fits s n donor t r e; recorded = λ s t n donor sound r e. return_recorded s n donor t sound r e }
