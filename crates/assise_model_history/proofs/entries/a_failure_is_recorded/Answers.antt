use Rattle.assise_model_history.proofs.Shared.FailureKeeps.{failure_fits, failure_recorded}
use Rattle.assise_model_history.proofs.entries.a_failure_is_recorded.Goals as goal

pub returns : goal.returns
returns c = record { fits = failure_fits; recorded = λ s t n sound r e. failure_recorded s n t sound r e }
