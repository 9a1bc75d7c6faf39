use Rattle.assise_model_history.proofs.Shared.RecordKeeps.{crash_fits, crash_recorded}
use Rattle.assise_model_history.proofs.entries.a_crash_is_recorded.Goals as goal

pub returns : goal.returns
returns c = record { fits = λ s t k sound r e. crash_fits s k t sound r e; recorded = λ s t k sound r e. crash_recorded s k t sound r e }
