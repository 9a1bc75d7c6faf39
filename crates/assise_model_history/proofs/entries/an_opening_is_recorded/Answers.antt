use Rattle.assise_model_history.proofs.Shared.RecordKeeps.{opening_fits, opening_recorded}
use Rattle.assise_model_history.proofs.entries.an_opening_is_recorded.Goals as goal

pub returns : goal.returns
returns c = record { fits = λ s t n u r e. opening_fits s n u t r e; recorded = λ s t n u sound r e. opening_recorded s n u t sound r e }
