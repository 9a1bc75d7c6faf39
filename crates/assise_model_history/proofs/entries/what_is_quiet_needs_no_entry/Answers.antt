use Rattle.assise_model_history.proofs.Shared.RecordKeeps.{quiet_recorded}
use Rattle.assise_model_history.proofs.entries.what_is_quiet_needs_no_entry.Goals as goal

pub returns : goal.returns
returns c = λ s t sound r e. quiet_recorded s t sound r e
