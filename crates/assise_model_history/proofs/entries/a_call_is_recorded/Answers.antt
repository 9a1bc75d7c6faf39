use Rattle.assise_model_history.proofs.Shared.RecordKeeps.{call_answered, call_fits, call_recorded, sync_replicated}
use Rattle.assise_model_history.proofs.entries.a_call_is_recorded.Goals as goal

pub returns : goal.returns
returns c = search (call_fits, call_answered, call_recorded, sync_replicated) parts 3
