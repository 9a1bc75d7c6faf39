use Rattle.assise_model_history.proofs.Shared.TracesKeep.{trace_lasts, whatever_kept, whatever_recorded, whatever_sound}
use Rattle.assise_model_history.proofs.traces.whatever_happens_is_recorded.Goals as goal

pub returns : goal.returns
returns c = record { sound = whatever_sound; recorded = whatever_recorded; kept = whatever_kept; lasting = trace_lasts }
