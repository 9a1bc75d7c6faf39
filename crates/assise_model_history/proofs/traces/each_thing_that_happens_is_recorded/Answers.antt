use Rattle.assise_model_history.proofs.Shared.TracesKeep.{happens_moves, happens_recorded}
use Rattle.assise_model_history.proofs.traces.each_thing_that_happens_is_recorded.Goals as goal

pub returns : goal.returns
returns c = record { moves = happens_moves; recorded = happens_recorded }
