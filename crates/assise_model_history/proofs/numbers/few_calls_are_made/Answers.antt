use Rattle.assise_model_history.proofs.Shared.NumberBounds.{calls_below, records_below}
use Rattle.assise_model_history.proofs.numbers.few_calls_are_made.Goals as goal

pub returns : goal.returns
returns c = record { calls = calls_below; records = records_below }
