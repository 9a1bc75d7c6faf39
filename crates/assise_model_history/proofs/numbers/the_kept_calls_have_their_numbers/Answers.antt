use Rattle.assise_model_history.proofs.Shared.NumberedCalls.{numbered_parts, kept_parts, kept_exactly, kept_plain}
use Rattle.assise_model_history.proofs.numbers.the_kept_calls_have_their_numbers.Goals as goal

pub returns : goal.returns
returns c = record { numbered = numbered_parts; parts = kept_parts; exactly = kept_exactly; plain = kept_plain }
