-- What failures and returns answer, in the words of the laws.
use Rattle.std.specs.Prelude.{ℕ, map, Result, Ok, Err, ⊤}
use Rattle.std.specs.Global.{Vec}
use Rattle.assise_names.specs.declared.refusal.Refusal.{Refusal}
use Rattle.assise_history.specs.declared.call.Loss.{Loss}
use Rattle.assise_model_events.specs.Events.{Answer, began, failed, joined, left, refused}

-- a client with the number of its first lost call
abbrev pub loss_of : ℕ × ℕ → Loss
loss_of pair = record { client = pair.0; first = pair.1 }

abbrev pub failing_answer : Result (Vec (ℕ × ℕ)) Refusal → Answer
failing_answer (Ok losses) = failed (map loss_of losses.items)
failing_answer (Err refusal) = refused refusal

abbrev pub returning_answer : Result ℕ Refusal → Answer
returning_answer (Ok stale) = began stale
returning_answer (Err refusal) = refused refusal

abbrev pub refilling_answer : Result ℕ Refusal → Answer
refilling_answer (Ok stale) = left stale
refilling_answer (Err refusal) = refused refusal

abbrev pub joining_answer : Result ⊤ Refusal → Answer
joining_answer (Ok _) = joined
joining_answer (Err refusal) = refused refusal
