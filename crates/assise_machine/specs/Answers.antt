-- What the events of nodes answer, in the words of the laws.
use Rattle.std.specs.Prelude.{ℕ, ⊤, Result, Ok, Err}
use Rattle.std.specs.Global.{Vec}
use Rattle.assise_names.specs.declared.refusal.Refusal.{Refusal}
use Rattle.assise_model_events.specs.Events.{Answer, digested, hot_set, raised, received, refused, sent}
use Rattle.assise_record.specs.LogFrame.{LogFrame}

abbrev pub delivery_answer : Result ℕ Refusal → Answer
delivery_answer (Ok place) = received place
delivery_answer (Err refusal) = refused refusal

abbrev pub sending_answer : Result (Vec (LogFrame × ℕ)) Refusal → Answer
sending_answer (Ok frames) = sent frames.items
sending_answer (Err refusal) = refused refusal

abbrev pub digesting_answer : Result ℕ Refusal → Answer
digesting_answer (Ok count) = digested count
digesting_answer (Err refusal) = refused refusal

abbrev pub setting_answer : Result ⊤ Refusal → Answer
setting_answer (Ok _) = hot_set
setting_answer (Err refusal) = refused refusal

abbrev pub raising_answer : Result ⊤ Refusal → Answer
raising_answer (Ok _) = raised
raising_answer (Err refusal) = refused refusal
