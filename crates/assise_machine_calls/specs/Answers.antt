-- What calls answer, in the words of the laws, and what they change on the way.
use Rattle.std.specs.Prelude.{ℕ, Result, Ok, Err, ⊤}
use Rattle.assise_names.specs.declared.refusal.Refusal.{Refusal}
use Rattle.assise_model_events.specs.Events.{Answer, crashed, not_yet, opened, refused, replied}
use Rattle.assise_machine_state.specs.NodeValues.{with_logs_begun}
use Rattle.assise_machine_state.specs.Observed.{is_full_in}
use Rattle.assise_machine_state.specs.StateValues.{StateValue, standings}
use Rattle.assise_machine_calls.specs.declared.turn.Turn.{Turn}
use Rattle.assise_machine_calls.specs.declared.turn.Turn.TheVariants.{Answered, NotYet}

abbrev pub opening_answer : {C : Type 0} → Result ℕ (Refusal × C) → Answer
opening_answer (Ok client) = opened client
opening_answer (Err back) = refused back.0

abbrev pub crashing_answer : Result ⊤ Refusal → Answer
crashing_answer (Ok _) = crashed
crashing_answer (Err refusal) = refused refusal

abbrev pub turn_answer : Result Turn Refusal → Answer
turn_answer (Ok (Answered reply)) = replied reply
turn_answer (Ok NotYet) = not_yet
turn_answer (Err refusal) = refused refusal

-- the next client's logs are begun, and it isn't known yet
abbrev pub begun_at : StateValue → ℕ → StateValue
begun_at s n = record s { nodes = with_logs_begun (is_full_in (standings s)) s.limit n 1 s.nodes }
