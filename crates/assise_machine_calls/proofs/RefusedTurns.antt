-- What a call that is refused answers.
use Rattle.assise_machine_calls.proofs.Common.{◌≡◌, ap, ◌∙◌, err_from_is_err_and, Refusal, refused, turn_answer}
use Rattle.std.specs.Prelude.{Result}
use Rattle.std.specs.Result.{IsErrAnd}
use Rattle.assise_machine_calls.specs.declared.turn.Turn.{Turn}

pub turn_refused : {r : Refusal} (result : Result Turn Refusal) → IsErrAnd result (λ e. e ≡ r) → turn_answer result ≡ refused r
turn_refused result is = (let error = err_from_is_err_and result is in ap turn_answer error.1 ∙ ap refused error.2)
