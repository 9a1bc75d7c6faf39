use Rattle.assise_fault_script.proofs.Common.{◌≡◌, sym, ◌∙◌, true, false, is_digits}
use Rattle.assise_fault_script.proofs.Digits.{no_digits, parsed}
use Rattle.assise_fault_script.proofs.number.number.Goals as goal

pub returns-then-not-all_digits : goal.returns-then-not-all_digits
returns-then-not-all_digits c =
    let d : is_digits c.args.word.now ≡ false = rw c.as_bytes.ensures.value at (sym c.all_digits.ensures ∙ c.if-not-all_digits.true) in
    sym (no_digits c.args.word.now d)

pub returns-in-Ok : goal.returns-in-Ok
returns-in-Ok c =
    let d : is_digits c.args.word.now ≡ true = rw c.as_bytes.ensures.value at (sym c.all_digits.ensures ∙ c.if-not-all_digits.false) in
    let m = parsed c.args.word.now c.parse.result d c.parse.ensures.value.0 in
    sym (rw c.in-Ok.is at m)

pub returns-in-Err : goal.returns-in-Err
returns-in-Err c =
    let d : is_digits c.args.word.now ≡ true = rw c.as_bytes.ensures.value at (sym c.all_digits.ensures ∙ c.if-not-all_digits.false) in
    let m = parsed c.args.word.now c.parse.result d c.parse.ensures.value.0 in
    sym (rw c.in-Err.is at m)
