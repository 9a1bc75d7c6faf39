use Rattle.assise_desk.proofs.Common.{rules, ◌≡◌, ◌∙◌, Ok, Err, length, string_bytes, refl, ap, err_from_is_err_and, keeps_text, prints_none, prints_text}
use Rattle.assise_desk.proofs.DeskSteps.{owned_is}
use Rattle.assise_desk.proofs.caller_desk.keep.Goals as goal

pub returns : goal.returns
returns c =
    let there = owned_is c.args.files.now c.in-Some.files c.deref.result.now c.in-Some.is c.deref.ensures in
    let long : c.len-length.result ≡ length (string_bytes c.in_ok-printed.printed.value) = search rules in
    keeps_text c.deref.result.now there (prints_text c.in_ok-printed.ensures.printed (ap Ok long))

pub returns-in_err-printed : goal.returns-in_err-printed
returns-in_err-printed c =
    let there = owned_is c.args.files.now c.in-Some.files c.deref.result.now c.in-Some.is c.deref.ensures in
    let error = err_from_is_err_and c.from_residual.result c.from_residual.ensures.1 in
    keeps_text c.deref.result.now there (prints_none c.in_err-printed.field-0.0 c.in_err-printed.ensures.fault (error.1 ∙ ap Err error.2) refl)
