use Rattle.assise_fault_script.proofs.Common.{◌≡◌, sym, ◌∙◌, true, false, inl, inr, cases_Bool, is_utf8, is_comment}
use Rattle.std.proofs.lemmas.Str.{IsUtf8-from_is_utf8, is_utf8-from_IsUtf8}
use Rattle.assise_fault_script.proofs.line.line_command.Goals as goal

pub returns-in-Ok : goal.returns-in-Ok
returns-in-Ok c =
    let plain : is_comment c.args.bytes.now ≡ false = sym c.is_comment.ensures ∙ c.if-is_comment.false in
    let text : is_utf8 c.args.bytes.now ≡ true = is_utf8-from_IsUtf8 c.args.bytes.now c.in-Ok.ensures.cases.1 in
    rw (plain, text, ← c.in-Ok.ensures.cases.0) c.text_line.ensures

pub returns-in-Err : goal.returns-in-Err
returns-in-Err c =
    let plain : is_comment c.args.bytes.now ≡ false = sym c.is_comment.ensures ∙ c.if-is_comment.false in
    let text : is_utf8 c.args.bytes.now ≡ false = elim (cases_Bool (is_utf8 c.args.bytes.now))
    [ inl y ↦ absurd (c.in-Err.ensures.cases.0 (IsUtf8-from_is_utf8 c.args.bytes.now y)) | inr n ↦ n ] in
    inr (rw (plain, text))
