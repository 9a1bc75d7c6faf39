use Rattle.assise_console.proofs.Common.{rules, ◌≡◌, ◌∙◌, IsOk, subst, on_ok_weaker, Appends, answer_text, numbered_line}
use Rattle.assise_console.proofs.ShortLines.{on_ok, whole_text}
use Rattle.assise_console.proofs.engine.print_line.Goals as goal

pub returns-then-is_ok-clause-done : goal.returns-then-is_ok-clause-done
returns-then-is_ok-clause-done g c =
    let fits : IsOk c.write.result = search rules in
    let line = numbered_line c.args.number (answer_text c.args.history.now.events c.args.answer.now) in
    let text : c.write.new.self.bytes ≡ line = whole_text c.new-short.result c.write.new.self line c.new-short.ensures
    (on_ok c.write.result fits c.write.ensures.writes) in
    let given : c.as_bytes.result.now ≡ line = c.as_bytes.ensures.value ∙ c.as_str.ensures.value ∙ text in
    on_ok_weaker c.written.result (λ fine. subst (Appends _ _) given (on_ok c.write_all.result fine c.write_all.ensures.bytes)) c.written.ensures.done
