use Rattle.assise_fault_script.proofs.Common.{ap, subst, map, ◌∙◌, AnswersLine, command_of, words_of}
use Rattle.assise_fault_script.proofs.Rows.{six}
use Rattle.assise_fault_script.proofs.line.text_line.Goals as goal

pub returns : goal.returns
returns c = subst (AnswersLine c.command.result) (ap (λ ws. command_of c.args.built (map (λ w. w.now) ws)) c.as_slice.ensures.value
    ∙ ap (command_of c.args.built) c.words-words.ensures ∙ six c.args.built (words_of c.args.text.now)) c.command.ensures
