use Rattle.assise_fault_script.proofs.Common.{lit<, sym, ◌∙◌, strip_prefix_char}
use Rattle.assise_fault_script.proofs.Letters.{does_not, given_text, no_text, other_letter}
use Rattle.assise_fault_script.proofs.data.check_data.Goals as goal

pub returns-then-is_some : goal.returns-then-is_some
returns-then-is_some c = given_text c.args.word.now _ (strip_prefix_char 116 _ _ c.strip_prefix.ensures.cases (lit< tt))
    (sym c.if-is_some.true ∙ c.is_some.ensures)

pub returns : goal.returns
returns c =
    let word = c.args.word.now in
    let no_text = no_text word _ (strip_prefix_char 116 word _ c.strip_prefix.ensures.cases (lit< tt)) (sym c.if-is_some.false ∙ c.is_some.ensures) in
    let no_digits = does_not 120 word _ (strip_prefix_char 120 word _ c.strip_prefix-2.ensures.cases (lit< tt)) c.in_default.is in
    let no_count = does_not 122 word _ (strip_prefix_char 122 word _ c.strip_prefix-3.ensures.cases (lit< tt)) c.in_default-strip_prefix.is in
    other_letter word no_text no_digits no_count
