use Rattle.assise_fault_script.proofs.Common.{lit<, inr, strip_prefix_char}
use Rattle.assise_fault_script.proofs.Letters.{does_not, other_letter}
use Rattle.assise_fault_script.proofs.data.data.Goals as goal

pub returns : goal.returns
returns c =
    let word = c.args.word.now in
    let no_text = does_not 116 word _ (strip_prefix_char 116 word _ c.strip_prefix.ensures.cases (lit< tt)) c.in_default.is in
    let no_digits = does_not 120 word _ (strip_prefix_char 120 word _ c.strip_prefix-2.ensures.cases (lit< tt)) c.in_default-strip_prefix.is in
    let no_count = does_not 122 word _ (strip_prefix_char 122 word _ c.strip_prefix-3.ensures.cases (lit< tt)) c.in_default-strip_prefix-2.is in
    inr (other_letter word no_text no_digits no_count)
