use Rattle.assise_names.proofs.Common.{◌∙◌, is_utf8-from_IsUtf8}
use Rattle.assise_names.proofs.Spellings.{is_faultless}
use Rattle.assise_names.proofs.name.is_name.Goals as goal

pub returns : goal.returns
returns c = c.is_ok.ensures.value ∙ is_faultless c.args.text.now c.check.result (is_utf8-from_IsUtf8 _ c.utf8.text) c.check.ensures
