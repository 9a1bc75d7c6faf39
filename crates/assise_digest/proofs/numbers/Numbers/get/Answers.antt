use Rattle.assise_digest.proofs.Common.{◌∙◌, sym, get-seen}
use Rattle.assise_digest.proofs.numbers.Numbers.get.Goals as goal

pub returns : goal.returns
returns c = c.copied.ensures ∙ c.get.ensures.value ∙ sym (get-seen _ c.args.inode c.self.view_is)
