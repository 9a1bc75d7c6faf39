use Rattle.assise_digest.proofs.Common.{◌∙◌, ap, remove-numbers}
use Rattle.std.specs.FinMap as map
use Rattle.assise_digest.proofs.numbers.Numbers.remove.Goals as goal

pub returns : goal.returns
returns c =
    remove-numbers c.self.inside.numbers.entries c.swap_remove.new.self.entries c.args.inode c.swap_remove.ensures.updates.0
    ∙ ap (λ m. map.remove m c.args.inode) c.self.view_is
