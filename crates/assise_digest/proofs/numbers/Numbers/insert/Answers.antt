use Rattle.assise_digest.proofs.Common.{◌∙◌, get-seen, insert-seen, on_err}
use Rattle.assise_digest.proofs.numbers.Numbers.insert.Goals as goal

pub returns-clause-ok : goal.returns-clause-ok
returns-clause-ok c = insert-seen _ c.insert.new.self.entries c.args.inode c.args.number c.self.view_is c.in_ok-insert.ensures.updates.0

pub returns-in_err-insert-clause-asked : goal.returns-in_err-insert-clause-asked
returns-in_err-insert-clause-asked c = on_err c.from_residual.result _ (get-seen _ c.args.inode c.self.view_is ∙ c.in_err-insert.ensures.absent)
