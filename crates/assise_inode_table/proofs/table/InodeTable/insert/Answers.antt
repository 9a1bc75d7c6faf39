use Rattle.assise_inode_table.proofs.Common.{◌∙◌, sym}
use Rattle.assise_inode_table.proofs.Shared.MapView.{get-seen, insert-seen}
use Rattle.assise_inode_table.proofs.Shared.TableView.{on_err}
use Rattle.assise_inode_table.proofs.table.InodeTable.insert.Goals as goal

pub returns-clause-ok : goal.returns-clause-ok
returns-clause-ok c = insert-seen _ c.insert.new.self.entries c.args.inode c.args.content c.self.view_is c.in_ok-insert.ensures.updates.0

pub returns-in_err-insert-clause-asked : goal.returns-in_err-insert-clause-asked
returns-in_err-insert-clause-asked c = on_err c.from_residual.result _ (get-seen _ c.args.inode c.self.view_is ∙ c.in_err-insert.ensures.absent)

pub returns-clause-replaced : goal.returns-clause-replaced
returns-clause-replaced c = c.in_ok-insert.ensures.old ∙ sym (get-seen _ c.args.inode c.self.view_is)
