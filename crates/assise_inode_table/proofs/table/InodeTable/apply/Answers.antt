use Rattle.assise_inode_table.proofs.Common.{◌∙◌}
use Rattle.assise_inode_table.proofs.Shared.TableView.{applied_change}
use Rattle.assise_inode_table.proofs.table.InodeTable.apply.Goals as goal

pub returns-in_ok-change-in_default-clause-ok : goal.returns-in_ok-change-in_default-clause-ok
returns-in_ok-change-in_default-clause-ok c =
    c.in_ok-change-in_default.ensures.ok ∙ applied_change c.args.self.now c.args.effect.now c.in_default.not-NewFile c.in_default.not-NewDir
    c.in_default.not-Free
