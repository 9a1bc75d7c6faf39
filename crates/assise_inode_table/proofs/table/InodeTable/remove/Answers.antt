use Rattle.assise_inode_table.proofs.Common.{◌∙◌, ap, sym}
use Rattle.std.specs.FinMap as map
use Rattle.assise_inode_table.proofs.Shared.MapView.{get-seen, remove-numbers}
use Rattle.assise_inode_table.proofs.table.InodeTable.remove.Goals as goal

pub returns-clause-removed : goal.returns-clause-removed
returns-clause-removed c = c.swap_remove.ensures.value ∙ sym (get-seen _ c.args.inode c.self.view_is)

pub returns-clause-others : goal.returns-clause-others
returns-clause-others c =
    remove-numbers c.self.inside.inodes.entries c.swap_remove.new.self.entries c.args.inode c.swap_remove.ensures.updates.0
    ∙ ap (λ m. map.remove m c.args.inode) c.self.view_is
