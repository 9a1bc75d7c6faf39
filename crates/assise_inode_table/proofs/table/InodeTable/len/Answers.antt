use Rattle.assise_inode_table.proofs.Common.{◌∙◌, ap, sym}
use Rattle.std.specs.FinMap as map
use Rattle.assise_inode_table.proofs.Shared.MapView.{len-numbers}
use Rattle.assise_inode_table.proofs.table.InodeTable.len.Goals as goal

pub returns : goal.returns
returns c = c.len.ensures.len ∙ sym (len-numbers c.self.inside.inodes.entries c.len.ensures.unique) ∙ ap map.len c.self.view_is
