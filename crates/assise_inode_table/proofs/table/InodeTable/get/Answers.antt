use Rattle.assise_inode_table.proofs.Common.{◌∙◌, sym}
use Rattle.assise_inode_table.proofs.Shared.MapView.{get-seen}
use Rattle.assise_inode_table.proofs.table.InodeTable.get.Goals as goal

pub returns : goal.returns
returns c = c.get.ensures.value ∙ sym (get-seen _ c.args.inode c.self.view_is)
