use Rattle.assise_inode_table.proofs.Common.{◌∙◌, ap, sym, length}
use Rattle.std.specs.FinMap as map
use Rattle.assise_inode_table.proofs.PieceSlots.{counted_all}
use Rattle.assise_inode_table.proofs.directory.Directory.len.Goals as goal

pub returns : goal.returns
returns c = c.self.invariant.counted ∙ sym (counted_all c.self.inside.pieces.items c.self.invariant.ascend) ∙ ap (λ m. length (map.keys m)) c.self.view_is
