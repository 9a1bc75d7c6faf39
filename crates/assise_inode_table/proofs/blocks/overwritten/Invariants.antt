use Rattle.assise_inode_table.proofs.Common.{concat, overwritten}
use Rattle.assise_inode_table.proofs.BlockBytes.{CutSoFar}
use Rattle.assise_inode_table.proofs.blocks.overwritten.Given as goal

abbrev pub invariant-loop-index : goal.invariant-loop-index
invariant-loop-index l = CutSoFar l.made.items l.index (overwritten (concat l.blocks) l.offset l.new)
