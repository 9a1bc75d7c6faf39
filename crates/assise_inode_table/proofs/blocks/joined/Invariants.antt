use Rattle.assise_inode_table.proofs.Common.{take}
use Rattle.assise_inode_table.proofs.BlockBytes.{JoinedSoFar}
use Rattle.assise_inode_table.proofs.blocks.joined.Given as goal

abbrev pub invariant-loop-block : goal.invariant-loop-block
invariant-loop-block l = JoinedSoFar (take l.block-index l.blocks) l.offset l.most l.joined.items l.skipped
