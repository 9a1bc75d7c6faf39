use Rattle.assise_inode_table.proofs.Common.{take, Lacks}
use Rattle.assise_inode_table.proofs.changes.place_of.Given as goal

abbrev pub invariant-loop-place : goal.invariant-loop-place
invariant-loop-place l = Lacks (take l.place l.changes) l.inode
