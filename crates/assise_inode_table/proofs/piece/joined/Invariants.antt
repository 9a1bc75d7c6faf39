use Rattle.assise_inode_table.proofs.Common.{◌≡◌, ◌++◌, take}
use Rattle.assise_inode_table.proofs.piece.joined.Given as goal

abbrev pub invariant-loop-name : goal.invariant-loop-name
invariant-loop-name l = l.joined.items ≡ l.front ++ take l.name-index l.back
