use Rattle.assise_inode_table.proofs.Common.{◌≡◌, take, keys_of, live, slots_in}
use Rattle.assise_inode_table.proofs.directory.Directory.names.Given as goal

abbrev pub invariant-loop-piece : goal.invariant-loop-piece
invariant-loop-piece l = l.names.items ≡ keys_of (live (slots_in (take l.piece-index l.piece-items)))
