use Rattle.assise_inode_table.proofs.Common.{◌≡◌, ◌≤◌, take, length, vec_len, vec_capacity}
use Rattle.assise_inode_table.proofs.piece.copied.Given as goal

abbrev pub invariant-loop-name : goal.invariant-loop-name
invariant-loop-name l = record {
  same : l.copied.items ≡ take l.name-index l.names;
  count : vec_len l.copied ≡ l.name-index;
  room : length l.names ≤ vec_capacity l.copied;
}
