use Rattle.assise_inode_table.proofs.Common.{◌≡◌, ◌≤◌, take, length, vec_len, vec_capacity}
use Rattle.assise_inode_table.proofs.piece.shared.Given as goal

abbrev pub invariant-loop-piece : goal.invariant-loop-piece
invariant-loop-piece l = record {
  same : l.shared.items ≡ take l.piece-index l.pieces;
  count : vec_len l.shared ≡ l.piece-index;
  room : length l.pieces ≤ vec_capacity l.shared;
}
