use Rattle.assise_inode_table.proofs.Common.{◌≡◌, ◌-◌, ◌<◌, ◌≤◌, length, true, false, is_gt, nat_cmp, slice_cmp, slot_name, piece_at}
use Rattle.assise_inode_table.proofs.directory.piece_of.Given as goal

-- the piece is one from low up to high
abbrev pub invariant-loop-high : goal.invariant-loop-high
invariant-loop-high l = record {
  order : l.low < l.high;
  bound : l.high ≤ length l.pieces;
  from : 0 < l.low → is_gt (slice_cmp nat_cmp (slot_name (piece_at l.pieces l.low) 0) l.name) ≡ false;
  until : l.high < length l.pieces → is_gt (slice_cmp nat_cmp (slot_name (piece_at l.pieces l.high) 0) l.name) ≡ true;
}

abbrev pub decreases-loop-high : goal.decreases-loop-high
decreases-loop-high l = l.high - l.low
