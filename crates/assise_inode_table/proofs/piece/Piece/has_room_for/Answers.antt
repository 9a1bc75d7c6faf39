use Rattle.assise_inode_table.proofs.Common.{◌≡◌, length, arith, rules, arc_value}
use Rattle.std.proofs.Common.{leb-true}
use Rattle.assise_inode_table.proofs.PieceLinks.{slots_count}
use Rattle.assise_inode_table.proofs.piece.Piece.has_room_for.Goals as goal

pub returns : goal.returns
returns c fits =
    let names : c.len.result ≡ length (arc_value c.self.inside.names).items = search (arith, rules) in
    let more : c.len-2.result ≡ length (arc_value c.other.inside.names).items = search (arith, rules) in
    omega (arith, slots_count c.self.invariant c.self.view_is, slots_count c.other.invariant c.other.view_is, names, more, leb-true _ _ fits)
