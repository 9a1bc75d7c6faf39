use Rattle.assise_inode_table.proofs.Common.{◌≡◌, length, arith, rules, arc_value}
use Rattle.std.proofs.Common.{ltb-true, ltb-false}
use Rattle.assise_inode_table.proofs.PieceLinks.{slots_count}
use Rattle.assise_inode_table.proofs.piece.Piece.has_room.Goals as goal

pub returns-clause-room : goal.returns-clause-room
returns-clause-room c less =
    let names : c.len.result ≡ length (arc_value c.self.inside.names).items = search (arith, rules) in
    omega (arith, slots_count c.self.invariant c.self.view_is, names, ltb-true _ _ less)

pub returns-clause-full : goal.returns-clause-full
returns-clause-full c less =
    let names : c.len.result ≡ length (arc_value c.self.inside.names).items = search (arith, rules) in
    omega (arith, slots_count c.self.invariant c.self.view_is, names, c.self.invariant.few, ltb-false _ _ less)
