use Rattle.assise_inode_table.proofs.Common.{sym, subst, arith, rules, tests, Ascend, IsGapFor}
use Rattle.assise_inode_table.proofs.PieceSlots.{got_none, nothing_at, piece_ascend, read_piece}
use Rattle.assise_inode_table.proofs.directory.place_of.Goals as goal

pub returns-then-is_empty-clause-absent : goal.returns-then-is_empty-clause-absent
returns-then-is_empty-clause-absent c = nothing_at c.args.name.now c.args.pieces.now (search (arith, rules, tests))

pub find-requires : goal.find-requires
find-requires c =
    let h = c.piece_of-piece.ensures.within in
    subst Ascend (sym (read_piece c.args.pieces.now c.piece_of-piece.result c.index-pieces-piece.result h c.index-pieces-piece.is))
    (piece_ascend c.args.pieces.now c.piece_of-piece.result h c.requires.ascend)

pub returns-in-Err-clause-absent : goal.returns-in-Err-clause-absent
returns-in-Err-clause-absent c =
    let ps = c.args.pieces.now in
    let w = c.piece_of-piece.result in
    let h = c.piece_of-piece.ensures.within in
    got_none c.args.name.now ps w c.in-Err.field-0 c.requires.ascend c.requires.filled c.piece_of-piece.ensures
    (subst (λ p. IsGapFor c.args.name.now p c.in-Err.field-0) (read_piece ps w c.index-pieces-piece.result h c.index-pieces-piece.is) c.in-Err.ensures.absent)
