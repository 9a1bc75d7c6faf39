use Rattle.assise_inode_table.proofs.Common.{◌≡◌, ◌∙◌, ◌++◌, sym, ap, ap₂, subst, length, take, drop, arith, length-drop, length-take, Ascend, live, piece_at}
use Rattle.assise_inode_table.proofs.PieceSlots.{read_piece}
use Rattle.assise_inode_table.proofs.PieceChanges.{halves}
use Rattle.assise_inode_table.proofs.directory.halve.Goals as goal
use Rattle.assise_inode_table.proofs.directory.halve.Goals.{In_ok-lower}

-- a full piece is its lower half and its upper
parts : (c : In_ok-lower) → let p = piece_at c.args.pieces.now.items c.args.piece in
    (length p ≡ 32) × (c.in_ok-lower.lower ≡ take 16 p) × (c.in_ok-upper.upper ≡ take 16 (drop 16 p))
parts c =
    let ps = c.args.pieces.now.items in
    let w = c.args.piece in
    let h = c.requires.piece in (
      ap length (sym (read_piece ps w c.index.result.now h c.index.ensures)) ∙ c.has_room.ensures.full c.if-has_room.false,
      c.in_ok-lower.ensures ∙ ap (take 16) (read_piece ps w c.index-3.result.now h c.index-3.ensures),
      c.in_ok-upper.ensures ∙ ap (λ q. take 16 (drop 16 q)) (read_piece ps w c.index-2.result.now h c.index-2.ensures),
    )

pub put_halves-requires-clause-halves : goal.put_halves-requires-clause-halves
put_halves-requires-clause-halves c =
    let p = piece_at c.args.pieces.now.items c.args.piece in
    let are = parts (goal.at.put_halves-requires-clause-halves c).In_ok-lower in
    halves p are.0 ∙ sym (ap₂ (λ a b. a ++ b) are.1 are.2)

pub put_halves-requires-clause-some : goal.put_halves-requires-clause-some
put_halves-requires-clause-some c =
    let p = piece_at c.args.pieces.now.items c.args.piece in
    let are = parts (goal.at.put_halves-requires-clause-some c).In_ok-lower in (
      omega (arith, are.0, ap length are.1, length-take 16 p),
      omega (arith, are.0, ap length are.2, length-take 16 (drop 16 p), length-drop 16 p),
    )

pub returns-clause-live : goal.returns-clause-live
returns-clause-live c = c.let_go-2.ensures.live ∙ c.let_go.ensures.live ∙ ap live c.in_ok-place.ensures.same

pub returns-clause-ascend : goal.returns-clause-ascend
returns-clause-ascend c = c.let_go-2.ensures.ascend (c.let_go.ensures.ascend (subst Ascend (sym c.in_ok-place.ensures.same) c.requires.ascend))

pub returns-clause-filled : goal.returns-clause-filled
returns-clause-filled c = c.let_go-2.ensures.filled (c.let_go.ensures.filled c.in_ok-place.ensures.filled)
