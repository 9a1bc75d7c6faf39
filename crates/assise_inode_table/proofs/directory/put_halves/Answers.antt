use Rattle.assise_inode_table.proofs.Common.{◌≡◌, ◌<◌, ◌+◌, ◌-◌, ◌∙◌, ◌++◌, sym, ap, subst, length, set, refl, arith, AreFilled, slots_in, piece_at}
use Rattle.assise_inode_table.proofs.PieceSlots.{read_piece}
use Rattle.assise_inode_table.proofs.PieceChanges.{split_slots, join_slots, join_filled}
use Rattle.assise_inode_table.proofs.directory.put_halves.Goals as goal
use Rattle.assise_inode_table.proofs.directory.put_halves.Goals.{In_ok-append}

pub returns-then-piece-eq0-clause-same : goal.returns-then-piece-eq0-clause-same
returns-then-piece-eq0-clause-same c =
    ap (λ qs. slots_in (set qs c.args.piece c.args.lower)) c.in_ok-insert.ensures.items
    ∙ split_slots c.args.pieces.now.items c.args.piece (c.args.piece + 1) c.args.lower c.args.upper c.requires.piece refl c.requires.halves

-- the piece in front, with the lower behind it
front : (c : In_ok-append) → c.append.new.self ≡ piece_at c.args.pieces.now.items (c.args.piece - 1) ++ c.args.lower
front c =
    let inside : c.args.piece - 1 < length c.args.pieces.now.items = omega (arith, c.requires.piece) in
    c.in_ok-append.ensures.ok
    ∙ ap (λ p. p ++ c.args.lower) (read_piece c.args.pieces.now.items (c.args.piece - 1) c.index_mut-2.result.now inside c.index_mut-2.ensures.value)

pub returns-clause-same : goal.returns-clause-same
returns-clause-same c =
    let ps = c.args.pieces.now.items in
    let w = c.args.piece in
    ap (λ p. slots_in (set (set ps (w - 1) p) w c.args.upper)) (front (goal.at.returns-clause-same c).In_ok-append)
    ∙ join_slots ps (w - 1) w c.args.lower c.args.upper c.requires.piece (omega (arith, c.if-piece-eq0.false)) c.requires.halves

pub returns-clause-filled : goal.returns-clause-filled
returns-clause-filled c =
    let ps = c.args.pieces.now.items in
    let w = c.args.piece in
    subst (λ p. AreFilled (set (set ps (w - 1) p) w c.args.upper)) (sym (front (goal.at.returns-clause-filled c).In_ok-append))
    (join_filled ps (w - 1) w c.args.lower c.args.upper c.requires.some.0 c.requires.some.1 c.requires.filled)
