use Rattle.assise_inode_table.proofs.Common.{◌+◌, ◌≤◌, ◌∙◌, Some, ap, refl, length, set, insert, arith, Slot, piece_at, slots_in}
use Rattle.assise_inode_table.proofs.PieceSlots.{read_piece, inserted_slots, begun_behind}
use Rattle.assise_inode_table.proofs.directory.add.Goals as goal

pub returns-then-has_room-clause-ok : goal.returns-then-has_room-clause-ok
returns-then-has_room-clause-ok c =
    let ps = c.args.pieces.now.items in
    let w = c.args.piece in
    let s : Slot = (c.args.name, Some c.args.inode) in
    ap (λ p. slots_in (set ps w p)) c.in_ok-insert.ensures.ok
    ∙ ap (λ p. slots_in (set ps w (insert p c.args.at s))) (read_piece ps w c.index_mut.result.now c.requires.piece c.index_mut.ensures.value)
    ∙ inserted_slots ps w c.args.at s c.requires.piece

pub returns-clause-ok : goal.returns-clause-ok
returns-clause-ok c =
    let ps = c.args.pieces.now.items in
    let w = c.args.piece in
    let s : Slot = (c.args.name, Some c.args.inode) in
    let full : length (piece_at ps w) ≤ c.args.at =
    omega (
      arith,
      ap length (read_piece ps w c.index.result.now c.requires.piece c.index.ensures),
      c.has_room.ensures.full c.if-has_room.false,
      c.if-at-lt-MOST_NAMES.false,
    ) in
    ap slots_in c.in_ok-insert-2.ensures.items
    ∙ ap (λ p. slots_in (insert ps (w + 1) p)) c.in_ok-of_one.ensures
    ∙ begun_behind ps w (w + 1) c.args.at s c.requires.piece refl full
