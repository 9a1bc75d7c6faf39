use Rattle.assise_inode_table.proofs.Common.{◌≡◌, ◌+◌, ◌∙◌, ◌∷◌, ◌++◌, [], None, Some, cond, is_none, sym, ap, subst, length, arith, rules, tests, nat_cmp}
use Rattle.assise_inode_table.proofs.Common.{slice_cmp, nil_from_length, AddsSlot, Ascend, IsDirectory, IsGapFor, IsPieceFor, IsSlotOf, StandsAt, live}
use Rattle.assise_inode_table.proofs.Common.{piece_at}
use Rattle.std.specs.FinMap as map
use Rattle.assise_inode_table.proofs.Shared.TableView.{on_err}
use Rattle.assise_inode_table.proofs.PieceSlots.{nothing_at, one_entry, piece_ascend, read_piece, link_read, link_set, got_none, got_slot, added_links}
use Rattle.assise_inode_table.proofs.PieceSlots.{added_ascend, added_count, count_any, full_gone, gone_count, not_below, put_slot, set_ascend, set_filled}
use Rattle.assise_inode_table.proofs.directory.Directory.put.Goals as goal
use Rattle.assise_inode_table.proofs.directory.Directory.put.Goals.{Then-is_empty, After-piece_of-piece, In-Ok, In-Err}

-- ---- no name stands in no pieces
empty : (c : Then-is_empty) → length c.self.inside.pieces.items ≡ 0
empty c = search (arith, rules, tests)

nothing : (c : Then-is_empty) → map.get c.args.self.now c.args.name ≡ None
nothing c = ap (λ m. map.get m c.args.name) (sym c.self.view_is) ∙ nothing_at c.args.name _ (empty c)

pub returns-in_err-reserve_exact-clause-asked : goal.returns-in_err-reserve_exact-clause-asked
returns-in_err-reserve_exact-clause-asked c = on_err c.from_residual.result _ (nothing (goal.at.returns-in_err-reserve_exact-clause-asked c).Then-is_empty)

pub returns-in_err-of_one-clause-asked : goal.returns-in_err-of_one-clause-asked
returns-in_err-of_one-clause-asked c = on_err c.from_residual-in_err-of_one.result _ (nothing (goal.at.returns-in_err-of_one-clause-asked c).Then-is_empty)

pub returns-in_err-push-clause-asked : goal.returns-in_err-push-clause-asked
returns-in_err-push-clause-asked c = on_err c.from_residual-in_err-push.result _ (nothing (goal.at.returns-in_err-push-clause-asked c).Then-is_empty)

pub invariant_of-self-then-is_empty : goal.invariant_of-self-then-is_empty
invariant_of-self-then-is_empty c =
    let none = nil_from_length c.self.inside.pieces.items (empty (goal.at.invariant_of-self-then-is_empty c).Then-is_empty) in
    subst (λ qs. IsDirectory qs 1)
    (sym (c.in_ok-push.ensures.items ∙ ap (λ qs. qs ++ c.in_ok-of_one.field-0 ∷ []) (c.reserve_exact.ensures.items ∙ none)
    ∙ ap (λ p. p ∷ []) c.in_ok-of_one.ensures))
    (one_entry c.args.name c.args.inode)

-- ---- the piece that it belongs in
belongs : (c : After-piece_of-piece) → IsPieceFor c.args.name c.self.inside.pieces.items c.piece_of-piece.result
belongs c = subst (λ ps. IsPieceFor c.args.name ps c.piece_of-piece.result) c.deref.ensures.value c.piece_of-piece.ensures

pub find-requires : goal.find-requires
find-requires c =
    let is = belongs (goal.at.find-requires c).After-piece_of-piece in
    subst Ascend (sym (read_piece _ _ _ is.within c.index.ensures)) (piece_ascend _ _ is.within c.self.invariant.ascend)

-- ---- where the name stands
stands : (c : In-Ok) → StandsAt c.args.name c.self.inside.pieces.items c.piece_of-piece.result c.in-Ok.at
stands c =
    let is = belongs (goal.at.In-Ok c).After-piece_of-piece in
    record { within = is.within; slot = subst (λ p. IsSlotOf c.args.name p c.in-Ok.at) (read_piece _ _ _ is.within c.index.ensures) c.in-Ok.ensures.found }

pub returns-in_default-clause-asked : goal.returns-in_default-clause-asked
returns-in_default-clause-asked c =
    let name = c.args.name in
    let there = stands (goal.at.returns-in_default-clause-asked c).In-Ok in
    let old = link_read name _ _ _ there _ c.index-in-Ok.ensures _ c.link.ensures in
    let more = gone_count c.link.result c.is_none-gone.result c.from.result c.is_none-gone.ensures c.from.ensures in
    let full = not_below (c.self.inside.len + c.from.result) c.in_default.ensures in
    ap (λ m. map.get m name) (sym c.self.view_is) ∙ got_slot name _ _ _ c.self.invariant.ascend there ∙ sym old
    ∙ full_gone c.link.result c.self.inside.len c.from.result more (search rules) full

pub invariant_of-self-in-Ok-1 : goal.invariant_of-self-in-Ok-1
invariant_of-self-in-Ok-1 c =
    let name = c.args.name in
    let there = stands (goal.at.invariant_of-self-in-Ok-1 c).In-Ok in
    let new = link_set name _ _ _ there _ c.index_mut.ensures.value _ (Some c.args.inode) c.set.ensures in
    let old = link_read name _ _ _ there _ c.index-in-Ok.ensures _ c.link.ensures in
    let more = gone_count c.link.result c.is_none-gone.result c.from.result c.is_none-gone.ensures c.from.ensures in
    record {
      ascend = set_ascend name _ _ _ _ there _ c.self.invariant.ascend new;
      filled = set_filled name _ _ _ _ there _ c.self.invariant.filled new;
      counted = c.in-Some.ensures.1 ∙ count_any name _ _ _ _ there _ _ _ new (more ∙ ap (λ l. cond (is_none l) 1 0) old) c.self.invariant.counted;
    }

pub returns-in-Some-clause-ok : goal.returns-in-Some-clause-ok
returns-in-Some-clause-ok c =
    let name = c.args.name in
    let there = stands (goal.at.returns-in-Some-clause-ok c).In-Ok in
    put_slot name _ _ _ _ there _ c.self.invariant.ascend (link_set name _ _ _ there _ c.index_mut.ensures.value _ (Some c.args.inode) c.set.ensures)
    ∙ ap (λ m. map.insert m name c.args.inode) c.self.view_is

-- ---- where it would stand
gap : (c : In-Err) → IsGapFor c.args.name (piece_at c.self.inside.pieces.items c.piece_of-piece.result) c.in-Err.at
gap c =
    let is = belongs (goal.at.In-Err c).After-piece_of-piece in
    subst (λ p. IsGapFor c.args.name p c.in-Err.at) (read_piece _ _ _ is.within c.index.ensures) c.in-Err.ensures.absent

absent : (c : In-Err) → map.get c.args.self.now c.args.name ≡ None
absent c =
    ap (λ m. map.get m c.args.name) (sym c.self.view_is)
    ∙ got_none c.args.name _ _ _ c.self.invariant.ascend c.self.invariant.filled (belongs (goal.at.In-Err c).After-piece_of-piece) (gap c)

pub returns-in_default-checked_add-clause-asked : goal.returns-in_default-checked_add-clause-asked
returns-in_default-checked_add-clause-asked c = absent (goal.at.returns-in_default-checked_add-clause-asked c).In-Err

pub returns-in_err-add-in-Err-clause-asked : goal.returns-in_err-add-in-Err-clause-asked
returns-in_err-add-in-Err-clause-asked c = on_err c.from_residual-in_err-add-in-Err.result _ (absent (goal.at.returns-in_err-add-in-Err-clause-asked c).In-Err)

pub invariant_of-self-in-None : goal.invariant_of-self-in-None
invariant_of-self-in-None c =
    let now = (goal.at.invariant_of-self-in-None c).In-Err in
    let is = belongs (goal.at.In-Err now).After-piece_of-piece in
    let new = subst (λ l. AddsSlot c.self.inside.pieces.items c.piece_of-piece.result c.in-Err.at (c.args.name, Some c.args.inode) l c.add.new.pieces.items)
    c.in-None.is c.in_ok-add-in-Err.ensures.ok in
    let count = added_count c.args.name c.args.inode _ c.add.new.pieces.items _ _ c.self.invariant.ascend c.self.invariant.filled is (gap now) new _
    c.self.invariant.counted in
    record {
      ascend = added_ascend c.args.name c.args.inode _ c.add.new.pieces.items _ _ c.self.invariant.ascend c.self.invariant.filled is (gap now) new;
      filled = c.in_ok-add-in-Err.ensures.filled;
      counted = omega (arith, c.in-Some-checked_add.ensures.1, count);
    }

pub returns-in-None-clause-ok : goal.returns-in-None-clause-ok
returns-in-None-clause-ok c =
    let now = (goal.at.returns-in-None-clause-ok c).In-Err in
    let is = belongs (goal.at.In-Err now).After-piece_of-piece in
    let new = subst (λ l. AddsSlot c.self.inside.pieces.items c.piece_of-piece.result c.in-Err.at (c.args.name, Some c.args.inode) l c.add.new.pieces.items)
    c.in-None.is c.in_ok-add-in-Err.ensures.ok in
    added_links c.args.name c.args.inode _ c.add.new.pieces.items _ _ c.self.invariant.ascend c.self.invariant.filled is (gap now) new
    ∙ ap (λ m. map.insert m c.args.name c.args.inode) c.self.view_is

pub returns-in-Some-2-clause-ok : goal.returns-in-Some-2-clause-ok
returns-in-Some-2-clause-ok c =
    let left = subst (λ l. AddsSlot c.self.inside.pieces.items c.piece_of-piece.result c.in-Err.at (c.args.name, Some c.args.inode) l c.add.new.pieces.items)
    c.in-Some-2.is c.in_ok-add-in-Err.ensures.ok in (
      left.0,
      ap (λ slots. map.from_entries {R = slice_cmp nat_cmp} (live slots)) left.1 ∙ c.self.view_is,
      absent (goal.at.returns-in-Some-2-clause-ok c).In-Err,
    )
