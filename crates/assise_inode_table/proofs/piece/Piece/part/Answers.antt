use Rattle.assise_inode_table.proofs.Common.{◌≡◌, ◌≤◌, ◌-◌, ◌∙◌, sym, ap, ap₂, length, arith, rules, zip, take, drop, arc_value, links_or_none}
use Rattle.assise_inode_table.proofs.PieceLinks.{slots_count, part_links}
use Rattle.assise_inode_table.proofs.piece.Piece.part.Goals as goal

pub slice_bounds-copied-end : goal.slice_bounds-copied-end
slice_bounds-copied-end c =
    let names : length c.as_slice.result.now ≡ length (arc_value c.self.inside.names).items = search rules in
    omega (arith, names, slots_count c.self.invariant c.self.view_is, c.requires)

pub offset_bounds-as_slice-start : goal.offset_bounds-as_slice-start
offset_bounds-as_slice-start c = omega (arith, slots_count c.self.invariant c.self.view_is, c.requires, c.self.invariant.few)

pub offset_bounds-self-inside-start : goal.offset_bounds-self-inside-start
offset_bounds-self-inside-start c = omega (arith, slots_count c.self.invariant c.self.view_is, c.requires, c.self.invariant.few)

pub slice_bounds-copy_in_front-end-2 : goal.slice_bounds-copy_in_front-end-2
slice_bounds-copy_in_front-end-2 c = omega (arith, slots_count c.self.invariant c.self.view_is, c.requires, c.self.invariant.few)

pub slice_bounds-copy_in_front-end-4 : goal.slice_bounds-copy_in_front-end-4
slice_bounds-copy_in_front-end-4 c = omega (arith, slots_count c.self.invariant c.self.view_is, c.requires, c.self.invariant.few)

pub returns : goal.returns
returns c =
    let ns = (arc_value c.self.inside.names).items in
    let ls = c.self.inside.links in
    let gs = c.self.inside.gone in
    let s = c.args.start in
    let k = c.args.end - s in
    let few : length ns ≤ length ls = omega (arith, c.self.invariant.few, c.self.invariant.room) in
    let names : c.as_slice.result.now ≡ ns = search rules in
    ap (λ v. zip v.items (links_or_none c.copy_in_front.new.row c.copy_in_front-2.new.row)) c.in_ok-new.ensures.ok
    ∙ ap (λ xs. zip xs (links_or_none c.copy_in_front.new.row c.copy_in_front-2.new.row)) (c.in_ok-names.ensures ∙ ap (λ xs. take k (drop s xs)) names)
    ∙ ap (zip (take k (drop s ns))) (ap₂ links_or_none c.copy_in_front.ensures c.copy_in_front-2.ensures)
    ∙ part_links s k ns ls _ gs _ (c.self.invariant.gone_room ∙ sym c.self.invariant.room) few
    ∙ ap (λ slots. take k (drop s slots)) c.self.view_is
