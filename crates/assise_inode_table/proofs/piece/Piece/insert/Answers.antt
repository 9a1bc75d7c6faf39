use Rattle.assise_inode_table.proofs.Common.{◌≡◌, ◌+◌, ◌-◌, ◌≤◌, ◌<◌, ◌∙◌, sym, ap, Some, length, arith, rules, zip, drop, insert, arc_value, put_mid}
use Rattle.assise_inode_table.proofs.Common.{length-take, length-drop, links_or_none}
use Rattle.assise_inode_table.proofs.PieceLinks.{slots_count, insert_shifted}
use Rattle.assise_inode_table.proofs.piece.Piece.insert.Goals as goal
use Rattle.assise_inode_table.proofs.piece.Piece.insert.Goals.{After-way_told-1}

pub insert_name-requires : goal.insert_name-requires
insert_name-requires c = omega (arith, slots_count c.self.invariant c.self.view_is, c.requires.within)

len_is : (c : After-way_told-1) → c.len-len.result ≡ length (arc_value c.self.inside.names).items
len_is c = search (arith, rules)

pub slice_bounds-shift_in-count : goal.slice_bounds-shift_in-count
slice_bounds-shift_in-count c = omega (arith, len_is c, slots_count c.self.invariant c.self.view_is, c.requires.within)

pub slice_bounds-shift_in-start : goal.slice_bounds-shift_in-start
slice_bounds-shift_in-start c = omega (arith, len_is c, slots_count c.self.invariant c.self.view_is, c.requires.within)

pub slice_bounds-shift_in-end : goal.slice_bounds-shift_in-end
slice_bounds-shift_in-end c = omega (arith, len_is c, slots_count c.self.invariant c.self.view_is, c.requires.room)

pub shift_in-requires : goal.shift_in-requires
shift_in-requires c =
    let ls = c.self.inside.links in
    let at = c.args.at in
    let w = c.len-len.result + 1 - at in
    let len = len_is (goal.at.shift_in-requires c).After-way_told-1 in
    let count = slots_count c.self.invariant c.self.view_is in
    omega (arith, len, count, c.requires.within, c.requires.room, c.self.invariant.room, length-take w (drop at ls), length-drop at ls)

pub returns-clause-ok : goal.returns-clause-ok
returns-clause-ok c =
    let ns = (arc_value c.self.inside.names).items in
    let ls = c.self.inside.links in
    let gs = c.self.inside.gone in
    let at = c.args.at in
    let w = c.len-len.result + 1 - at in
    let len = len_is (goal.at.returns-clause-ok c).After-way_told-1 in
    let count = slots_count c.self.invariant c.self.view_is in
    let behind : at < length ns + 1 = omega (arith, count, c.requires.within) in
    let end : at + w ≡ length ns + 1 = omega (arith, len, behind) in
    let within : at + w ≤ length ls = omega (arith, end, count, c.requires.room, c.self.invariant.room) in
    ap (λ xs. zip xs (links_or_none (put_mid at w ls c.shift_in.new.row) (put_mid at w gs c.shift_in-2.new.row))) c.in_ok-insert_name.ensures.ok
    ∙ insert_shifted at w ns ls gs c.args.name c.args.inode (omega (arith, len, behind)) within (c.self.invariant.gone_room ∙ sym c.self.invariant.room)
    c.shift_in.new.row c.shift_in-2.new.row (omega (arith, behind)) (sym end) c.shift_in.ensures c.shift_in-2.ensures
    ∙ ap (λ slots. insert slots at (c.args.name, Some c.args.inode)) c.self.view_is
