use Rattle.assise_inode_table.proofs.Common.{◌≡◌, ◌∙◌, None, sym, ap, subst, length, set, suc, arith, rules, slice_cmp, StandsAt, links_in, live, slots_in}
use Rattle.std.specs.FinMap as map
use Rattle.std.specs.Ordering.{nat_cmp}
use Rattle.assise_inode_table.proofs.PieceSlots.{got_slot, link_read, link_set, is_gone, is_linked, set_ascend, set_filled, count_cut, cut_slot, remove_none}
use Rattle.assise_inode_table.proofs.directory.Directory.remove.Goals as goal
use Rattle.assise_inode_table.proofs.directory.Directory.remove.Goals.{In-Some, After-set}

pub returns-in_default : goal.returns-in_default
returns-in_default c =
    let name = c.args.name.now in
    remove_none c.args.self.now name
    (ap (λ m. map.get m name) (sym c.self.view_is) ∙ subst (λ ps. map.get (links_in ps) name ≡ None) c.deref.ensures.value c.in_default.ensures.absent)

-- where the name stands
stands : (c : In-Some) → StandsAt c.args.name.now c.self.inside.pieces.items c.in-Some.place.piece c.in-Some.place.at
stands c = subst (λ ps. StandsAt c.args.name.now ps c.in-Some.place.piece c.in-Some.place.at) c.deref.ensures.value c.in-Some.ensures.there

pub returns-then-is_none : goal.returns-then-is_none
returns-then-is_none c =
    let name = c.args.name.now in
    let there = stands (goal.at.returns-then-is_none c).In-Some in
    remove_none c.args.self.now name
    (ap (λ m. map.get m name) (sym c.self.view_is) ∙ got_slot name _ _ _ c.self.invariant.ascend there
    ∙ sym (link_read name _ _ _ there _ c.index.ensures _ c.link.ensures) ∙ is_gone c.link.result (search rules))

-- there is a link fewer
counted : (c : After-set) → c.self.inside.len ≡ suc (length (live (slots_in (set c.self.inside.pieces.items c.in-Some.place.piece c.set.new.self))))
counted c =
    let name = c.args.name.now in
    let there = stands (goal.at.After-set c).In-Some in
    let old = is_linked c.link.result (search rules) in
    count_cut name _ _ _ _ there old.0 _ (link_set name _ _ _ there _ c.index_mut.ensures.value _ _ c.set.ensures)
    (sym (link_read name _ _ _ there _ c.index.ensures _ c.link.ensures) ∙ old.1) c.self.invariant.counted

pub overflow_sub-self : goal.overflow_sub-self
overflow_sub-self c = let count = counted (goal.at.overflow_sub-self c).After-set in omega (arith, count)

pub invariant_of-self : goal.invariant_of-self
invariant_of-self c =
    let name = c.args.name.now in
    let there = stands (goal.at.invariant_of-self c).In-Some in
    let new = link_set name _ _ _ there _ c.index_mut.ensures.value _ _ c.set.ensures in
    let count = counted (goal.at.invariant_of-self c).After-set in
    record {
      ascend = c.let_go.ensures.ascend (set_ascend name _ _ _ _ there None c.self.invariant.ascend new);
      filled = c.let_go.ensures.filled (set_filled name _ _ _ _ there None c.self.invariant.filled new);
      counted = omega (arith, count, ap length c.let_go.ensures.live);
    }

pub returns : goal.returns
returns c =
    let name = c.args.name.now in
    let there = stands (goal.at.returns c).In-Some in
    ap (λ es. map.from_entries {R = slice_cmp nat_cmp} es) c.let_go.ensures.live
    ∙ cut_slot name _ _ _ _ there c.self.invariant.ascend (link_set name _ _ _ there _ c.index_mut.ensures.value _ _ c.set.ensures)
    ∙ ap (λ m. map.remove m name) c.self.view_is
