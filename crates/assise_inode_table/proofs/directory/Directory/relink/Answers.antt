use Rattle.assise_inode_table.proofs.Common.{◌∙◌, Some, sym, ap, subst, rules, StandsAt}
use Rattle.std.specs.FinMap as map
use Rattle.assise_inode_table.proofs.PieceSlots.{got_slot, link_read, link_set, is_gone, is_linked, set_ascend, set_filled, count_kept, put_slot}
use Rattle.assise_inode_table.proofs.directory.Directory.relink.Goals as goal
use Rattle.assise_inode_table.proofs.directory.Directory.relink.Goals.{In-Some}

-- where the name stands
stands : (c : In-Some) → StandsAt c.args.name.now c.self.inside.pieces.items c.in-Some.place.piece c.in-Some.place.at
stands c = subst (λ ps. StandsAt c.args.name.now ps c.in-Some.place.piece c.in-Some.place.at) c.deref.ensures.value c.in-Some.ensures.there

pub returns-then-is_none-clause-asked : goal.returns-then-is_none-clause-asked
returns-then-is_none-clause-asked c =
    let name = c.args.name.now in
    let there = stands (goal.at.returns-then-is_none-clause-asked c).In-Some in
    ap (λ m. map.get m name) (sym c.self.view_is) ∙ got_slot name _ _ _ c.self.invariant.ascend there
    ∙ sym (link_read name _ _ _ there _ c.index.ensures _ c.link.ensures) ∙ is_gone c.link.result (search rules)

pub invariant_of-self : goal.invariant_of-self
invariant_of-self c =
    let name = c.args.name.now in
    let there = stands (goal.at.invariant_of-self c).In-Some in
    let new = link_set name _ _ _ there _ c.index_mut.ensures.value _ (Some c.args.inode) c.set.ensures in
    let old = is_linked c.link.result (search rules) in
    record {
      ascend = set_ascend name _ _ _ _ there _ c.self.invariant.ascend new;
      filled = set_filled name _ _ _ _ there _ c.self.invariant.filled new;
      counted = count_kept name _ _ _ _ there _ old.0 _ new (sym (link_read name _ _ _ there _ c.index.ensures _ c.link.ensures) ∙ old.1)
          c.self.invariant.counted;
    }

pub returns-clause-ok : goal.returns-clause-ok
returns-clause-ok c =
    let name = c.args.name.now in
    let there = stands (goal.at.returns-clause-ok c).In-Some in
    put_slot name _ _ _ _ there _ c.self.invariant.ascend (link_set name _ _ _ there _ c.index_mut.ensures.value _ (Some c.args.inode) c.set.ensures)
    ∙ ap (λ m. map.insert m name c.args.inode) c.self.view_is
