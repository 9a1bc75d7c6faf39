use Rattle.assise_inode_plan.proofs.Common.{[], sym, subst, take, ◌∙◌, parent_of, same_is, values, EndsAt}
use Rattle.assise_inode_plan.proofs.SamePlaces.{same_place}
use Rattle.assise_inode_plan.proofs.RenamePlans.{planned_for, move_stops, move_under_file, move_to_itself, move_elsewhere}
use Rattle.assise_inode_plan.proofs.renaming.plan_move.Goals as goal

pub walk_to_taker-requires-clause-walked : goal.walk_to_taker-requires-clause-walked
walk_to_taker-requires-clause-walked g c =
    let leased = g.V.View.leased c.args.view.now in
    let v = values (g.V.Inodes.contents c.args.view.now) in
    let entry = c.args.entry.now in
    λ stays. subst (λ r. EndsAt leased v [] r (take entry.visits c.args.reads.items) entry.directory entry.parent.now)
    ((same_is (parent_of c.args.from.now) (parent_of c.args.to.now)).0 (sym c.eq-stays.ensures ∙ stays)) c.requires.walked

pub returns-in-Err : goal.returns-in-Err
returns-in-Err g c = record {
  exact = c.stopped.ensures ∙ move_stops (g.V.View.leased c.args.view.now) (values (g.V.Inodes.contents c.args.view.now))
      c.args.reads.items c.args.from.now c.args.to.now c.walk_to_taker.new.reads.items c.in_ok-reached.field-0 c.in_ok-reached.ensures.left
      c.args.entry.now.directory c.args.entry.now.inode c.args.entry.now.content.now c.in-Err.stop c.in-Err.is;
}

pub returns-in-Err-directory : goal.returns-in-Err-directory
returns-in-Err-directory g c = record {
  exact = c.answered.ensures ∙ move_under_file (g.V.View.leased c.args.view.now)
      (values (g.V.Inodes.contents c.args.view.now)) c.args.reads.items c.args.from.now c.args.to.now c.walk_to_taker.new.reads.items c.in_ok-reached.field-0
      c.in_ok-reached.ensures.left c.args.entry.now.directory c.args.entry.now.inode c.args.entry.now.content.now c.in-Ok.reached c.in-Ok.is
      c.in-Err-directory.error c.in-Err-directory.ensures;
}

pub returns-then-is_same_place : goal.returns-then-is_same_place
returns-then-is_same_place g c = record {
  exact =
      let same = same_place c.args.from.now c.args.to.now c.requires.from c.requires.to c.name-item.result c.new_name-item.result c.name-item.is
      c.new_name-item.is c.eq-stays.result c.eq-stays.ensures c.is_same_place.result c.is_same_place.ensures in
      c.answered-then-is_same_place.ensures ∙ move_to_itself (g.V.View.leased c.args.view.now) (values (g.V.Inodes.contents c.args.view.now)) c.args.reads.items
      c.args.from.now c.args.to.now c.walk_to_taker.new.reads.items c.in_ok-reached.field-0 c.in_ok-reached.ensures.left c.args.entry.now.directory
      c.args.entry.now.inode c.args.entry.now.content.now c.in-Ok.reached c.in-Ok.is c.in-Ok-directory.links.now c.in-Ok-directory.ensures
      (sym same ∙ c.if-is_same_place.true);
}

pub returns : goal.returns
returns g c = record {
  exact =
      let same = same_place c.args.from.now c.args.to.now c.requires.from c.requires.to c.name-item.result c.new_name-item.result c.name-item.is
      c.new_name-item.is c.eq-stays.result c.eq-stays.ensures c.is_same_place.result c.is_same_place.ensures in
      planned_for c.plan_receiving.result _ _ c.plan_receiving.ensures.exact
      (move_elsewhere (g.V.View.leased c.args.view.now) (values (g.V.Inodes.contents c.args.view.now)) c.args.reads.items c.args.from.now c.args.to.now
      c.walk_to_taker.new.reads.items c.in_ok-reached.field-0 c.in_ok-reached.ensures.left c.args.entry.now.directory c.args.entry.now.inode
      c.args.entry.now.content.now c.in-Ok.reached c.in-Ok.is c.in-Ok-directory.links.now c.in-Ok-directory.ensures (sym same ∙ c.if-is_same_place.false)
      c.eq-stays.result c.eq-stays.ensures c.name-item.result c.new_name-item.result c.requires.from c.requires.to c.name-item.is c.new_name-item.is);
}
