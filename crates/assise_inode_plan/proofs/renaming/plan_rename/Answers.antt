use Rattle.assise_inode_plan.proofs.Common.{rules, sym, ◌∙◌, values}
use Rattle.assise_inode_plan.proofs.RenamePlans.{planned_for, rename_stops, rename_goes_on}
use Rattle.assise_inode_plan.proofs.renaming.plan_rename.Goals as goal

pub returns-in-Ok-clause-exact : goal.returns-in-Ok-clause-exact
returns-in-Ok-clause-exact g c =
    let leased = g.V.View.leased c.args.view.now in
    let v = values (g.V.Inodes.contents c.args.view.now) in
    let none = c.make_room_for_walks.ensures.same ∙ c.new-reads.ensures.items in
    let outside = sym c.is_front_of.ensures.exact ∙ c.if-is_front_of.false in
    planned_for c.plan_move.result _ _ c.plan_move.ensures.exact
    (rename_goes_on leased v c.make_room_for_walks.new.reads.items c.args.from.now c.args.to.now c.names-names.result.now
    c.names-new_names.result.now c.name-item.result c.walk_to_entry.new.reads.items c.in_ok-entry.field-0 none c.in_ok-entry.ensures.left
    c.names-names.ensures.names c.names-new_names.ensures.names (search rules) (search rules) c.name-item.is outside c.in-Ok.entry c.in-Ok.is)

pub returns-in-Err-clause-exact : goal.returns-in-Err-clause-exact
returns-in-Err-clause-exact g c =
    let leased = g.V.View.leased c.args.view.now in
    let v = values (g.V.Inodes.contents c.args.view.now) in
    let none = c.make_room_for_walks.ensures.same ∙ c.new-reads.ensures.items in
    let outside = sym c.is_front_of.ensures.exact ∙ c.if-is_front_of.false in
    c.stopped.ensures
    ∙ rename_stops leased v c.make_room_for_walks.new.reads.items c.args.from.now c.args.to.now c.names-names.result.now
    c.names-new_names.result.now c.name-item.result c.walk_to_entry.new.reads.items c.in_ok-entry.field-0 none c.in_ok-entry.ensures.left
    c.names-names.ensures.names c.names-new_names.ensures.names (search rules) (search rules) c.name-item.is outside c.in-Err.stop c.in-Err.is
