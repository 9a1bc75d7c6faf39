use Rattle.assise_inode_plan.proofs.Common.{ap, sym, ◌∙◌, Done, values, finish, plan_from}
use Rattle.assise_inode_plan.proofs.CreatePlans.{make_stops, make_under_file, make_without_room, make_ends}
use Rattle.assise_inode_plan.proofs.creation.plan_new.Goals as goal

pub returns-in-Err-clause-exact : goal.returns-in-Err-clause-exact
returns-in-Err-clause-exact g c = c.stopped.ensures ∙ make_stops (g.V.View.leased c.args.view.now) (values (g.V.Inodes.contents c.args.view.now))
    c.new-reads.result.items c.args.names.now c.walk.new.reads.items c.in_ok-reached.field-0 c.new-reads.ensures.items c.in_ok-reached.ensures.left
    c.args.new.now c.args.fresh c.name-item.result c.in-len1-up.len_at_least c.name-item.is c.in-Err.stop c.in-Err.is

pub returns-in-Err-directory-clause-exact : goal.returns-in-Err-directory-clause-exact
returns-in-Err-directory-clause-exact g c =
    c.answered-in-Err-directory.ensures ∙ make_under_file (g.V.View.leased c.args.view.now) (values (g.V.Inodes.contents c.args.view.now))
    c.new-reads.result.items c.args.names.now c.walk.new.reads.items c.in_ok-reached.field-0 c.new-reads.ensures.items c.in_ok-reached.ensures.left
    c.args.new.now c.args.fresh c.name-item.result c.in-len1-up.len_at_least c.name-item.is c.in-Ok.reached c.in-Ok.is c.in-Err-directory.error
    c.in-Err-directory.ensures

pub returns-in-Err-room_for-clause-exact : goal.returns-in-Err-room_for-clause-exact
returns-in-Err-room_for-clause-exact g c =
    c.answered-in-Err-room_for.ensures
    ∙ make_without_room (g.V.View.leased c.args.view.now) (values (g.V.Inodes.contents c.args.view.now)) c.new-reads.result.items c.args.names.now
    c.walk.new.reads.items c.in_ok-reached.field-0 c.new-reads.ensures.items c.in_ok-reached.ensures.left c.args.new.now c.args.fresh c.name-item.result
    c.in-len1-up.len_at_least c.name-item.is c.in-Ok.reached c.in-Ok.is c.in-Ok-directory.links.now c.in-Err-room_for.error c.in-Ok-directory.ensures
    (sym c.in-Err-room_for.ensures)

pub returns-clause-exact : goal.returns-clause-exact
returns-clause-exact g c =
    c.finished.ensures ∙ ap (λ es. plan_from (g.V.View.leased c.args.view.now) (values (g.V.Inodes.contents c.args.view.now)) c.walk.new.reads.items
    (finish Done es)) c.in_ok-effects.ensures.effects
    ∙ make_ends (g.V.View.leased c.args.view.now) (values (g.V.Inodes.contents c.args.view.now)) c.new-reads.result.items c.args.names.now
    c.walk.new.reads.items c.in_ok-reached.field-0 c.new-reads.ensures.items c.in_ok-reached.ensures.left c.args.new.now c.args.fresh c.name-item.result
    c.in-len1-up.len_at_least c.name-item.is c.in-Ok.reached c.in-Ok.is c.in-Ok-directory.links.now c.in-Ok-directory.ensures
    (sym c.in_default-room_for.ensures)
