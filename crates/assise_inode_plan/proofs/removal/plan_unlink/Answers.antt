use Rattle.assise_inode_plan.proofs.Common.{ap, ◌∙◌, Done, values, finish, plan_from}
use Rattle.assise_inode_plan.proofs.RemovePlans.{unlink_stops, unlink_fails, unlink_ends}
use Rattle.assise_inode_plan.proofs.removal.plan_unlink.Goals as goal

pub returns-in-Err-clause-exact : goal.returns-in-Err-clause-exact
returns-in-Err-clause-exact g c = c.stopped.ensures ∙ unlink_stops (g.V.View.leased c.args.view.now) (values (g.V.Inodes.contents c.args.view.now))
    c.new-reads.result.items c.args.names.now c.name-item.result c.walk_to_entry.new.reads.items c.in_ok-reached.field-0 c.new-reads.ensures.items
    c.in_ok-reached.ensures.left c.in-len1-up.len_at_least c.name-item.is c.in-Err.stop c.in-Err.is

pub returns-in-Err-file-clause-exact : goal.returns-in-Err-file-clause-exact
returns-in-Err-file-clause-exact g c = c.answered-in-Err-file.ensures ∙ unlink_fails (g.V.View.leased c.args.view.now)
    (values (g.V.Inodes.contents c.args.view.now)) c.new-reads.result.items c.args.names.now c.name-item.result c.walk_to_entry.new.reads.items
    c.in_ok-reached.field-0 c.new-reads.ensures.items c.in_ok-reached.ensures.left c.in-len1-up.len_at_least c.name-item.is c.in-Ok.reached c.in-Ok.is
    c.in-Err-file.error c.in-Err-file.ensures

pub returns-clause-exact : goal.returns-clause-exact
returns-clause-exact g c = c.finished.ensures
    ∙ ap (λ es. plan_from (g.V.View.leased c.args.view.now) (values (g.V.Inodes.contents c.args.view.now)) c.walk_to_entry.new.reads.items (finish Done es))
    c.in_ok-effects.ensures.effects ∙ unlink_ends (g.V.View.leased c.args.view.now) (values (g.V.Inodes.contents c.args.view.now)) c.new-reads.result.items
    c.args.names.now c.name-item.result c.walk_to_entry.new.reads.items c.in_ok-reached.field-0 c.new-reads.ensures.items c.in_ok-reached.ensures.left
    c.in-len1-up.len_at_least c.name-item.is c.in-Ok.reached c.in-Ok.is c.in_default-file.field-0.now c.in_default-file.ensures
