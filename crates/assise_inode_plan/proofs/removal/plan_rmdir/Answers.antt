use Rattle.assise_inode_plan.proofs.Common.{ap, sym, ◌∙◌, Done, values, finish, plan_from}
use Rattle.assise_inode_plan.proofs.RemovePlans.{rmdir_stops, rmdir_fails, rmdir_has_entries, rmdir_ends}
use Rattle.assise_inode_plan.proofs.removal.plan_rmdir.Goals as goal

pub returns-in-Err-clause-exact : goal.returns-in-Err-clause-exact
returns-in-Err-clause-exact g c = c.stopped.ensures ∙ rmdir_stops (g.V.View.leased c.args.view.now) (values (g.V.Inodes.contents c.args.view.now))
    c.new-reads.result.items c.args.names.now c.name-item.result c.walk_to_entry.new.reads.items c.in_ok-reached.field-0 c.new-reads.ensures.items
    c.in_ok-reached.ensures.left c.in-len1-up.len_at_least c.name-item.is c.in-Err.stop c.in-Err.is

pub returns-in-Err-directory-clause-exact : goal.returns-in-Err-directory-clause-exact
returns-in-Err-directory-clause-exact g c = c.answered-in-Err-directory.ensures
    ∙ rmdir_fails (g.V.View.leased c.args.view.now) (values (g.V.Inodes.contents c.args.view.now)) c.new-reads.result.items c.args.names.now c.name-item.result
    c.walk_to_entry.new.reads.items c.in_ok-reached.field-0 c.new-reads.ensures.items c.in_ok-reached.ensures.left c.in-len1-up.len_at_least c.name-item.is
    c.in-Ok.reached c.in-Ok.is c.in-Err-directory.error c.in-Err-directory.ensures

pub returns-then-not-is_empty-clause-exact : goal.returns-then-not-is_empty-clause-exact
returns-then-not-is_empty-clause-exact g c = c.answered-then-not-is_empty.ensures ∙ rmdir_has_entries (g.V.View.leased c.args.view.now)
    (values (g.V.Inodes.contents c.args.view.now)) c.new-reads.result.items c.args.names.now c.name-item.result c.walk_to_entry.new.reads.items
    c.in_ok-reached.field-0 c.new-reads.ensures.items c.in_ok-reached.ensures.left c.in-len1-up.len_at_least c.name-item.is c.in-Ok.reached c.in-Ok.is
    c.in-Ok-directory.links.now c.in-Ok-directory.ensures (sym c.is_empty.ensures ∙ c.if-not-is_empty.true)

pub returns-clause-exact : goal.returns-clause-exact
returns-clause-exact g c = c.finished.ensures
    ∙ ap (λ es. plan_from (g.V.View.leased c.args.view.now) (values (g.V.Inodes.contents c.args.view.now)) c.walk_to_entry.new.reads.items (finish Done es))
    c.in_ok-effects.ensures.effects ∙ rmdir_ends (g.V.View.leased c.args.view.now) (values (g.V.Inodes.contents c.args.view.now)) c.new-reads.result.items
    c.args.names.now c.name-item.result c.walk_to_entry.new.reads.items c.in_ok-reached.field-0 c.new-reads.ensures.items c.in_ok-reached.ensures.left
    c.in-len1-up.len_at_least c.name-item.is c.in-Ok.reached c.in-Ok.is c.in-Ok-directory.links.now c.in-Ok-directory.ensures
    (sym c.is_empty.ensures ∙ c.if-not-is_empty.false)
