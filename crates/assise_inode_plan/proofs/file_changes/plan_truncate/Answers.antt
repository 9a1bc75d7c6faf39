use Rattle.assise_inode_plan.proofs.Common.{ap, ◌∙◌, arith, Done, values, finish, plan_from, on_err}
use Rattle.std.proofs.lemmas.Bool.Decides.{nat_tests}
use Rattle.assise_inode_plan.proofs.WalkEnds.{at_stop}
use Rattle.assise_inode_plan.proofs.FileChanging.{truncate_ends, truncate_fails, truncate_is_big}
use Rattle.assise_inode_plan.proofs.WalkRest.{seen_here}
use Rattle.assise_inode_plan.proofs.FirstVisit.{note_walk}
use Rattle.assise_inode_plan.proofs.file_changes.plan_truncate.Goals as goal

pub returns-in-Err-clause-exact : goal.returns-in-Err-clause-exact
returns-in-Err-clause-exact g c = c.stopped.ensures ∙ at_stop (g.V.View.leased c.args.view.now) (values (g.V.Inodes.contents c.args.view.now))
    c.new-reads.result.items c.args.names.now c.walk.new.reads.items c.in_ok-reached.field-0 c.new-reads.ensures.items c.in_ok-reached.ensures.left
    c.in-Err.stop c.in-Err.is _

pub returns-in-Err-file-clause-exact : goal.returns-in-Err-file-clause-exact
returns-in-Err-file-clause-exact g c = c.answered.ensures ∙ truncate_fails (g.V.View.leased c.args.view.now) (values (g.V.Inodes.contents c.args.view.now))
    c.new-reads.result.items c.args.names.now c.walk.new.reads.items c.in_ok-reached.field-0 c.new-reads.ensures.items c.in_ok-reached.ensures.left
    c.in-Ok.reached c.in-Ok.is c.args.size c.in-Err-file.error c.in-Err-file.ensures

pub returns-then-size-gt-MOST_FILE_BYTES-clause-exact : goal.returns-then-size-gt-MOST_FILE_BYTES-clause-exact
returns-then-size-gt-MOST_FILE_BYTES-clause-exact g c = c.answered-then-size-gt-MOST_FILE_BYTES.ensures ∙ truncate_is_big (g.V.View.leased c.args.view.now)
    (values (g.V.Inodes.contents c.args.view.now)) c.new-reads.result.items c.args.names.now c.walk.new.reads.items c.in_ok-reached.field-0
    c.new-reads.ensures.items c.in_ok-reached.ensures.left c.in-Ok.reached c.in-Ok.is c.args.size c.in_default.field-0.now c.in_default.ensures
    (grind (arith, nat_tests, c.if-size-gt-MOST_FILE_BYTES.true))

pub returns-clause-exact : goal.returns-clause-exact
returns-clause-exact g c = c.finished.ensures
    ∙ ap (λ es. plan_from (g.V.View.leased c.args.view.now) (values (g.V.Inodes.contents c.args.view.now)) c.walk.new.reads.items (finish Done es))
    c.in_ok-effects.ensures.effects ∙ truncate_ends (g.V.View.leased c.args.view.now) (values (g.V.Inodes.contents c.args.view.now)) c.new-reads.result.items
    c.args.names.now c.walk.new.reads.items c.in_ok-reached.field-0 c.new-reads.ensures.items c.in_ok-reached.ensures.left c.in-Ok.reached c.in-Ok.is
    c.args.size c.in_default.field-0.now c.in_default.ensures (grind (arith, nat_tests, c.if-size-gt-MOST_FILE_BYTES.false))

pub returns-in_err-reached-clause-asked : goal.returns-in_err-reached-clause-asked
returns-in_err-reached-clause-asked g c = on_err c.from_residual.result _ (search (note_walk, c.in_err-reached.ensures.asked))

pub returns-in_err-effects-clause-asked : goal.returns-in_err-effects-clause-asked
returns-in_err-effects-clause-asked g c =
    on_err c.from_residual-in_err-effects.result _ (search (note_walk, seen_here c.in_ok-reached.field-0 c.in_ok-reached.ensures.seen c.in-Ok.is))
