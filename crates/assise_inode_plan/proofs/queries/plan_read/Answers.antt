use Rattle.assise_inode_plan.proofs.Common.{ap, ◌∙◌, Bytes, values, on_err}
use Rattle.assise_inode_plan.proofs.WalkEnds.{quiet, at_stop}
use Rattle.assise_inode_plan.proofs.QuietPlans.{read_ends, read_fails}
use Rattle.assise_inode_plan.proofs.WalkRest.{seen_here}
use Rattle.assise_inode_plan.proofs.FirstVisit.{note_walk}
use Rattle.assise_inode_plan.proofs.queries.plan_read.Goals as goal

pub returns-in-Err-clause-exact : goal.returns-in-Err-clause-exact
returns-in-Err-clause-exact g c = c.stopped.ensures ∙ at_stop (g.V.View.leased c.args.view.now) (values (g.V.Inodes.contents c.args.view.now))
    c.new-reads.result.items c.args.names.now c.walk.new.reads.items c.in_ok-reached.field-0 c.new-reads.ensures.items c.in_ok-reached.ensures.left
    c.in-Err.stop c.in-Err.is _

pub returns-in_ok-bytes-in-Ok-file-clause-exact : goal.returns-in_ok-bytes-in-Ok-file-clause-exact
returns-in_ok-bytes-in-Ok-file-clause-exact g c =
    c.answered.ensures ∙ ap (λ b. quiet c.walk.new.reads.items (Bytes b)) c.in_ok-bytes-in-Ok-file.ensures.bytes
    ∙ read_ends (g.V.View.leased c.args.view.now) (values (g.V.Inodes.contents c.args.view.now)) c.new-reads.result.items c.args.names.now
    c.walk.new.reads.items c.in_ok-reached.field-0 c.new-reads.ensures.items c.in_ok-reached.ensures.left c.in-Ok.reached c.in-Ok.is c.args.offset
    c.args.length c.in-Ok-file.file.now c.in-Ok-file.ensures

pub returns-in-Err-file-clause-exact : goal.returns-in-Err-file-clause-exact
returns-in-Err-file-clause-exact g c =
    c.answered-in-Err-file.ensures
    ∙ read_fails (g.V.View.leased c.args.view.now) (values (g.V.Inodes.contents c.args.view.now)) c.new-reads.result.items c.args.names.now
    c.walk.new.reads.items c.in_ok-reached.field-0 c.new-reads.ensures.items c.in_ok-reached.ensures.left c.in-Ok.reached c.in-Ok.is c.args.offset
    c.args.length c.in-Err-file.error c.in-Err-file.ensures

pub returns-in_err-reached-clause-asked : goal.returns-in_err-reached-clause-asked
returns-in_err-reached-clause-asked g c = on_err c.from_residual.result _ (search (note_walk, c.in_err-reached.ensures.asked))

pub returns-in_err-bytes-in-Ok-file-clause-asked : goal.returns-in_err-bytes-in-Ok-file-clause-asked
returns-in_err-bytes-in-Ok-file-clause-asked g c =
    on_err c.from_residual-in_err-bytes-in-Ok-file.result _ (search (note_walk, seen_here c.in_ok-reached.field-0 c.in_ok-reached.ensures.seen c.in-Ok.is))
