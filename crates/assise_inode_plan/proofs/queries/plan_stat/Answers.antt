use Rattle.assise_inode_plan.proofs.Common.{ap, ◌∙◌, values, on_err}
use Rattle.assise_inode_plan.proofs.WalkEnds.{quiet, at_stop}
use Rattle.assise_inode_plan.proofs.QuietPlans.{stat_ends}
use Rattle.assise_inode_plan.proofs.FirstVisit.{note_walk}
use Rattle.assise_inode_plan.proofs.queries.plan_stat.Goals as goal

pub returns-in-Ok-clause-exact : goal.returns-in-Ok-clause-exact
returns-in-Ok-clause-exact g c =
    c.answered.ensures ∙ ap (quiet c.walk.new.reads.items) c.describe.ensures
    ∙ stat_ends (g.V.View.leased c.args.view.now) (values (g.V.Inodes.contents c.args.view.now)) c.new-reads.result.items c.args.names.now
    c.walk.new.reads.items c.in_ok-inode.field-0 c.new-reads.ensures.items c.in_ok-inode.ensures.left _ c.in-Ok.is

pub returns-in-Err-clause-exact : goal.returns-in-Err-clause-exact
returns-in-Err-clause-exact g c = c.stopped.ensures ∙ at_stop (g.V.View.leased c.args.view.now) (values (g.V.Inodes.contents c.args.view.now))
    c.new-reads.result.items c.args.names.now c.walk.new.reads.items c.in_ok-inode.field-0 c.new-reads.ensures.items c.in_ok-inode.ensures.left c.in-Err.stop
    c.in-Err.is _

pub returns-in_err-inode-clause-asked : goal.returns-in_err-inode-clause-asked
returns-in_err-inode-clause-asked g c = on_err c.from_residual.result _ (search (note_walk, c.in_err-inode.ensures.asked))
