use Rattle.assise_inode_plan.proofs.Common.{ap, ◌∙◌, Names, values, on_err}
use Rattle.assise_inode_plan.proofs.WalkEnds.{quiet, at_stop}
use Rattle.assise_inode_plan.proofs.QuietPlans.{list_ends, list_fails}
use Rattle.assise_inode_plan.proofs.WalkRest.{seen_here}
use Rattle.assise_inode_plan.proofs.FirstVisit.{note_walk}
use Rattle.assise_inode_plan.proofs.queries.plan_list.Goals as goal

pub returns-in-Err-clause-exact : goal.returns-in-Err-clause-exact
returns-in-Err-clause-exact g c = c.stopped.ensures ∙ at_stop (g.V.View.leased c.args.view.now) (values (g.V.Inodes.contents c.args.view.now))
    c.new-reads.result.items c.args.names.now c.walk.new.reads.items c.in_ok-reached.field-0 c.new-reads.ensures.items c.in_ok-reached.ensures.left
    c.in-Err.stop c.in-Err.is _

pub returns-in_ok-listed-in-Ok-directory-clause-exact : goal.returns-in_ok-listed-in-Ok-directory-clause-exact
returns-in_ok-listed-in-Ok-directory-clause-exact g c = c.answered.ensures ∙ ap (λ names. quiet c.walk.new.reads.items (Names names))
    c.in_ok-listed-in-Ok-directory.ensures.names ∙ list_ends (g.V.View.leased c.args.view.now) (values (g.V.Inodes.contents c.args.view.now))
    c.new-reads.result.items c.args.names.now c.walk.new.reads.items c.in_ok-reached.field-0 c.new-reads.ensures.items c.in_ok-reached.ensures.left
    c.in-Ok.reached c.in-Ok.is c.in-Ok-directory.links.now c.in-Ok-directory.ensures

pub returns-in-Err-directory-clause-exact : goal.returns-in-Err-directory-clause-exact
returns-in-Err-directory-clause-exact g c = c.answered-in-Err-directory.ensures
    ∙ list_fails (g.V.View.leased c.args.view.now) (values (g.V.Inodes.contents c.args.view.now)) c.new-reads.result.items c.args.names.now
    c.walk.new.reads.items c.in_ok-reached.field-0 c.new-reads.ensures.items c.in_ok-reached.ensures.left c.in-Ok.reached c.in-Ok.is c.in-Err-directory.error
    c.in-Err-directory.ensures

pub returns-in_err-reached-clause-asked : goal.returns-in_err-reached-clause-asked
returns-in_err-reached-clause-asked g c = on_err c.from_residual.result _ (search (note_walk, c.in_err-reached.ensures.asked))

pub returns-in_err-listed-in-Ok-directory-clause-asked : goal.returns-in_err-listed-in-Ok-directory-clause-asked
returns-in_err-listed-in-Ok-directory-clause-asked g c =
    on_err c.from_residual-in_err-listed-in-Ok-directory.result _
    (search (note_walk, seen_here c.in_ok-reached.field-0 c.in_ok-reached.ensures.seen c.in-Ok.is))
