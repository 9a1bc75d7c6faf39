use Rattle.assise_inode_plan.proofs.Common.{sym, subst, ◌∙◌, values, EndsAt}
use Rattle.assise_inode_plan.proofs.WalkEnds.{entry_walk_stops, entry_fault, entry_stops, entry_ends, walk_ends}
use Rattle.assise_inode_plan.proofs.WalkRest.{seen_here}
use Rattle.assise_inode_plan.proofs.WalkTwice.{first_visits, visits_before}
use Rattle.assise_inode_plan.proofs.walk.walk_to_entry.Goals as goal

pub returns-in-Err-clause-left : goal.returns-in-Err-clause-left
returns-in-Err-clause-left g c = entry_walk_stops (g.V.View.leased c.args.view.now) (values (g.V.Inodes.contents c.args.view.now)) c.args.reads.now.items
    c.args.parent.now c.walk.new.reads.items c.in_ok-reached.field-0 c.in_ok-reached.ensures.left c.in-Err.stop c.in-Err.is c.args.name.now

pub returns-in-Err-link-clause-left : goal.returns-in-Err-link-clause-left
returns-in-Err-link-clause-left g c = entry_fault (g.V.View.leased c.args.view.now) (values (g.V.Inodes.contents c.args.view.now)) c.args.reads.now.items
    c.args.parent.now c.walk.new.reads.items c.in_ok-reached.field-0 c.in_ok-reached.ensures.left c.in-Ok.reached c.in-Ok.is c.args.name.now c.in-Err-link.error
    (sym c.link.ensures ∙ c.in-Err-link.is)

pub returns-in-Ok-2-clause-left : goal.returns-in-Ok-2-clause-left
returns-in-Ok-2-clause-left g c = entry_ends (g.V.View.leased c.args.view.now) (values (g.V.Inodes.contents c.args.view.now)) c.args.reads.now.items
    c.args.parent.now c.walk.new.reads.items c.in_ok-reached.field-0 c.in_ok-reached.ensures.left c.in-Ok.reached c.in-Ok.is c.args.name.now c.in-Ok-link.inode
    (sym c.link.ensures ∙ c.in-Ok-link.is) c.reach.new.reads.items c.in_ok-content.field-0 c.in_ok-content.ensures.left c.in-Ok-2.content c.in-Ok-2.is

pub returns-in-Err-2-clause-left : goal.returns-in-Err-2-clause-left
returns-in-Err-2-clause-left g c = entry_stops (g.V.View.leased c.args.view.now) (values (g.V.Inodes.contents c.args.view.now)) c.args.reads.now.items
    c.args.parent.now c.walk.new.reads.items c.in_ok-reached.field-0 c.in_ok-reached.ensures.left c.in-Ok.reached c.in-Ok.is c.args.name.now c.in-Ok-link.inode
    (sym c.link.ensures ∙ c.in-Ok-link.is) c.reach.new.reads.items c.in_ok-content.field-0 c.in_ok-content.ensures.left c.in-Err-2.stop c.in-Err-2.is

pub returns-in-Ok-2-clause-walked : goal.returns-in-Ok-2-clause-walked
returns-in-Ok-2-clause-walked g c =
    subst (λ visits. EndsAt (g.V.View.leased c.args.view.now) (values (g.V.Inodes.contents c.args.view.now)) c.args.reads.now.items c.args.parent.now visits
    c.in-Ok.reached.0 c.in-Ok.reached.1.now)
    (sym (first_visits c.walk.new.reads.items c.reach.new.reads.items c.in-Ok-link.inode c.len-visits.result c.len-visits.ensures.value
    (seen_here c.in_ok-content.field-0 c.in_ok-content.ensures.noted c.in-Ok-2.is)))
    (walk_ends (g.V.View.leased c.args.view.now) (values (g.V.Inodes.contents c.args.view.now)) c.args.reads.now.items c.args.parent.now c.walk.new.reads.items
    c.in_ok-reached.field-0 c.in_ok-reached.ensures.left c.in-Ok.reached c.in-Ok.is)

pub returns-in-Ok-2-clause-visits : goal.returns-in-Ok-2-clause-visits
returns-in-Ok-2-clause-visits g c = visits_before c.walk.new.reads.items c.reach.new.reads.items c.in-Ok-link.inode c.len-visits.result
    c.len-visits.ensures.value (seen_here c.in_ok-content.field-0 c.in_ok-content.ensures.noted c.in-Ok-2.is)
