use Rattle.assise_inode_plan.proofs.Common.{values}
use Rattle.assise_inode_plan.proofs.WalkRest.{last_found, last_missing, last_stops}
use Rattle.assise_inode_plan.proofs.walk.reach.Goals as goal

pub returns-in-Ok-Some-clause-left : goal.returns-in-Ok-Some-clause-left
returns-in-Ok-Some-clause-left g c = last_found (g.V.View.leased c.args.view.now) (values (g.V.Inodes.contents c.args.view.now)) c.args.reads.now.items
    c.visit.new.reads.items c.args.inode c.in_ok-content.field-0 c.in_ok-content.ensures.left c.in-Ok-Some.field-0 c.in-Ok-Some.content c.in-Ok-Some.is
    c.in-Ok-Some.field-0-is

pub returns-in-Ok-None-clause-left : goal.returns-in-Ok-None-clause-left
returns-in-Ok-None-clause-left g c = last_missing (g.V.View.leased c.args.view.now) (values (g.V.Inodes.contents c.args.view.now)) c.args.reads.now.items
    c.visit.new.reads.items c.args.inode c.in_ok-content.field-0 c.in_ok-content.ensures.left c.in-Ok-None.field-0 c.in-Ok-None.is c.in-Ok-None.field-0-is

pub returns-in-Err-clause-left : goal.returns-in-Err-clause-left
returns-in-Err-clause-left g c = last_stops (g.V.View.leased c.args.view.now) (values (g.V.Inodes.contents c.args.view.now)) c.args.reads.now.items
    c.visit.new.reads.items c.args.inode c.in_ok-content.field-0 c.in_ok-content.ensures.left c.in-Err.stop c.in-Err.is
