use Rattle.assise_inode_plan.proofs.Common.{values}
use Rattle.assise_inode_plan.proofs.Exact.{exact_plan, plan_answers_call, few_effects_planned, whole_effects_planned}
use Rattle.assise_inode_plan.proofs.plan.plan_by_visits.Goals as goal

pub returns-clause-exact : goal.returns-clause-exact
returns-clause-exact g c = exact_plan c.plan_call.result (g.V.View.leased c.args.view.now) (values (g.V.Inodes.contents c.args.view.now)) c.args.op.now
    c.args.fresh c.plan_call.ensures.exact

pub returns-clause-answers : goal.returns-clause-answers
returns-clause-answers g c =
    plan_answers_call c.plan_call.result (g.V.View.leased c.args.view.now) (values (g.V.Inodes.contents c.args.view.now)) c.args.op.now c.args.fresh
    c.plan_call.ensures.exact

pub returns-clause-few_effects : goal.returns-clause-few_effects
returns-clause-few_effects g c =
    few_effects_planned c.plan_call.result (g.V.View.leased c.args.view.now) (values (g.V.Inodes.contents c.args.view.now)) c.args.op.now c.args.fresh
    c.plan_call.ensures.exact

pub returns-clause-whole : goal.returns-clause-whole
returns-clause-whole g c =
    whole_effects_planned c.plan_call.result (g.V.View.leased c.args.view.now) (values (g.V.Inodes.contents c.args.view.now)) c.args.op.now c.args.fresh
    c.plan_call.ensures.exact
