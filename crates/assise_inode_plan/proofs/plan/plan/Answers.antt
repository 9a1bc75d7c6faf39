use Rattle.assise_inode_plan.proofs.Common.{◌∙◌, ap, sym, subst, step, values, CanBeMadeWhole, answer, PlanAnswers, changed_plan_of, effects_planned, shown}
use Rattle.assise_inode_plan.proofs.WholeStepPlan.{answers_kept, visits_then_changes, whole_kept}
use Rattle.assise_inode_plan.proofs.plan.plan.Goals as goal

pub returns-clause-exact : goal.returns-clause-exact
returns-clause-exact g c =
    c.plan_changes.ensures
    ∙ ap (changed_plan_of (g.V.View.leased c.args.view.now)) c.in_ok-planned.ensures.exact
    ∙ visits_then_changes (g.V.View.leased c.args.view.now) (step (values (g.V.Inodes.contents c.args.view.now)) c.args.op.now c.args.fresh)

pub returns-clause-answers : goal.returns-clause-answers
returns-clause-answers g c = λ t spells new.
    let v = values (g.V.Inodes.contents c.args.view.now) in
    subst (PlanAnswers v (answer t c.args.op.now)) (sym c.plan_changes.ensures)
    (answers_kept v (answer t c.args.op.now) (g.V.View.leased c.args.view.now) (shown c.in_ok-planned.planned) (c.in_ok-planned.ensures.answers t spells new))

pub returns-clause-whole : goal.returns-clause-whole
returns-clause-whole g c = subst (λ p. CanBeMadeWhole (effects_planned p)) (sym c.plan_changes.ensures)
    (whole_kept (g.V.View.leased c.args.view.now) (shown c.in_ok-planned.planned) c.in_ok-planned.ensures.whole)
