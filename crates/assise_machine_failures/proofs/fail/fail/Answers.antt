use Rattle.assise_machine_failures.proofs.Common.{Ok, ap, sym, ◌∙◌, refl, err_from_is_err_and, refused, value_of, failing_answer}
use Rattle.assise_machine_failures.proofs.FailedAgain.{bad_node, down_fault}
use Rattle.assise_machine_failures.proofs.FailedFull.{refused_as}
use Rattle.assise_machine_failures.proofs.fail.fail.Goals as goal

pub returns-in_err-phase-clause-happens : goal.returns-in_err-phase-clause-happens
returns-in_err-phase-clause-happens g c =
    let s = value_of c.args.sound.now.state in
    let error = err_from_is_err_and c.from_residual.result c.from_residual.ensures.1 in
    refused_as s c.args.node _ (failing_answer c.from_residual.result)
    (bad_node s.members _ c.in_err-phase.field-0.0 (sym c.phase.ensures ∙ c.in_err-phase.was)) (ap failing_answer error.1 ∙ ap refused error.2)

pub returns-in-Down-clause-happens : goal.returns-in-Down-clause-happens
returns-in-Down-clause-happens g c =
    let s = value_of c.args.sound.now.state in
    refused_as s c.args.node _ _ (down_fault s.members _ (sym c.phase.ensures ∙ c.in_ok-phase.was ∙ ap Ok c.in-Down.is)) refl
