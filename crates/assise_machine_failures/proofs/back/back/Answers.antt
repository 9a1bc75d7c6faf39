use Rattle.assise_machine_failures.proofs.Common.{ap, ◌∙◌, ∥∥₁_map, err_from_is_err_and, return_fault, membership, back_event, began, refused, Returning}
use Rattle.assise_machine_failures.proofs.Common.{event_keeps, observed, value_of, returning_answer}
use Rattle.assise_machine_failures.proofs.ComingBack.{IsComing, back_happens, back_left, back_noted, back_refused, back_shaped}
use Rattle.assise_machine_failures.proofs.Shared.RefusedFailures.{fault_or}
use Rattle.assise_machine_failures.proofs.back.back.Given as given
use Rattle.assise_machine_failures.proofs.back.back.Goals as goal

pub returns-in_err-stale-clause-happens : goal.returns-in_err-stale-clause-happens
returns-in_err-stale-clause-happens g c =
    let error = err_from_is_err_and c.from_residual.result c.from_residual.ensures.1 in
    let m = membership c.args.sound.now.state.members in
    back_refused (value_of c.args.sound.now.state) c.args.node (membership c.back.new.self) c.in_err-stale.field-0.0 (returning_answer c.from_residual.result)
    c.in_err-stale.ensures.err
    (ap returning_answer error.1 ∙ ap refused error.2)
    (fault_or (return_fault m c.args.node) c.in_err-stale.field-0.0 c.in_err-stale.ensures.fault c.in_err-stale.ensures.only_memory)

-- the node begins to come back
coming : (g : given.Over) (c : goal.In_ok-stale g) → IsComing (value_of c.args.sound.now.state) c.args.node (membership c.back.new.self)
coming g c = record { shape = c.args.sound.now.invariant.shape; fine = c.in_ok-stale.ensures.faultless; members = c.in_ok-stale.ensures.ok }

pub drop_copies-requires-clause-shape : goal.drop_copies-requires-clause-shape
drop_copies-requires-clause-shape g c = back_shaped (coming g c)

happens_now : (g : given.Over) (c : goal.After-drop_copies g) →
    Returning (observed (value_of c.args.sound.now.state)) c.args.node (began c.in_ok-stale.stale) (observed (value_of c.drop_copies.new.state))
happens_now g c = back_happens (coming g c.before) c.drop_copies.ensures.copies c.in_ok-stale.stale c.in_ok-stale.ensures.count

pub invariant_of-sound-2 : goal.invariant_of-sound-2
invariant_of-sound-2 g c =
    let s = value_of c.args.sound.now.state in
    let u = value_of c.drop_copies.new.state in
    let comes = coming g c.before in
    record {
      invariant = record {
        holds = ∥∥₁_map c.args.sound.now.invariant.holds
            (λ h. event_keeps (observed s) (observed u) (back_event c.args.node) (began c.in_ok-stale.stale) h (happens_now g c));
        shape = back_left comes c.drop_copies.ensures.copies;
        noted = back_noted comes c.drop_copies.ensures.copies c.args.sound.now.invariant.noted;
      };
    }

pub returns-clause-happens : goal.returns-clause-happens
returns-clause-happens g c = happens_now g c.before
