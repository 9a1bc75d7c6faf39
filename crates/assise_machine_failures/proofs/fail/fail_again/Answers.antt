use Rattle.assise_machine_failures.proofs.Common.{◌<◌, ◌++◌, ◌∷◌, [], length, map, ap, subst, ◌∙◌, err_from_is_err_and, fails, membership, refused, value_of}
use Rattle.assise_machine_failures.proofs.Common.{failing_answer, loss_of}
use Rattle.assise_machine_failures.proofs.FailedAgain.{IsDownAgain, back_fine, happens_again, holds_again, noted_again, shaped_again}
use Rattle.assise_machine_failures.proofs.FailedFull.{lacks_so}
use Rattle.assise_machine_failures.proofs.TakenIn.{epoch_fits}
use Rattle.assise_machine_failures.proofs.fail.fail_again.Given as given
use Rattle.assise_machine_failures.proofs.fail.fail_again.Goals as goal

pub returns-in_err-reserve-clause-happens : goal.returns-in_err-reserve-clause-happens
returns-in_err-reserve-clause-happens g c =
    let s = value_of c.args.sound.now.state in
    let error = err_from_is_err_and c.from_residual.result c.from_residual.ensures.1 in
    lacks_so s (record s { history = c.reserve.new.self.events }) c.args.node (failing_answer c.from_residual.result)
    (back_fine s.members _ c.requires.returning)
    (ap failing_answer error.1 ∙ ap refused error.2) (λ i. record s { history = c.reserve.ensures.same i })

pub fail-requires : goal.fail-requires
fail-requires g c =
    let s = value_of c.args.sound.now.state in
    let few : length s.history < 9223372036854775808 = subst (λ h. length h < 9223372036854775808) c.reserve.ensures.same c.reserve.ensures.few in
    record { epoch_fits = epoch_fits s c.args.sound.now.invariant.holds few }

-- the node is down again
down_again : (g : given.Over) (c : goal.After-push g) →
    IsDownAgain (value_of c.args.sound.now.state) c.args.node (membership c.fail.new.self) c.push.new.self.events
down_again g c = record {
  was = record {
    holds = c.args.sound.now.invariant.holds;
    shape = c.args.sound.now.invariant.shape;
    noted = c.args.sound.now.invariant.noted;
    returning = c.requires.returning;
  };
  members = c.in_ok-fail.ensures.ok;
  told = c.push.ensures.grown ∙ (λ i. c.reserve.ensures.same i ++ (c.fail-2.ensures ∙ ap (fails c.args.node) c.new.ensures.items) i ∷ []);
}

pub invariant_of-sound-2 : goal.invariant_of-sound-2
invariant_of-sound-2 g c =
    let down = down_again g c in
    record { invariant = record { holds = holds_again down; shape = shaped_again down; noted = noted_again down } }

pub returns-clause-happens : goal.returns-clause-happens
returns-clause-happens g c = happens_again (down_again g c.before.before) (map loss_of c.new-2.result.items) (ap (map loss_of) c.new-2.ensures.items)
