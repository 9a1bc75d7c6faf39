use Rattle.assise_machine_failures.proofs.Common.{◌≡◌, ℕ, ◌<◌, ◌++◌, ◌∷◌, [], length, ap, refl, subst, sym, ◌∙◌, ∥∥₁_map, err_from_is_err_and, filling_fault}
use Rattle.assise_machine_failures.proofs.Common.{membership, join_event, joined, refused, MachineInvariant, event_keeps, observed, CutsInvariant}
use Rattle.assise_machine_failures.proofs.Common.{ShapeInvariant, StateValue, value_of, joining_answer}
use Rattle.assise_machine_failures.proofs.RefillHappens.{donor_number, filled_logless, filled_number, filling}
use Rattle.assise_machine_failures.proofs.Shared.RefusedFailures.{fault_or, never}
use Rattle.assise_machine_failures.proofs.TakenIn.{IsTakenIn, epoch_fits, got_number, join_busy, join_fine, join_happens}
use Rattle.assise_machine_failures.proofs.TakenIn.{join_lacks, join_left, join_noted, join_refused, logs_back, same_all}
use Rattle.assise_machine_failures.proofs.join.join.Given as given
use Rattle.assise_machine_failures.proofs.join.join.Goals as goal

pub returns-in_err-donor-clause-happens : goal.returns-in_err-donor-clause-happens
returns-in_err-donor-clause-happens g c =
    let s = value_of c.args.sound.now.state in
    let error = err_from_is_err_and c.from_residual.result c.from_residual.ensures.1 in
    join_refused s c.args.node c.in_err-donor.field-0.0 (joining_answer c.from_residual.result) (ap joining_answer error.1 ∙ ap refused error.2)
    (fault_or {X = ℕ} (filling_fault s.members c.args.node) c.in_err-donor.field-0.0 c.in_err-donor.ensures.fault
    (λ fine. absurd (never c.in_err-donor.ensures.ok.1 fine))) (never c.in_err-donor.ensures.ok.1)

pub returns-then-is_some-clause-happens : goal.returns-then-is_some-clause-happens
returns-then-is_some-clause-happens g c =
    join_busy (value_of c.args.sound.now.state) c.args.node _ c.in_ok-lowest_stale.ensures.lowest (sym c.is_some.ensures ∙ c.if-is_some.true)

pub returns-in_err-reserve-clause-happens : goal.returns-in_err-reserve-clause-happens
returns-in_err-reserve-clause-happens g c =
    let s = value_of c.args.sound.now.state in
    let error = err_from_is_err_and c.from_residual-in_err-reserve.result c.from_residual-in_err-reserve.ensures.1 in
    let fine = join_fine s c.args.node _ c.in_ok-lowest_stale.ensures.lowest (sym c.is_some.ensures ∙ c.if-is_some.false) in
    join_lacks s c.args.node _ (joining_answer c.from_residual-in_err-reserve.result) fine (λ i. record s { history = c.reserve.ensures.same i })
    (ap joining_answer error.1 ∙ ap refused error.2)

pub copy_logs-requires-clause-node : goal.copy_logs-requires-clause-node
copy_logs-requires-clause-node g c = filled_number (filling c.args.sound.now c.args.node c.in_ok-donor.donor c.in_ok-donor.ensures.donor)

pub copy_logs-requires-clause-donor : goal.copy_logs-requires-clause-donor
copy_logs-requires-clause-donor g c = donor_number (filling c.args.sound.now c.args.node c.in_ok-donor.donor c.in_ok-donor.ensures.donor)

pub copy_logs-requires-clause-none : goal.copy_logs-requires-clause-none
copy_logs-requires-clause-none g c = filled_logless (filling c.args.sound.now c.args.node c.in_ok-donor.donor c.in_ok-donor.ensures.donor)

pub returns-in_err-copy_logs-clause-happens : goal.returns-in_err-copy_logs-clause-happens
returns-in_err-copy_logs-clause-happens g c =
    let s = value_of c.args.sound.now.state in
    let error = err_from_is_err_and c.from_residual-in_err-copy_logs.result c.from_residual-in_err-copy_logs.ensures.1 in
    let fine = join_fine s c.args.node _ c.in_ok-lowest_stale.ensures.lowest (sym c.is_some.ensures ∙ c.if-is_some.false) in
    join_lacks s c.args.node _ (joining_answer c.from_residual-in_err-copy_logs.result) fine
    (same_all s c.in_err-copy_logs.ensures.err refl c.reserve.ensures.same)
    (ap joining_answer error.1 ∙ ap refused (error.2 ∙ c.in_err-copy_logs.ensures.only_memory))

pub join-requires : goal.join-requires
join-requires g c =
    let s = value_of c.args.sound.now.state in
    let few : length s.history < 9223372036854775808 = subst (λ h. length h < 9223372036854775808) c.reserve.ensures.same c.reserve.ensures.few in
    record { epoch_fits = epoch_fits s c.args.sound.now.invariant.holds few }

pub remove_logs-requires : goal.remove_logs-requires
remove_logs-requires g c =
    let there = filled_number (filling c.args.sound.now c.args.node c.in_ok-donor.donor c.in_ok-donor.ensures.donor) in
    record { node = got_number c.args.sound.now.state.nodes c.copy_logs.new.self c.args.node c.in_ok-donor.donor there c.in_ok-copy_logs.ensures.ok }

back_again : (g : given.Over) (c : goal.After-remove_logs g) → c.remove_logs.new.self ≡ c.args.sound.now.state.nodes
back_again g c =
    let fills = filling c.args.sound.now c.args.node c.in_ok-donor.donor c.in_ok-donor.ensures.donor in
    logs_back c.args.sound.now.state.nodes c.copy_logs.new.self c.remove_logs.new.self c.args.node c.in_ok-donor.donor
    (filled_number fills) (filled_logless fills) c.in_ok-copy_logs.ensures.ok c.remove_logs.ensures

pub invariant_of-sound-in-Err : goal.invariant_of-sound-in-Err
invariant_of-sound-in-Err g c =
    let s = value_of c.args.sound.now.state in
    let same = same_all s (back_again g c) c.in-Err.ensures.err c.reserve.ensures.same in
    record {
      invariant = record {
        holds = subst (λ u. ∥ MachineInvariant (observed u) ∥₁) (sym same) c.args.sound.now.invariant.holds;
        shape = subst ShapeInvariant (sym same) c.args.sound.now.invariant.shape;
        noted = subst CutsInvariant (sym same) c.args.sound.now.invariant.noted;
      };
    }

pub returns-in-Err-clause-happens : goal.returns-in-Err-clause-happens
returns-in-Err-clause-happens g c =
    let s = value_of c.args.sound.now.state in
    let fine = join_fine s c.args.node _ c.in_ok-lowest_stale.ensures.lowest (sym c.is_some.ensures ∙ c.if-is_some.false) in
    join_lacks s c.args.node _ (refused c.in-Err.refusal) fine (same_all s (back_again g c.before) c.in-Err.ensures.err c.reserve.ensures.same)
    (ap refused (c.in-Err.ensures.only_memory fine))

-- the node is full again
taken_in : (g : given.Over) (c : goal.After-push g) →
    IsTakenIn (value_of c.args.sound.now.state) c.args.node c.in_ok-donor.donor c.copy_logs.new.self (membership c.join.new.self) c.push.new.self.events
taken_in g c = record {
  holds = c.args.sound.now.invariant.holds;
  fills = filling c.args.sound.now c.args.node c.in_ok-donor.donor c.in_ok-donor.ensures.donor;
  fine = join_fine (value_of c.args.sound.now.state) c.args.node _ c.in_ok-lowest_stale.ensures.lowest (sym c.is_some.ensures ∙ c.if-is_some.false);
  nodes = c.in_ok-copy_logs.ensures.ok;
  members = c.in_default.ensures.ok;
  history = c.push.ensures.grown ∙ (λ i. c.reserve.ensures.same i ++ c.node_return.ensures i ∷ []);
}

pub invariant_of-sound-2 : goal.invariant_of-sound-2
invariant_of-sound-2 g c =
    let s = value_of c.args.sound.now.state in
    let u : StateValue = record s { nodes = c.copy_logs.new.self; members = membership c.join.new.self; history = c.push.new.self.events } in
    let taken = taken_in g c in
    record {
      invariant = record {
        holds = ∥∥₁_map c.args.sound.now.invariant.holds (λ h. event_keeps (observed s) (observed u) (join_event c.args.node) joined h (join_happens taken));
        shape = join_left taken;
        noted = join_noted taken c.args.sound.now.invariant.noted;
      };
    }

pub returns-clause-happens : goal.returns-clause-happens
returns-clause-happens g c = join_happens (taken_in g c.before)
