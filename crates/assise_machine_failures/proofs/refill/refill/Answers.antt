use Rattle.assise_machine_failures.proofs.Common.{ℕ, ap, subst, sym, ◌∙◌, ∥∥₁_map, err_from_is_err_and, IsLowestOf, filling_fault, stale_of, standing_of}
use Rattle.assise_machine_failures.proofs.Common.{membership, refill_event, refused, Refilling, event_keeps, region_in, observed, StateValue, standings}
use Rattle.assise_machine_failures.proofs.Common.{value_of, refilling_answer, refl, OutOfMemory}
use Rattle.assise_machine_failures.proofs.DroppedCopies.{logless_quiet}
use Rattle.assise_machine_failures.proofs.RefillHappens.{IsCopied, donor_number, filled_fine, filled_logless, filled_number, filling, lacks_memory_so}
use Rattle.assise_machine_failures.proofs.RefillHappens.{refill_answers, refill_noted, refill_refused, refill_shaped, whole_so}
use Rattle.assise_machine_failures.proofs.Shared.RefusedFailures.{fault_or, never}
use Rattle.assise_machine_failures.proofs.refill.refill.Given as given
use Rattle.assise_machine_failures.proofs.refill.refill.Goals as goal

pub returns-in_err-donor-clause-happens : goal.returns-in_err-donor-clause-happens
returns-in_err-donor-clause-happens g c =
    let s = value_of c.args.sound.now.state in
    let error = err_from_is_err_and c.from_residual.result c.from_residual.ensures.1 in
    refill_refused s c.args.node c.in_err-donor.field-0.0 (refilling_answer c.from_residual.result) (ap refilling_answer error.1 ∙ ap refused error.2)
    (never c.in_err-donor.ensures.ok.1)
    (fault_or {X = ℕ} (filling_fault s.members c.args.node) c.in_err-donor.field-0.0 c.in_err-donor.ensures.fault
    (λ fine. absurd (never c.in_err-donor.ensures.ok.1 fine)))

pub returns-in_default-clause-happens : goal.returns-in_default-clause-happens
returns-in_default-clause-happens g c =
    let s = value_of c.args.sound.now.state in
    whole_so (filling c.args.sound.now c.args.node c.in_ok-donor.donor c.in_ok-donor.ensures.donor)
    (subst (IsLowestOf (stale_of (standing_of (standings s) c.args.node))) c.in_default.is c.in_ok-inode.ensures.lowest)

pub copy_of-requires : goal.copy_of-requires
copy_of-requires g c = record { node = donor_number (filling c.args.sound.now c.args.node c.in_ok-donor.donor c.in_ok-donor.ensures.donor) }

pub returns-in_err-value-clause-happens : goal.returns-in_err-value-clause-happens
returns-in_err-value-clause-happens g c =
    let error = err_from_is_err_and c.from_residual-in_err-value.result c.from_residual-in_err-value.ensures.1 in
    lacks_memory_so (filling c.args.sound.now c.args.node c.in_ok-donor.donor c.in_ok-donor.ensures.donor)
    c.in-Some.inode c.in_err-value.field-0.0 (refilling_answer c.from_residual-in_err-value.result)
    (subst (IsLowestOf (stale_of (standing_of (standings (value_of c.args.sound.now.state)) c.args.node))) c.in-Some.is c.in_ok-inode.ensures.lowest)
    (ap refilling_answer error.1 ∙ ap refused error.2) c.in_err-value.ensures.only_memory

pub refill_one-requires-clause-node : goal.refill_one-requires-clause-node
refill_one-requires-clause-node g c = filled_number (filling c.args.sound.now c.args.node c.in_ok-donor.donor c.in_ok-donor.ensures.donor)

pub refill_one-requires-clause-quiet : goal.refill_one-requires-clause-quiet
refill_one-requires-clause-quiet g c =
    logless_quiet (region_in c.args.sound.now.state.nodes c.args.node) c.in-Some.inode
    (filled_logless (filling c.args.sound.now c.args.node c.in_ok-donor.donor c.in_ok-donor.ensures.donor))

pub returns-in_err-refill_one-clause-happens : goal.returns-in_err-refill_one-clause-happens
returns-in_err-refill_one-clause-happens g c =
    let s = value_of c.args.sound.now.state in
    let a = refilling_answer c.from_residual-in_err-refill_one.result in
    let error = err_from_is_err_and c.from_residual-in_err-refill_one.result c.from_residual-in_err-refill_one.ensures.1 in
    subst (λ rs. Refilling (observed s) c.args.node a (observed (record s { nodes = rs }))) (sym c.in_err-refill_one.ensures.err)
    (lacks_memory_so (filling c.args.sound.now c.args.node c.in_ok-donor.donor c.in_ok-donor.ensures.donor) c.in-Some.inode OutOfMemory a
    (subst (IsLowestOf (stale_of (standing_of (standings s) c.args.node))) c.in-Some.is c.in_ok-inode.ensures.lowest)
    (ap refilling_answer error.1 ∙ ap refused error.2) refl)

-- the node has the inode
copied_now : (g : given.Over) (c : goal.After-note_copied g) →
    IsCopied (value_of c.args.sound.now.state) c.args.node c.in_ok-donor.donor c.refill_one.new.self (membership c.note_copied.new.self)
copied_now g c =
    let s = value_of c.args.sound.now.state in
    let lowest = subst (IsLowestOf (stale_of (standing_of (standings s) c.args.node))) c.in-Some.is c.in_ok-inode.ensures.lowest in
    record {
      fills = filling c.args.sound.now c.args.node c.in_ok-donor.donor c.in_ok-donor.ensures.donor;
      inode = c.in-Some.inode;
      value = c.in_ok-value.value;
      copied = c.in_ok-value.ensures.copied;
      refilled = c.in_ok-refill_one.ensures.ok;
      lowest = lowest;
      less = c.note_copied.ensures.copied c.in-Some.inode lowest;
    }

happens_now : (g : given.Over) (c : goal.After-note_copied g) →
    Refilling (observed (value_of c.args.sound.now.state)) c.args.node (refilling_answer c.note_copied.result)
    (observed (record (value_of c.args.sound.now.state) { nodes = c.refill_one.new.self; members = membership c.note_copied.new.self }))
happens_now g c =
    let done = copied_now g c in
    refill_answers done c.note_copied.result (c.note_copied.ensures.ok.1 (filled_fine done.fills)) c.note_copied.ensures.count

pub invariant_of-sound-2 : goal.invariant_of-sound-2
invariant_of-sound-2 g c =
    let s = value_of c.args.sound.now.state in
    let u : StateValue = record s { nodes = c.refill_one.new.self; members = membership c.note_copied.new.self } in
    let a = refilling_answer c.note_copied.result in
    record {
      invariant = record {
        holds = ∥∥₁_map c.args.sound.now.invariant.holds (λ h. event_keeps (observed s) (observed u) (refill_event c.args.node) a h (happens_now g c));
        shape = refill_shaped (copied_now g c);
        noted = refill_noted (copied_now g c) c.args.sound.now.invariant.noted;
      };
    }

pub returns-clause-happens : goal.returns-clause-happens
returns-clause-happens g c = happens_now g c.before
