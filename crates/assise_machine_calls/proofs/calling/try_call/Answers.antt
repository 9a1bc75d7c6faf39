use Rattle.assise_machine_calls.proofs.Common.{Err, refl, sym, ◌∙◌, ∥∥₁_map, durability_of, stored_by, is_refused, calling_keeps, machine_of, turn_answer}
use Rattle.assise_machine_calls.proofs.AnsweredCuts.{dsync_revokes_nothing, fsync_revokes_nothing, nothing_revoked}
use Rattle.assise_machine_calls.proofs.CallTries.{is_tried, no_sync}
use Rattle.assise_machine_calls.proofs.calling.try_call.Goals as goal

pub returns-in-Fsync-clause-happens : goal.returns-in-Fsync-clause-happens
returns-in-Fsync-clause-happens g c = rw c.in-Fsync.is c.try_fsync.ensures.happens

pub returns-in-Fsync-clause-cuts : goal.returns-in-Fsync-clause-cuts
returns-in-Fsync-clause-cuts g c =
    let m = machine_of c.args.sound.now.state in
    fsync_revokes_nothing g.C.Revokes.answers (stored_by c.args.sound.now.state.leases) m (machine_of c.try_fsync.new.sound.state) c.args.client
    (durability_of c.args.client m.history) (turn_answer c.try_fsync.result) c.try_fsync.ensures.happens

pub returns-in-Dsync-clause-happens : goal.returns-in-Dsync-clause-happens
returns-in-Dsync-clause-happens g c = rw c.in-Dsync.is c.try_dsync.ensures.happens

pub returns-in-Dsync-clause-cuts : goal.returns-in-Dsync-clause-cuts
returns-in-Dsync-clause-cuts g c =
    let m = machine_of c.args.sound.now.state in
    dsync_revokes_nothing g.C.Revokes.answers (stored_by c.args.sound.now.state.leases) m (machine_of c.try_dsync.new.sound.state) c.args.client
    (durability_of c.args.client m.history) (turn_answer c.try_dsync.result) c.try_dsync.ensures.happens

pub returns-in-Some : goal.returns-in-Some
returns-in-Some g c =
    let m = machine_of c.args.sound.now.state in
    record {
      happens = is_tried m m c.args.client c.args.op.now (turn_answer (Err c.in-Some.refusal))
          (no_sync c.args.op.now c.in_default.not-Fsync c.in_default.not-Dsync)
          (is_refused c.in-Some.refusal (sym c.call_refusal.ensures ∙ c.in-Some.is) refl refl);
      cuts = nothing_revoked g.C.Revokes.answers (stored_by c.args.sound.now.state.leases) m m (λ d i. refl);
      revokers = λ d. refl;
    }

pub invariant_of-sound-2 : goal.invariant_of-sound-2
invariant_of-sound-2 g c = record {
  invariant = record {
    holds = ∥∥₁_map c.args.sound.now.invariant.holds
        (λ h. calling_keeps (machine_of c.args.sound.now.state) (machine_of c.call.new.state) c.args.client c.args.op.now (turn_answer c.call.result) h
        (no_sync c.args.op.now c.in_default.not-Fsync c.in_default.not-Dsync (durability_of c.args.client (machine_of c.args.sound.now.state).history))
        c.call.ensures.happens);
    shape = c.call.ensures.shape;
    noted = c.call.ensures.noted;
  };
}

pub returns : goal.returns
returns g c = record {
  happens = is_tried (machine_of c.args.sound.now.state) (machine_of c.call.new.state) c.args.client c.args.op.now (turn_answer c.call.result)
      (no_sync c.args.op.now c.in_default.not-Fsync c.in_default.not-Dsync) c.call.ensures.happens;
  cuts = c.call.ensures.cuts;
  revokers = c.call.ensures.revokers;
}
