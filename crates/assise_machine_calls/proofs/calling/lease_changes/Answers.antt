use Rattle.assise_machine_calls.proofs.Common.{◌≡◌, ◌+◌, false, Some, IfErr, ap, arith, sym, subst, ◌∙◌, take, err_from_is_err_and, Write, Refusal, touched_by}
use Rattle.assise_machine_calls.proofs.Common.{touched, LeaseView, first_missing, for_writing, lease_of, serves, levels_of, Calling, not_yet, refused, observed}
use Rattle.assise_machine_calls.proofs.Common.{leases_of, machine_of, value_of, step_in}
use Rattle.assise_machine_calls.proofs.CallTries.{ready_now}
use Rattle.assise_machine_calls.proofs.LeasedChanges.{LeasesSoFar, got_more, lacked_first, leased_more, none_lacked, still_leased}
use Rattle.assise_machine_calls.proofs.calling.lease_changes.Goals.{else-not-holds-via-then-not-holds+in_ok-lease_change+else-not-branch}
use Rattle.assise_machine_calls.proofs.calling.lease_changes.Goals.{else-not-holds-via-else-not-holds}
use Rattle.assise_machine_calls.proofs.calling.lease_changes.Goals as goal

pub lease_change-requires-clause-lacked : goal.lease_change-requires-clause-lacked
unfolding observed leases_of
lease_change-requires-clause-lacked g c =
    let leased : LeaseView = λ i mode. serves (lease_of ((levels_of c.loop-effect.state.leases).clients i) c.args.client) mode in
    let es = c.deref-effect-items.result.now in
    let e = c.effect-item.result in
    let bare : leased (touched_by e) Write ≡ false =
    ap (λ i. leased i Write) (sym c.touches-inode.ensures) ∙ sym c.holds.ensures.holds ∙ c.if-not-holds.true in
    ap (λ fs. first_missing leased (for_writing (touched fs))) (sym c.deref-effect-items.ensures.value)
    ∙ lacked_first leased es c.loop-effect.effect-index e c.loop-effect.invariant.leased c.loop-effect-test.true c.effect-item.is bare
    ∙ ap (λ i. Some (i, Write)) (sym c.touches-inode.ensures)

pub returns-in_err-lease_change-clause-refused : goal.returns-in_err-lease_change-clause-refused
returns-in_err-lease_change-clause-refused g c =
    let error = err_from_is_err_and c.from_residual.result c.from_residual.ensures.1 in
    let last = machine_of c.lease_change.new.state in
    let P : Refusal → Type 0 = λ e. Calling (machine_of c.args.state.now) c.args.client c.args.op.now (refused e) last in
    subst (λ o. IfErr o P) (sym error.1)
    (c.loop-effect.invariant.got.onward (refused error.0) last
    (subst (λ a. Calling (machine_of c.loop-effect.state) c.args.client c.args.op.now a last) (sym (ap refused error.2)) c.in_err-lease_change.ensures.refused))

pub returns-then-not-branch-clause-waits : goal.returns-then-not-branch-clause-waits
returns-then-not-branch-clause-waits g c = λ is.
    c.loop-effect.invariant.got.onward not_yet (machine_of c.lease_change.new.state) (c.in_ok-lease_change.ensures.waits c.if-not-branch.true)

pub loop-effect-preserved : goal.loop-effect-preserved
unfolding observed leases_of
loop-effect-preserved g c =
    let so_far = c.loop-effect.invariant in
    let es = c.deref-effect-items.result.now in
    let k = c.loop-effect.effect-index in
    let e = c.effect-item.result in
    let step = step_in c.args.outcome.now in
    let few = c.loop-effect-test.true in
    elim c.else-not-holds.branch [
      | else-not-holds-via-then-not-holds+in_ok-lease_change+else-not-branch w ↦
          let new = w.lease_change.new.state in
          let leased : LeaseView = λ i mode. serves (lease_of ((levels_of new.leases).clients i) c.args.client) mode in
          let got = w.in_ok-lease_change.ensures.got w.if-not-branch.false in
          let may = ap (λ i. leased i Write) (sym c.touches-inode.ensures) ∙ w.in_ok-lease_change.ensures.leased w.if-not-branch.false in
          subst (λ st. LeasesSoFar c.args.state.now st c.args.client c.args.op.now step es (k + 1)) (sym w.state-is) (record {
            got = got_more (machine_of c.args.state.now) (machine_of c.loop-effect.state) (machine_of new) c.args.client c.args.op.now step so_far.got got;
            leased = leased_more leased es k e (still_leased _ leased (take k es) got.kept so_far.leased) few c.effect-item.is may;
            shape = w.lease_change.ensures.shape;
            noted = w.lease_change.ensures.noted;
            revokers = λ d. w.lease_change.ensures.revokers d ∙ so_far.revokers d;
          })
      | else-not-holds-via-else-not-holds w ↦
          let leased : LeaseView = λ i mode. serves (lease_of ((levels_of c.loop-effect.state.leases).clients i) c.args.client) mode in
          let may = ap (λ i. leased i Write) (sym c.touches-inode.ensures) ∙ sym c.holds.ensures.holds ∙ w.if-not-holds.false in
          subst (λ st. LeasesSoFar c.args.state.now st c.args.client c.args.op.now step es (k + 1)) (sym w.state-is) (record {
            got = so_far.got;
            leased = leased_more leased es k e so_far.leased few c.effect-item.is may;
            shape = so_far.shape;
            noted = so_far.noted;
            revokers = so_far.revokers;
          })
    ]

pub returns-clause-all : goal.returns-clause-all
unfolding observed leases_of
returns-clause-all g c = λ is.
    let so_far = c.loop-effect.invariant in
    let leased : LeaseView = λ i mode. serves (lease_of ((levels_of c.loop-effect.state.leases).clients i) c.args.client) mode in
    let none =
    ap (λ fs. first_missing leased (for_writing (touched fs))) (sym c.deref-effect-items.ensures.value)
    ∙ none_lacked leased c.deref-effect-items.result.now c.loop-effect.effect-index so_far.leased
    (omega (arith, c.loop-effect-test.false, c.loop-effect.auto.effect-index-end)) in
    record {
      fine = so_far.got.fine;
      holds = so_far.got.holds;
      ready =
          ready_now (value_of c.loop-effect.state) c.args.client c.args.op.now so_far.shape so_far.got.holds so_far.got.fine (step_in c.args.outcome.now)
          so_far.got.visited none;
      unrevoked = so_far.got.unrevoked;
      onward = so_far.got.onward;
    }
