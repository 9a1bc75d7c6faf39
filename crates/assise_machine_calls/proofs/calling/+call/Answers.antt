use Rattle.assise_machine_calls.proofs.Common.{◌≡◌, ◌<◌, true, refl, Some, ap, arith, sym, subst, ◌∙◌, err_from_is_err_and, first_missing, wants, leases_shaped}
use Rattle.assise_machine_calls.proofs.Common.{shown, inode_number, lease_of, is_revoked, levels_of, stored_by, IsGranted, is_free_for, Calling, refused}
use Rattle.assise_machine_calls.proofs.Common.{after_leases, client_in, observed, world_of, CutsInvariant, leases_of, machine_of, value_of, turn_answer}
use Rattle.assise_machine_calls.proofs.Common.{next_step, step_in}
use Rattle.assise_machine_calls.proofs.AnsweredCuts.{nothing_revoked}
use Rattle.assise_machine_calls.proofs.CallCommits.{call_made, call_number, call_unfailed}
use Rattle.assise_machine_calls.proofs.LeaseFacts.{home_known}
use Rattle.assise_machine_calls.proofs.CallTries.{awaited, cuts_then, fewer_then, fine_then, goes_on, holds_then, lacking_as, lacks_visit, noted_then}
use Rattle.assise_machine_calls.proofs.CallTries.{planned_now, visited_now, same_levels, same_levels_revoked, served}
use Rattle.assise_machine_calls.proofs.FewerLacked.{unserved}
use Rattle.assise_machine_calls.proofs.calling.+call.Given.{Over}
use Rattle.assise_machine_calls.proofs.calling.+call.Goals.{In-Missing, In_ok-grant-in-Missing}
use Rattle.assise_machine_calls.proofs.calling.+call.Goals as goal

pub get-known-requires : goal.get-known-requires
get-known-requires g t c = record { client = call_number (value_of c.args.state.now) c.args.client c.args.op.now c.requires.fine }

pub inode_number-fresh-requires : goal.inode_number-fresh-requires
inode_number-fresh-requires g t c =
    let low = call_made (value_of c.args.state.now) c.args.client c.args.op.now c.requires.invariant.shape c.requires.fine c.requires.invariant.holds in
    record { few = omega (arith, low, c.made.ensures, ap (λ x. x.made) c.get-known.ensures) }

pub view-view-requires-clause-client : goal.view-view-requires-clause-client
view-view-requires-clause-client g t c = call_number (value_of c.args.state.now) c.args.client c.args.op.now c.requires.fine

pub view-view-requires-clause-lives : goal.view-view-requires-clause-lives
view-view-requires-clause-lives g t c = call_unfailed (value_of c.args.state.now) c.args.client c.args.op.now c.requires.invariant.shape c.requires.fine

pub returns-in_err-outcome-clause-happens : goal.returns-in_err-outcome-clause-happens
returns-in_err-outcome-clause-happens g t c =
    let error = err_from_is_err_and c.from_residual.result c.from_residual.ensures.1 in
    let m = observed (value_of c.args.state.now) in
    lacking_as m m c.args.client c.args.op.now (turn_answer c.from_residual.result) error.0 c.requires.fine
    (ap turn_answer error.1) error.2 refl

pub lease_changes-requires-clause-visited : goal.lease_changes-requires-clause-visited
lease_changes-requires-clause-visited g t c =
    let s = value_of c.args.state.now in
    let planned =
    planned_now s c.args.client c.args.op.now c.requires.invariant.shape c.requires.invariant.holds c.requires.fine c.inode_number-fresh.result
    (c.inode_number-fresh.ensures ∙ ap (inode_number c.args.client) (c.made.ensures ∙ ap (λ x. x.made) c.get-known.ensures))
    (shown c.in_ok-outcome.field-0) c.view-view.result.client (levels_of c.view-view.result.leases.now).clients c.view-view.result.inodes
    c.in_ok-outcome.ensures.exact c.view-view.ensures.client (ap (λ l. (levels_of l).clients) c.view-view.ensures.leases) c.view-view.ensures.inodes in
    visited_now s c.args.client c.args.op.now c.requires.invariant.shape c.requires.invariant.holds c.requires.fine
    (step_in c.in-Ready.outcome)
    (sym planned ∙ ap shown c.in-Ready.is)

pub returns-in_err-lease_changes-in-Ready-clause-happens : goal.returns-in_err-lease_changes-in-Ready-clause-happens
returns-in_err-lease_changes-in-Ready-clause-happens g t c =
    let error = err_from_is_err_and c.from_residual-in_err-lease_changes-in-Ready.result c.from_residual-in_err-lease_changes-in-Ready.ensures.1 in
    subst (λ a. Calling (machine_of c.args.state.now) c.args.client c.args.op.now a (machine_of c.lease_changes.new.state))
    (sym (ap turn_answer error.1 ∙ ap refused error.2)) c.in_err-lease_changes-in-Ready.ensures.refused

pub returns-then-not-branch-clause-happens : goal.returns-then-not-branch-clause-happens
returns-then-not-branch-clause-happens g t c = c.in_ok-lease_changes-in-Ready.ensures.waits c.if-not-branch.true

pub returns-else-not-branch-clause-happens : goal.returns-else-not-branch-clause-happens
returns-else-not-branch-clause-happens g t c =
    (c.in_ok-lease_changes-in-Ready.ensures.all c.if-not-branch.false).onward (turn_answer c.commit.result)
    (machine_of c.commit.new.state) c.commit.ensures.happens

-- the first lease that it lacks is of a visit
missing_now : (g : Over) (t : _) (c : In-Missing g t) →
    first_missing (served (value_of c.args.state.now) c.args.client) (wants (next_step (world_of (value_of c.args.state.now)) c.args.client c.args.op.now))
    ≡ Some (c.in-Missing.inode, c.in-Missing.mode)
missing_now g t c =
    let s = value_of c.args.state.now in
    let planned =
    planned_now s c.args.client c.args.op.now c.requires.invariant.shape c.requires.invariant.holds c.requires.fine c.inode_number-fresh.result
    (c.inode_number-fresh.ensures ∙ ap (inode_number c.args.client) (c.made.ensures ∙ ap (λ x. x.made) c.get-known.ensures))
    (shown c.in_ok-outcome.field-0) c.view-view.result.client (levels_of c.view-view.result.leases.now).clients c.view-view.result.inodes
    c.in_ok-outcome.ensures.exact c.view-view.ensures.client (ap (λ l. (levels_of l).clients) c.view-view.ensures.leases) c.view-view.ensures.inodes in
    lacks_visit s c.args.client c.args.op.now c.requires.invariant.shape c.requires.invariant.holds c.requires.fine c.in-Missing.inode c.in-Missing.mode
    (sym planned ∙ ap shown c.in-Missing.is)

pub returns-in_err-ask-in-Missing-clause-happens : goal.returns-in_err-ask-in-Missing-clause-happens
returns-in_err-ask-in-Missing-clause-happens g t c =
    let error = err_from_is_err_and c.from_residual-in_err-ask-in-Missing.result c.from_residual-in_err-ask-in-Missing.ensures.1 in
    lacking_as (machine_of c.args.state.now) (machine_of c.ask.new.state) c.args.client c.args.op.now
    (turn_answer c.from_residual-in_err-ask-in-Missing.result) error.0 c.requires.fine
    (ap turn_answer error.1) error.2 c.in_err-ask-in-Missing.ensures.err

pub returns-then-not-is_free-clause-happens : goal.returns-then-not-is_free-clause-happens
unfolding observed world_of
returns-then-not-is_free-clause-happens g t c =
    awaited (observed (value_of c.args.state.now)) (machine_of c.ask.new.state) c.args.client c.args.op.now c.in-Missing.inode c.in-Missing.mode
    c.home-home.result c.requires.fine (missing_now g t (goal.at.returns-then-not-is_free-clause-happens g t c).In-Missing) c.in_ok-ask-in-Missing.ensures.ok

pub grant-requires-clause-at_home : goal.grant-requires-clause-at_home
grant-requires-clause-at_home g t c =
    home_known (value_of c.args.state.now) c.requires.invariant.holds c.args.client
    (call_number (value_of c.args.state.now) c.args.client c.args.op.now c.requires.fine)
    ∙ ap Some (sym (c.home-home.ensures ∙ ap (λ x. x.home) c.get-known.ensures))

pub returns-in_err-grant-in-Missing-clause-happens : goal.returns-in_err-grant-in-Missing-clause-happens
returns-in_err-grant-in-Missing-clause-happens g t c =
    let error = err_from_is_err_and c.from_residual-in_err-grant-in-Missing.result c.from_residual-in_err-grant-in-Missing.ensures.1 in
    let s = value_of c.args.state.now in
    let same : levels_of c.grant.new.self ≡ s.levels = same_levels s.levels (levels_of c.grant.new.self) c.in_err-grant-in-Missing.ensures.err in
    lacking_as (observed s) (observed (after_leases s (levels_of c.grant.new.self))) c.args.client c.args.op.now
    (turn_answer c.from_residual-in_err-grant-in-Missing.result) error.0 c.requires.fine
    (ap turn_answer error.1) error.2 (ap (λ l. observed (after_leases s l)) same)

-- it was free, and is granted
granted_now : (g : Over) (t : _) (c : In_ok-grant-in-Missing g t) →
    (is_free_for (value_of c.args.state.now).levels c.args.client (client_in (value_of c.args.state.now).clients c.args.client).home
    c.in-Missing.inode c.in-Missing.mode ≡ true)
    × IsGranted (value_of c.args.state.now).levels (levels_of c.grant.new.self) c.args.client (client_in (value_of c.args.state.now).clients c.args.client).home
    c.in-Missing.inode c.in-Missing.mode
granted_now g t c =
    let s = value_of c.args.state.now in
    let home = c.home-home.ensures ∙ ap (λ x. x.home) c.get-known.ensures in (
      subst (λ n. is_free_for s.levels c.args.client n c.in-Missing.inode c.in-Missing.mode ≡ true) home (sym c.is_free.ensures ∙ c.if-not-is_free.false),
      subst (λ n. IsGranted s.levels (levels_of c.grant.new.self) c.args.client n c.in-Missing.inode c.in-Missing.mode) home
          c.in_ok-grant-in-Missing.ensures.granted,
    )

pub call-requires : goal.call-requires
call-requires g t c =
    let s = value_of c.args.state.now in
    let levels = levels_of c.grant.new.self in
    let shape = c.requires.invariant.shape in
    let holds = c.requires.invariant.holds in
    let fine = c.requires.fine in
    let lack = missing_now g t (goal.at.call-requires g t c).In-Missing in
    let got = granted_now g t (goal.at.call-requires g t c).In_ok-grant-in-Missing in
    let fewer = fewer_then s c.args.client c.args.op.now shape holds fine c.in-Missing.inode c.in-Missing.mode levels lack got.0 got.1 in
    λ κs sub. (
      subst (λ k. unserved (served (after_leases s levels) c.args.client)
          (wants (next_step (world_of (after_leases s levels)) c.args.client c.args.op.now)) < k) c.decreases fewer,
      (
        sub,
        (
          fine_then s c.args.client c.args.op.now shape holds fine c.in-Missing.inode c.in-Missing.mode levels lack got.0 got.1,
          (
            c.requires.call,
            record {
              holds = holds_then s c.args.client c.args.op.now shape holds fine c.in-Missing.inode c.in-Missing.mode levels lack got.0 got.1 c.requires.call;
              shape = leases_shaped s levels shape;
              noted =
                  noted_then s c.args.client c.args.op.now shape holds fine c.in-Missing.inode c.in-Missing.mode levels lack got.0 got.1
                  c.requires.invariant.noted;
            },
          ),
        ),
      ),
    )

pub returns-in_ok-grant-in-Missing-clause-happens : goal.returns-in_ok-grant-in-Missing-clause-happens
returns-in_ok-grant-in-Missing-clause-happens g t c =
    let lack = missing_now g t (goal.at.returns-in_ok-grant-in-Missing-clause-happens g t c).In-Missing in
    let got = granted_now g t (goal.at.returns-in_ok-grant-in-Missing-clause-happens g t c).In_ok-grant-in-Missing in
    goes_on (value_of c.args.state.now) c.args.client c.args.op.now c.requires.invariant.shape c.requires.invariant.holds c.requires.fine c.in-Missing.inode
    c.in-Missing.mode (levels_of c.grant.new.self) lack got.0 got.1 (turn_answer c.call.result) (machine_of c.call.new.state) c.call.ensures.happens

pub returns-in_err-grant-in-Missing-clause-noted : goal.returns-in_err-grant-in-Missing-clause-noted
returns-in_err-grant-in-Missing-clause-noted g t c =
    let s = value_of c.args.state.now in
    subst (λ l. CutsInvariant (after_leases s l)) (sym (same_levels s.levels (levels_of c.grant.new.self) c.in_err-grant-in-Missing.ensures.err))
    c.requires.invariant.noted

pub returns-in_err-outcome-clause-cuts : goal.returns-in_err-outcome-clause-cuts
returns-in_err-outcome-clause-cuts g t c =
    nothing_revoked g.C.Revokes.answers (stored_by c.args.state.now.leases) (machine_of c.args.state.now) (machine_of c.args.state.now) (λ d i. refl)

pub returns-else-not-branch-clause-cuts : goal.returns-else-not-branch-clause-cuts
unfolding observed leases_of
returns-else-not-branch-clause-cuts g t c =
    let leased = c.in_ok-lease_changes-in-Ready.ensures.all c.if-not-branch.false in
    nothing_revoked g.C.Revokes.answers (stored_by c.args.state.now.leases) (machine_of c.args.state.now) (machine_of c.commit.new.state)
    (λ d i. ap (λ l. is_revoked (lease_of ((levels_of l).clients i) d)) c.commit.ensures.leases ∙ leased.unrevoked d i)

pub returns-in_err-grant-in-Missing-clause-cuts : goal.returns-in_err-grant-in-Missing-clause-cuts
returns-in_err-grant-in-Missing-clause-cuts g t c =
    let s = value_of c.args.state.now in
    let same : levels_of c.grant.new.self ≡ s.levels = same_levels s.levels (levels_of c.grant.new.self) c.in_err-grant-in-Missing.ensures.err in
    nothing_revoked g.C.Revokes.answers (stored_by c.args.state.now.leases) (observed s) (observed (after_leases s (levels_of c.grant.new.self)))
    (same_levels_revoked s (levels_of c.grant.new.self) same)

pub returns-in_ok-grant-in-Missing-clause-cuts : goal.returns-in_ok-grant-in-Missing-clause-cuts
returns-in_ok-grant-in-Missing-clause-cuts g t c =
    let lack = missing_now g t (goal.at.returns-in_ok-grant-in-Missing-clause-cuts g t c).In-Missing in
    let got = granted_now g t (goal.at.returns-in_ok-grant-in-Missing-clause-cuts g t c).In_ok-grant-in-Missing in
    cuts_then (value_of c.args.state.now) c.args.client c.args.op.now c.requires.invariant.shape c.requires.invariant.holds c.requires.fine c.in-Missing.inode
    c.in-Missing.mode (levels_of c.grant.new.self) lack got.0 got.1 g.C.Revokes.answers (stored_by c.args.state.now.leases) (stored_by c.grant.new.self)
    (machine_of c.call.new.state) c.grant.ensures.revokers c.call.ensures.cuts
