use Rattle.assise_machine_calls.proofs.Common.{◌≡◌, true, refl, Some, IfErr, ap, sym, subst, ◌∙◌, err_from_is_err_and, Write, Refusal, levels_of, stored_by}
use Rattle.assise_machine_calls.proofs.Common.{IsGranted, is_free_for, Calling, refused, after_leases, CutsInvariant, ShapeInvariant, observed, world_of}
use Rattle.assise_machine_calls.proofs.Common.{StateValue, leases_of, leases_shaped, machine_of, value_of, GotLeases, step_in}
use Rattle.assise_machine_calls.proofs.AnsweredCuts.{nothing_revoked}
use Rattle.assise_machine_calls.proofs.CallCommits.{call_number}
use Rattle.assise_machine_calls.proofs.LeaseFacts.{home_known}
use Rattle.assise_machine_calls.proofs.CallTries.{awaited, got_then, lacking_as, lacks_change, noted_then, same_levels, same_levels_revoked}
use Rattle.assise_machine_calls.proofs.calling.lease_change.Given.{Over}
use Rattle.assise_machine_calls.proofs.calling.lease_change.Goals.{In_ok-grant}
use Rattle.assise_machine_calls.proofs.calling.lease_change.Goals as goal

pub get-requires : goal.get-requires
get-requires g c = record { client = call_number (value_of c.args.state.now) c.args.client c.args.op.now c.requires.fine }

pub returns-in_err-ask-clause-refused : goal.returns-in_err-ask-clause-refused
returns-in_err-ask-clause-refused g c =
    let error = err_from_is_err_and c.from_residual.result c.from_residual.ensures.1 in
    let m = machine_of c.args.state.now in
    let P : Refusal → Type 0 = λ e. Calling m c.args.client c.args.op.now (refused e) (machine_of c.ask.new.state) in
    subst (λ o. IfErr o P) (sym error.1)
    (lacking_as m (machine_of c.ask.new.state) c.args.client c.args.op.now (refused error.0) error.0 c.requires.fine refl
    error.2 c.in_err-ask.ensures.err)

pub returns-then-not-is_free-clause-waits : goal.returns-then-not-is_free-clause-waits
unfolding observed world_of
returns-then-not-is_free-clause-waits g c = λ is.
    let s = value_of c.args.state.now in
    let lack =
    lacks_change s c.args.client c.args.op.now c.requires.invariant.shape c.requires.invariant.holds c.requires.fine (step_in c.args.outcome.now)
    c.args.inode c.requires.visited c.requires.lacked in
    awaited (observed s) (machine_of c.ask.new.state) c.args.client c.args.op.now c.args.inode Write c.home.result c.requires.fine
    lack c.in_ok-ask.ensures.ok

pub grant-requires-clause-at_home : goal.grant-requires-clause-at_home
grant-requires-clause-at_home g c =
    home_known (value_of c.args.state.now) c.requires.invariant.holds c.args.client
    (call_number (value_of c.args.state.now) c.args.client c.args.op.now c.requires.fine)
    ∙ ap Some (sym (c.home.ensures ∙ ap (λ x. x.home) c.get.ensures))

pub returns-in_err-grant-clause-refused : goal.returns-in_err-grant-clause-refused
returns-in_err-grant-clause-refused g c =
    let error = err_from_is_err_and c.from_residual-in_err-grant.result c.from_residual-in_err-grant.ensures.1 in
    let s = value_of c.args.state.now in
    let same : levels_of c.grant.new.self ≡ s.levels = same_levels s.levels (levels_of c.grant.new.self) c.in_err-grant.ensures.err in
    let after = observed (after_leases s (levels_of c.grant.new.self)) in
    let P : Refusal → Type 0 = λ e. Calling (observed s) c.args.client c.args.op.now (refused e) after in
    subst (λ o. IfErr o P) (sym error.1)
    (lacking_as (observed s) after c.args.client c.args.op.now (refused error.0) error.0 c.requires.fine refl
    error.2 (ap (λ l. observed (after_leases s l)) same))

pub returns-in_err-grant-clause-cuts : goal.returns-in_err-grant-clause-cuts
returns-in_err-grant-clause-cuts g c =
    let s = value_of c.args.state.now in
    let same : levels_of c.grant.new.self ≡ s.levels = same_levels s.levels (levels_of c.grant.new.self) c.in_err-grant.ensures.err in
    nothing_revoked g.C.Revokes.answers (stored_by c.args.state.now.leases) (observed s) (observed (after_leases s (levels_of c.grant.new.self)))
    (same_levels_revoked s (levels_of c.grant.new.self) same)

-- the state once the lease is granted
abbrev granted_state : (g : Over) → In_ok-grant g → StateValue
granted_state g c = after_leases (value_of c.args.state.now) (levels_of c.grant.new.self)

-- the client has the lease
granted_now : (g : Over) (c : In_ok-grant g) →
    GotLeases (machine_of c.args.state.now) c.args.client c.args.op.now (step_in c.args.outcome.now) (observed (granted_state g c))
    × ShapeInvariant (granted_state g c) × CutsInvariant (granted_state g c)
unfolding observed world_of
granted_now g c =
    let s = value_of c.args.state.now in
    let levels = levels_of c.grant.new.self in
    let home = c.home.ensures ∙ ap (λ x. x.home) c.get.ensures in
    let shape = c.requires.invariant.shape in
    let holds = c.requires.invariant.holds in
    let fine = c.requires.fine in
    let step = step_in c.args.outcome.now in
    let lack = lacks_change s c.args.client c.args.op.now shape holds fine step c.args.inode c.requires.visited c.requires.lacked in
    let free = subst (λ n. is_free_for s.levels c.args.client n c.args.inode Write ≡ true) home (sym c.is_free.ensures ∙ c.if-not-is_free.false) in
    let granted = subst (λ n. IsGranted s.levels levels c.args.client n c.args.inode Write) home c.in_ok-grant.ensures.granted in (
      got_then s c.args.client c.args.op.now shape holds fine c.args.inode Write levels lack free granted c.requires.call step c.requires.visited,
      leases_shaped s levels shape,
      noted_then s c.args.client c.args.op.now shape holds fine c.args.inode Write levels lack free granted c.requires.invariant.noted,
    )

pub returns-clause-got : goal.returns-clause-got
returns-clause-got g c = λ is. (granted_now g (goal.at.returns-clause-got g c).In_ok-grant).0

pub returns-clause-leased : goal.returns-clause-leased
unfolding observed leases_of
returns-clause-leased g c = λ is. c.in_ok-grant.ensures.granted.held

pub returns-clause-cuts : goal.returns-clause-cuts
returns-clause-cuts g c =
    nothing_revoked g.C.Revokes.answers (stored_by c.args.state.now.leases) (machine_of c.args.state.now)
    (observed (after_leases (value_of c.args.state.now) (levels_of c.grant.new.self))) (granted_now g (goal.at.returns-clause-cuts g c).In_ok-grant).0.unrevoked

pub returns-clause-shape : goal.returns-clause-shape
returns-clause-shape g c = (granted_now g (goal.at.returns-clause-shape g c).In_ok-grant).1

pub returns-clause-noted : goal.returns-clause-noted
returns-clause-noted g c = (granted_now g (goal.at.returns-clause-noted g c).In_ok-grant).2
