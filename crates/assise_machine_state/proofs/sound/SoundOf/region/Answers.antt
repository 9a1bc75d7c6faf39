use Rattle.assise_machine_state.proofs.Common.{◌≡◌, ◌∙◌, Ok, Some, None, true, ap, sym, arith, err_from_is_err_and, Refusal, standing_of, membership}
use Rattle.assise_machine_state.proofs.Common.{is_full_in, observed, value_of}
use Rattle.assise_names.specs.declared.refusal.Refusal.TheVariants.{WrongPhase}
use Rattle.assise_machine_state.proofs.Shared.NodesAway.{away_other, away_refused, full_served, none_refused, phase_full}
use Rattle.assise_machine_state.proofs.Shared.Fullness.{full_number}
use Rattle.assise_machine_state.proofs.sound.SoundOf.region.Goals as goal

same_refusal : (r e : Refusal) → Some r ≡ Some e → r ≡ e
same_refusal r e same = cc

not_both : (r : Refusal) → Some r ≡ None → ⊥
not_both r same = cc

pub returns-in_err-phase : goal.returns-in_err-phase
unfolding observed
returns-in_err-phase g c =
    let o = standing_of (membership c.args.self.now.state.members).nodes c.args.node in
    let why = none_refused WrongPhase o c.in_err-phase.field-0.0 (sym c.phase.ensures ∙ c.in_err-phase.was) in
    let error = err_from_is_err_and c.from_residual.result c.from_residual.ensures.1 in
    (search (same_refusal, not_both, arith) parts 3)

pub region-requires : goal.region-requires
region-requires g c =
    let nodes = (membership c.args.self.now.state.members).nodes in
    let f : is_full_in nodes c.args.node ≡ true = phase_full nodes c.args.node (sym c.phase.ensures ∙ c.in_ok-phase.was ∙ ap Ok c.in-Full.is) in
    record { node = full_number (value_of c.args.self.now.state) c.args.node c.args.self.now.invariant.shape f }

pub returns-in-Full : goal.returns-in-Full
unfolding observed
returns-in-Full g c = grind (arith, full_served, not_both)

pub returns-in-Down : goal.returns-in-Down
unfolding observed
returns-in-Down g c = grind (arith, away_other, away_refused, same_refusal, not_both)
