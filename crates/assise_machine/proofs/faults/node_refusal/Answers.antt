use Rattle.assise_machine.proofs.Common.{◌∙◌, Ok, ap, sym, WrongPhase, standing_of, membership, observed}
use Rattle.assise_machine_state.proofs.Shared.NodesAway.{away_other, away_refused, full_served, none_refused}
use Rattle.assise_machine.proofs.faults.node_refusal.Goals as goal

pub returns-in-Err : goal.returns-in-Err
unfolding observed
returns-in-Err g c = sym (none_refused WrongPhase (standing_of (membership c.args.state.now.members).nodes c.args.node) c.in-Err.refusal
    (sym c.phase.ensures ∙ c.in-Err.is))

pub returns-in-Full : goal.returns-in-Full
unfolding observed
returns-in-Full g c = sym (full_served WrongPhase (standing_of (membership c.args.state.now.members).nodes c.args.node)
    (sym c.phase.ensures ∙ c.in-Ok.is ∙ ap Ok c.in-Full.is))

pub returns-in-Down : goal.returns-in-Down
unfolding observed
returns-in-Down g c =
    sym (away_refused WrongPhase (standing_of (membership c.args.state.now.members).nodes c.args.node) c.in-Ok.phase (sym c.phase.ensures ∙ c.in-Ok.is)
    (away_other c.in-Ok.phase c.in-Down.is))
