use Rattle.assise_machine_calls.proofs.Common.{◌∙◌, Ok, ap, sym, arith, value_of, away_other}
use Rattle.assise_machine_calls.proofs.OpenFaults.{all_opened, may_open, no_node, node_away}
use Rattle.assise_machine_calls.proofs.faults.open_refusal.Goals as goal

pub returns-in-Err : goal.returns-in-Err
returns-in-Err g c = sym (no_node (value_of c.args.state.now) c.args.node c.in-Err.refusal (sym c.phase.ensures ∙ c.in-Err.is))

pub returns-in-Down : goal.returns-in-Down
returns-in-Down g c = sym (node_away (value_of c.args.state.now) c.args.node c.in-Ok.phase (sym c.phase.ensures ∙ c.in-Ok.is)
    (away_other c.in-Ok.phase c.in-Down.is))

pub returns-in-Full : goal.returns-in-Full
returns-in-Full g c = sym (all_opened (value_of c.args.state.now) c.args.node (sym c.phase.ensures ∙ c.in-Ok.is ∙ ap Ok c.in-Full.is)
    (omega (arith, c.len.ensures, c.if-len.true)))

pub returns-in-Full-2 : goal.returns-in-Full-2
returns-in-Full-2 g c = sym (may_open (value_of c.args.state.now) c.args.node (sym c.phase.ensures ∙ c.in-Ok.is ∙ ap Ok c.in-Full-2.is)
    (omega (arith, c.len.ensures, c.if-len.false)))
