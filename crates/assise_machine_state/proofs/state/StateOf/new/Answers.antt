use Rattle.assise_machine_state.proofs.Common.{arith}
use Rattle.assise_machine_state.proofs.Shared.Noted.{none_noted}
use Rattle.assise_machine_state.proofs.StartObserved.{starts, starts_shaped}
use Rattle.assise_machine_state.proofs.state.StateOf.new.Goals as goal

pub returns-clause-begun : goal.returns-clause-begun
returns-clause-begun g c = grind (arith, starts)

pub returns-clause-shape : goal.returns-clause-shape
returns-clause-shape g c =
    starts_shaped _ c.args.nodes c.args.hot_capacity c.in_ok-new.ensures.new c.in_ok-new-2.ensures.full c.in_ok-new-3.ensures.none c.new-4.ensures.levels
    c.new-5.ensures.items c.new-6.ensures c.requires.few_nodes c.requires.least_limit c.requires.most_limit

pub returns-clause-noted : goal.returns-clause-noted
returns-clause-noted g c = search none_noted
