use Rattle.assise_machine_state.proofs.Common.{arith, on_ok_weaker}
use Rattle.assise_machine_state.proofs.Shared.HotCapacities.{hot_as}
use Rattle.assise_machine_state.proofs.Shared.LogChanges.{refused_back}
use Rattle.assise_machine_state.proofs.nodes.Nodes.set_hot_capacity.Goals as goal

pub returns-clause-err : goal.returns-clause-err
returns-clause-err c = grind (arith, refused_back)

pub returns-clause-ok : goal.returns-clause-ok
returns-clause-ok c = grind (arith, on_ok_weaker, hot_as)
