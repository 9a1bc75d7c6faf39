use Rattle.assise_machine_state.proofs.Common.{arith}
use Rattle.assise_machine_state.proofs.Shared.LogChanges.{log_found}
use Rattle.assise_machine_state.proofs.nodes.Nodes.log.Goals as goal

pub returns : goal.returns
returns c = grind (arith, log_found)
