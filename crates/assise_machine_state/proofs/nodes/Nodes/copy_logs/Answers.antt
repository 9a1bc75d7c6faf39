use Rattle.assise_machine_state.proofs.Common.{arith, on_err_weaker}
use Rattle.assise_machine_state.proofs.Shared.LogChanges.{refused_back}
use Rattle.assise_machine_state.proofs.nodes.Nodes.copy_logs.Goals as goal

pub returns-then-is_err-clause-err : goal.returns-then-is_err-clause-err
returns-then-is_err-clause-err c = grind (arith, refused_back, on_err_weaker)
