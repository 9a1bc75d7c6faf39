use Rattle.assise_machine_state.proofs.Common.{arith}
use Rattle.assise_machine_state.proofs.Shared.LogChanges.{changed_log, log_found, refused_back}
use Rattle.assise_machine_state.proofs.nodes.Nodes.append.Goals as goal

pub append-requires-clause-number_fits : goal.append-requires-clause-number_fits
append-requires-clause-number_fits c = grind (arith, log_found)

pub returns : goal.returns
returns c = grind (arith, log_found, changed_log, refused_back)
