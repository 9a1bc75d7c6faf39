use Rattle.assise_machine_state.proofs.Common.{arith}
use Rattle.assise_machine_state.proofs.Shared.LogChanges.{digested_put, log_found, refused_back}
use Rattle.assise_machine_state.proofs.nodes.Nodes.digest_some.Goals as goal

pub returns : goal.returns
returns c = grind (arith, log_found, digested_put, refused_back)
