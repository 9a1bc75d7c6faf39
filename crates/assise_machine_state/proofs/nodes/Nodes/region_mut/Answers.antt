use Rattle.assise_machine_state.proofs.Common.{arith}
use Rattle.assise_machine_state.proofs.Shared.ItemSeen.{is_set}
use Rattle.assise_machine_state.proofs.Shared.LogChanges.{region_found}
use Rattle.assise_machine_state.proofs.nodes.Nodes.region_mut.Goals as goal

pub returns : goal.returns
returns c = grind (arith, is_set, region_found)
