use Rattle.assise_machine_state.proofs.Common.{arith}
use Rattle.assise_machine_state.proofs.Regions.{one_region_more}
use Rattle.assise_machine_state.proofs.nodes.Nodes.new.Goals as goal

pub loop-preserved : goal.loop-preserved
loop-preserved c = grind (arith, one_region_more)
