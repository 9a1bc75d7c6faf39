use Rattle.assise_machine_state.proofs.Common.{length}
use Rattle.assise_machine_state.proofs.nodes.+begin_all.Given as goal

abbrev pub decreases-begin_all : goal.decreases-begin_all
decreases-begin_all l = length l.regions.now
