use Rattle.assise_manager.proofs.Common.{length}
use Rattle.assise_manager.proofs.node.+reserve_all.Given as goal

abbrev pub decreases-reserve_all : goal.decreases-reserve_all
decreases-reserve_all l = length l.nodes.now
