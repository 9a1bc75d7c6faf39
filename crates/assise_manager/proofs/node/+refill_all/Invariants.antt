use Rattle.assise_manager.proofs.Common.{length}
use Rattle.assise_manager.proofs.node.+refill_all.Given as goal

abbrev pub decreases-refill_all : goal.decreases-refill_all
decreases-refill_all l = length l.nodes.now
