use Rattle.assise_renewal.proofs.Common.{AreUp}
use Rattle.assise_renewal.proofs.renewal.are_up.Given as goal

abbrev pub invariant-loop-node : goal.invariant-loop-node
invariant-loop-node g l = AreUp l.cluster l.node
