use Rattle.assise_renewal.proofs.Common.{length, machine, IsLedBy, IsOfFirst}
use Rattle.assise_renewal.proofs.filling.fill_directory.Given as goal

abbrev pub decreases-loop-name : goal.decreases-loop-name
decreases-loop-name g l = length l.traversal.left

abbrev pub invariant-loop-name : goal.invariant-loop-name
invariant-loop-name g l = IsLedBy IsOfFirst (machine l.fn.cluster) (machine l.cluster)
