use Rattle.assise_renewal.proofs.Common.{machine, IsLedBy, IsOfFirst}
use Rattle.assise_renewal.proofs.filling.write_all.Given as goal

abbrev pub invariant-loop-piece : goal.invariant-loop-piece
invariant-loop-piece g l = IsLedBy IsOfFirst (machine l.fn.cluster) (machine l.cluster)
