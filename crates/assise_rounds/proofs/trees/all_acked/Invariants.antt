use Rattle.assise_rounds.proofs.Common.{machine}
use Rattle.assise_rounds.proofs.Acked.{AreAckedTo}
use Rattle.assise_rounds.proofs.trees.all_acked.Given as goal

abbrev pub invariant-loop-client : goal.invariant-loop-client
invariant-loop-client g l = AreAckedTo (machine l.cluster).world l.client l.acked.items
