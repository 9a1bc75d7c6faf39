use Rattle.assise_machine.proofs.Common.{length}
use Rattle.assise_machine.proofs.delivery.+has_marks.Given as goal

abbrev pub decreases-has_marks : goal.decreases-has_marks
decreases-has_marks l = length l.marks.now
