use Rattle.assise_machine.proofs.Common.{length}
use Rattle.assise_machine.proofs.delivery.+goes_on_with.Given as goal

abbrev pub decreases-goes_on_with : goal.decreases-goes_on_with
decreases-goes_on_with l = length l.records.now
