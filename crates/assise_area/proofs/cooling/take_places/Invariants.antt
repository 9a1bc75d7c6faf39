use Rattle.assise_area.proofs.Common.{None, take, AreWritten}
use Rattle.assise_area.proofs.cooling.take_places.Given as goal

abbrev pub invariant-loop-number : goal.invariant-loop-number
invariant-loop-number l = AreWritten (take l.number-index l.numbers) None l.fn.cold.entries l.cold.entries
