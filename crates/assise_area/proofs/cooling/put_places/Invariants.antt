use Rattle.assise_area.proofs.Common.{Some, [], take, regular, AreWritten}
use Rattle.assise_area.proofs.cooling.put_places.Given as goal

abbrev pub invariant-loop-number : goal.invariant-loop-number
invariant-loop-number l = AreWritten (take l.number-index l.numbers) (Some (regular [])) l.fn.cold.entries l.cold.entries
