use Rattle.assise_fault_script.proofs.Common.{◌+◌, ◌≤◌, length, lines_of}
use Rattle.assise_fault_script.proofs.Steps.{IsReadTo}
use Rattle.assise_fault_script.proofs.parse.parse.Given as goal

abbrev pub invariant-loop-line : goal.invariant-loop-line
invariant-loop-line l = record {
  read : IsReadTo l.fn.bytes l.progress (lines_of l.rest);
  few : l.progress.number + length l.rest ≤ length l.fn.bytes + 1;
}

abbrev pub decreases-loop-line : goal.decreases-loop-line
decreases-loop-line l = length l.rest
