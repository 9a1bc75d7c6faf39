use Rattle.assise_files.proofs.Common.{◌≡◌, ◌++◌, List, length, EntryValue, AreFound}
use Rattle.assise_files.proofs.redo.lost_changes.Given as goal

-- what is found in the entries behind those that are left
abbrev pub invariant-loop-entry : goal.invariant-loop-entry
invariant-loop-entry l = (later : List EntryValue) × (l.rest ++ later ≡ l.entries) × AreFound l.client l.first later l.lost

abbrev pub decreases-loop-entry : goal.decreases-loop-entry
decreases-loop-entry l = length l.rest
