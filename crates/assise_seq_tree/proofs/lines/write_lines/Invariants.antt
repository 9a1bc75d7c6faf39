use Rattle.assise_seq_tree.proofs.Common.{◌≡◌, ◌++◌, [], List, ℕ, length, HasWritten, IsPlainFormatter, places_of, map_entries}
use Rattle.assise_seq_tree.proofs.TreePrinted.{lines_of}
use Rattle.assise_seq_tree.proofs.lines.write_lines.Given as goal

abbrev pub decreases-loop-name : goal.decreases-loop-name
decreases-loop-name g l = length l.traversal.left

-- what was written, and the lines of what is left, are the text
abbrev pub invariant-loop-name : goal.invariant-loop-name
invariant-loop-name g l = (done : List ℕ) × (done ++ lines_of l.traversal.left ≡ lines_of (places_of [] (map_entries l.fn.entries.entries)))
    × (IsPlainFormatter l.initial.f → HasWritten g.W.Write.write_str_gives l.initial.f done l.f)
