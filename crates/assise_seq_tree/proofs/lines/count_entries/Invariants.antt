use Rattle.assise_seq_tree.proofs.Common.{◌≡◌, ◌<◌, ◌^◌, [], length, counted, places_of, map_entries}
use Rattle.assise_seq_tree.proofs.TreePrinted.{counted_with}
use Rattle.assise_seq_tree.proofs.lines.count_entries.Given as goal

abbrev pub decreases-loop-name : goal.decreases-loop-name
decreases-loop-name l = length l.traversal.left

abbrev pub invariant-loop-name : goal.invariant-loop-name
invariant-loop-name l = record {
  fits : l.count < 2 ^ 64;
  with_left : counted_with l.count l.traversal.left ≡ counted (places_of [] (map_entries l.fn.entries.entries));
}
