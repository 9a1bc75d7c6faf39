use Rattle.assise_seq_tree.proofs.Common.{◌≡◌, ◌↔◌, ArePairsSame, size_of_pairs}
use Rattle.assise_seq_tree.proofs.sameness.is_same.Given as goal

abbrev pub decreases-loop-first : goal.decreases-loop-first
decreases-loop-first l = size_of_pairs l.pending.items

abbrev pub invariant-loop-first : goal.invariant-loop-first
invariant-loop-first l = ArePairsSame l.pending.items ↔ (l.fn.tree ≡ l.fn.other)
