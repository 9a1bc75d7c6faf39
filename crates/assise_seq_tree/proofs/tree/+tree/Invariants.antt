use Rattle.assise_seq_tree.proofs.Common.{◌≡◌, ◌+◌, ◌≤◌, Tree, size_of}
use Rattle.assise_seq_tree.proofs.tree.+tree.Given as goal

abbrev pub decreases-Tree::drop : goal.decreases-Tree::drop
decreases-Tree::drop l = goal.size-Tree::drop l

abbrev pub decreases-left_of : goal.decreases-left_of
decreases-left_of l = size_of l.tree

abbrev pub invariant-Tree::drop-loop-entries : goal.invariant-Tree::drop-loop-entries
invariant-Tree::drop-loop-entries l = size_of l.self ≤ size_of l.fn.self

abbrev pub decreases-Tree::drop-loop-entries : goal.decreases-Tree::drop-loop-entries
decreases-Tree::drop-loop-entries l = size_of l.self

-- the trees are as large as the two at first, and the second falls
pub record IsGoneDown (waiting tree first second : Tree) : Type 0 where
  pub sum : size_of waiting + size_of tree ≡ size_of first + size_of second
  pub falls : size_of tree ≤ size_of second

abbrev pub invariant-left_of-loop-waiting : goal.invariant-left_of-loop-waiting
invariant-left_of-loop-waiting l = IsGoneDown l.waiting l.tree l.fn.waiting l.fn.tree

abbrev pub decreases-left_of-loop-waiting : goal.decreases-left_of-loop-waiting
decreases-left_of-loop-waiting l = size_of l.tree
