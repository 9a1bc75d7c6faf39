use Rattle.assise_digest.proofs.Common.{◌≡◌, ◌++◌, length, Entries, dir, names_of, subtrees_of}
use Rattle.assise_digest.proofs.spelled.directory_of.Given as goal

-- the last names are entries of the tree, each with one of the last trees
abbrev pub invariant-loop-name : goal.invariant-loop-name
invariant-loop-name l = (es : Entries) × (l.tree ≡ dir es) × (l.rest ++ names_of es ≡ l.names) × (l.trees.items ++ subtrees_of es ≡ l.fn.trees.items)

abbrev pub decreases-loop-name : goal.decreases-loop-name
decreases-loop-name l = length l.rest
