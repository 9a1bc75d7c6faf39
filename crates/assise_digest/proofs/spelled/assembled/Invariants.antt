use Rattle.assise_digest.proofs.Common.{◌≡◌, ◌++◌, length, map, reverse, postorder, shape}
use Rattle.assise_digest.proofs.Forests.{forest}
use Rattle.assise_digest.proofs.spelled.assembled.Given as goal

-- the places of the trees, and then those that are left
abbrev pub invariant-loop-place : goal.invariant-loop-place
invariant-loop-place g l = forest l.trees.items ++ reverse (map shape l.places.items) ≡ postorder g.t

abbrev pub decreases-loop-place : goal.decreases-loop-place
decreases-loop-place g l = length l.places.items
