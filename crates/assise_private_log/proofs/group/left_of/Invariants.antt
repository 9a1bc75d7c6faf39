use Rattle.assise_private_log.proofs.Common.{◌≡◌, ◌+◌, ◌≤◌, ◌++◌, length, left_of, all_effects}
use Rattle.assise_private_log.proofs.group.left_of.Given as goal

-- what was left so far, and of the rest
abbrev pub invariant-loop-effect : goal.invariant-loop-effect
invariant-loop-effect l = record {
  left : l.left.items ++ left_of l.rest (all_effects l.later) ≡ left_of l.effects (all_effects l.later);
  few : length l.left.items + length l.rest ≤ length l.effects;
}

abbrev pub decreases-loop-effect : goal.decreases-loop-effect
decreases-loop-effect l = length l.rest
