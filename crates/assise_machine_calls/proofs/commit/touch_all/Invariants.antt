use Rattle.assise_machine_calls.proofs.Common.{◌≡◌}
use Rattle.assise_machine_calls.proofs.commit.touch_all.Given as goal

abbrev pub invariant-loop-inode : goal.invariant-loop-inode
invariant-loop-inode l = l.nodes ≡ l.initial.nodes
