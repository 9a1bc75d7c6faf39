use Rattle.assise_rounds.proofs.Common.{tree_after_calls, opening, ops, numbered_replicated, state_of, machine}
use Rattle.assise_rounds.proofs.trees.tree_at.Given as goal

abbrev pub ghost-tree_of : goal.ghost-tree_of
ghost-tree_of g a = tree_after_calls opening (ops (numbered_replicated (state_of (machine a.cluster.now))))
