use Rattle.assise_rounds.proofs.trees.tree_of.Given as goal

abbrev pub ghost-rebuild : goal.ghost-rebuild
ghost-rebuild g a = g.tree
