use Rattle.assise_digest.proofs.overlay.Overlay.tree.Given as goal

abbrev pub ghost-tree_of : goal.ghost-tree_of
ghost-tree_of g a = g.t
