use Rattle.assise_digest.proofs.region.Region.rebuild.Given as goal

abbrev pub ghost-tree : goal.ghost-tree
ghost-tree g a = g.t
