use Rattle.assise_digest.proofs.spelled.tree_of.Given as goal

abbrev pub ghost-places_of : goal.ghost-places_of
ghost-places_of g a = g.t

abbrev pub ghost-assembled : goal.ghost-assembled
ghost-assembled g a = g.t
