use Rattle.assise_seq_tree.proofs.SameTrees.{on_same, same_directories}
use Rattle.assise_seq_tree.proofs.sameness.is_same_but.Goals as goal

pub returns-in-Ok-Ok-clause-same : goal.returns-in-Ok-Ok-clause-same
returns-in-Ok-Ok-clause-same c =
    on_same _ _ c.have_same_names.result (same_directories _ _ _ _ c.in-Ok-Ok.ensures c.in-Ok-Ok.ensures') c.have_same_names.ensures.same
