use Rattle.assise_seq_tree.proofs.Shared.Moves.{at-put_disjoint}
use Rattle.assise_seq_tree.proofs.Shared.Paths.{turned_disjoint}
use Rattle.assise_seq_tree.proofs.laws.what_is_put_leaves_the_rest.Goals as goal

pub returns : goal.returns
returns c = λ t x p q h. at-put_disjoint q p t x (turned_disjoint p q h)
