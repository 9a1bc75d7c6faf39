use Rattle.assise_seq_tree.proofs.Shared.Moves.{at-without_disjoint, without-put}
use Rattle.assise_seq_tree.proofs.Shared.Paths.{gone, step_disjoint}
use Rattle.assise_seq_tree.proofs.laws.what_is_taken_out_is_gone.Goals as goal

pub returns-clause-gone : goal.returns-clause-gone
returns-clause-gone c = λ t x p s h there. gone p t x s h there

pub returns-clause-rest : goal.returns-clause-rest
returns-clause-rest c = λ t p q h. at-without_disjoint p q t (step_disjoint p q h)

pub returns-clause-either_first : goal.returns-clause-either_first
returns-clause-either_first c = λ t x p q s o h. without-put p q t x s o (step_disjoint p q h)
