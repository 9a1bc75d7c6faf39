use Rattle.assise_seq_tree.proofs.Shared.Calls.{rest_is_left}
use Rattle.assise_seq_tree.proofs.laws.a_call_changes_no_more_than_it_names.Goals as goal

pub returns-clause-rest : goal.returns-clause-rest
returns-clause-rest c = λ t u op reply q h disjoint. rest_is_left t u op reply q h disjoint
