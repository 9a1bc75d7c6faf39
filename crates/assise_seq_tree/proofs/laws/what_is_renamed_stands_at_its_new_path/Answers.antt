use Rattle.assise_seq_tree.proofs.Shared.Renamed.{stands_at_its_new_path, gone_from_its_old_path}
use Rattle.assise_seq_tree.proofs.laws.what_is_renamed_stands_at_its_new_path.Goals as goal

pub returns-clause-stands : goal.returns-clause-stands
returns-clause-stands c = λ t u moved p q h other there. stands_at_its_new_path t u p q moved h other there

pub returns-clause-gone : goal.returns-clause-gone
returns-clause-gone c = λ t u moved p q s h other there. gone_from_its_old_path t u p q moved s h other there
