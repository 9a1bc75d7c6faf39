use Rattle.assise_seq_tree.proofs.CallOrder.{ordered-answer, ordered_from_opening}
use Rattle.assise_seq_tree.proofs.laws.names_ascend_in_each_directory.Goals as goal

pub returns-clause-kept : goal.returns-clause-kept
returns-clause-kept c = ordered-answer

pub returns-clause-after_calls : goal.returns-clause-after_calls
returns-clause-after_calls c = ordered_from_opening
