use Rattle.assise_seq_tree.proofs.Shared.Writes.{kept_before, kept_behind}
use Rattle.assise_seq_tree.proofs.laws.a_write_keeps_what_is_around_it.Goals as goal

pub returns-clause-before : goal.returns-clause-before
returns-clause-before c = λ t u p offset from most new old h r prefix. kept_before t u p offset from most new old h r prefix

pub returns-clause-behind : goal.returns-clause-behind
returns-clause-behind c = λ t u p offset from most new old h r behind. kept_behind t u p offset from most new old h r behind
