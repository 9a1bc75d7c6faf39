use Rattle.assise_seq_tree.proofs.CallLimits.{limits_kept}
use Rattle.assise_seq_tree.proofs.laws.limits_hold.Goals as goal

pub returns-clause-kept : goal.returns-clause-kept
returns-clause-kept c = λ t u op reply h s. limits_kept t u op reply h s
