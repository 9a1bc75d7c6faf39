use Rattle.assise_inode_plan.proofs.Common.{wants}
use Rattle.assise_inode_plan.proofs.Shared.LackedLeases.{missing_is_first, ready_has_all}
use Rattle.assise_inode_plan.proofs.laws.a_missing_lease_is_wanted_first.Goals as goal

pub returns-clause-missing : goal.returns-clause-missing
returns-clause-missing c = λ leased s. missing_is_first leased s (wants s)

pub returns-clause-ready : goal.returns-clause-ready
returns-clause-ready c = λ leased s u. ready_has_all leased s u (wants s)
