use Rattle.assise_inode_table.proofs.Shared.Lateness.{late, late_client}
use Rattle.assise_inode_table.proofs.laws.unseen_changes_may_come_late.Goals as goal

pub returns-clause-any : goal.returns-clause-any
returns-clause-any c = late

pub returns-clause-client : goal.returns-clause-client
returns-clause-client c = late_client
