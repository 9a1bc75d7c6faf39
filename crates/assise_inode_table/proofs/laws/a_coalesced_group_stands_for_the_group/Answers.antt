use Rattle.assise_inode_table.proofs.Common.{group-effects, group-begins, group-ascending, group-shorter}
use Rattle.assise_inode_table.proofs.Shared.Grouped.{same_group}
use Rattle.assise_inode_table.proofs.laws.a_coalesced_group_stands_for_the_group.Goals as goal

pub returns-clause-effects : goal.returns-clause-effects
returns-clause-effects c = group-effects

pub returns-clause-net : goal.returns-clause-net
returns-clause-net c = λ rs. (same_group rs).net

pub returns-clause-touch : goal.returns-clause-touch
returns-clause-touch c = λ rs. (same_group rs).touch

pub returns-clause-begins : goal.returns-clause-begins
returns-clause-begins c = group-begins

pub returns-clause-ascending : goal.returns-clause-ascending
returns-clause-ascending c = group-ascending

pub returns-clause-shorter : goal.returns-clause-shorter
returns-clause-shorter c = group-shorter
