use Rattle.assise_inode_plan.proofs.Shared.LackedLeases.{same_leased, same_visits}
use Rattle.assise_inode_plan.proofs.laws.a_plan_looks_at_leased_inodes_alone.Goals as goal

pub returns-clause-whole : goal.returns-clause-whole
returns-clause-whole c = same_leased

pub returns-clause-by_visits : goal.returns-clause-by_visits
returns-clause-by_visits c = same_visits
