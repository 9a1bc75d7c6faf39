use Rattle.assise_inode_plan.proofs.Shared.LackedLeases.{same_visited}
use Rattle.assise_inode_plan.proofs.laws.agreeing_inodes_give_one_plan.Goals as goal

pub returns : goal.returns
returns c = same_visited
