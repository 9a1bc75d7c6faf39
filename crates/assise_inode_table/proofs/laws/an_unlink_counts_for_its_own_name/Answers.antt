use Rattle.assise_inode_table.proofs.WrongRule.{wrong_net}
use Rattle.assise_inode_table.proofs.laws.an_unlink_counts_for_its_own_name.Goals as goal

pub returns : goal.returns
returns c = wrong_net
