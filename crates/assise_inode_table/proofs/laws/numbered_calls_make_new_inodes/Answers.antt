use Rattle.assise_inode_table.proofs.Shared.InodeNumbers.{one_more, new_from_opening}
use Rattle.assise_inode_table.proofs.laws.numbered_calls_make_new_inodes.Goals as goal

pub returns-clause-more : goal.returns-clause-more
returns-clause-more c = one_more

pub returns-clause-new : goal.returns-clause-new
returns-clause-new c = new_from_opening
