use Rattle.assise_inode_table.proofs.Shared.LeftWhole.{whole_left}
use Rattle.assise_inode_table.proofs.laws.what_is_left_can_be_made_whole.Goals as goal

pub returns : goal.returns
returns c = whole_left
