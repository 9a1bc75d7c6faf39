use Rattle.assise_inode_table.proofs.PathReach.{kept_spells}
use Rattle.assise_inode_table.proofs.laws.what_is_not_reached_may_change.Goals as goal

pub returns : goal.returns
returns c = λ v w r t s keeps. kept_spells v w r t s keeps
