use Rattle.assise_inode_table.proofs.Shared.Local.{step_local}
use Rattle.assise_inode_table.proofs.laws.a_step_depends_on_what_it_visits.Goals as goal

pub returns : goal.returns
returns c = step_local
