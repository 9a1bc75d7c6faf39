use Rattle.assise_manager.proofs.Shared.Lawful.{stale_written}
use Rattle.assise_manager.proofs.laws.stale_inodes_were_written.Goals as goal

pub returns : goal.returns
returns c = stale_written
