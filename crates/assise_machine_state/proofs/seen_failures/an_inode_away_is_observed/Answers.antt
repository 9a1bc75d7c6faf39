use Rattle.assise_machine_state.proofs.Common.{arith}
use Rattle.assise_machine_state.proofs.Shared.AwayObserved.{inode_else, inode_here, inode_rests, inode_shaped}
use Rattle.assise_machine_state.proofs.seen_failures.an_inode_away_is_observed.Goals as goal

pub returns : goal.returns
returns r = search (inode_rests, inode_here, inode_else, inode_shaped, arith) parts 3
