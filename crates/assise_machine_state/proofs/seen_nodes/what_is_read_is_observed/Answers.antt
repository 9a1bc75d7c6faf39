use Rattle.assise_machine_state.proofs.Common.{arith}
use Rattle.assise_machine_state.proofs.Shared.ReadObserved.{alone_same, read_at_home}
use Rattle.assise_machine_state.proofs.seen_nodes.what_is_read_is_observed.Goals as goal

pub returns : goal.returns
returns r = grind (arith, read_at_home, alone_same)
