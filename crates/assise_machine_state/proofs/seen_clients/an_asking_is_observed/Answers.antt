use Rattle.assise_machine_state.proofs.Common.{arith, world_of}
use Rattle.assise_machine_state.proofs.Shared.AskingSeen.{asking_noted, asking_seen, asking_shaped}
use Rattle.assise_machine_state.proofs.Shared.ShapedClients.{areas_stay}
use Rattle.assise_machine_state.proofs.seen_clients.an_asking_is_observed.Goals as goal

pub returns : goal.returns
unfolding world_of
returns r = search (asking_seen, areas_stay, asking_shaped, asking_noted, arith) parts 3
