use Rattle.assise_machine_state.proofs.Common.{arith}
use Rattle.assise_machine_state.proofs.Shared.Noted.{leases_noted}
use Rattle.assise_machine_state.proofs.Shared.ShapedClients.{areas_stay, leases_held, leases_shaped}
use Rattle.assise_machine_state.proofs.seen_clients.leases_are_observed.Goals as goal

pub returns : goal.returns
returns r = search (leases_held, areas_stay, leases_shaped, leases_noted, arith) parts 3
