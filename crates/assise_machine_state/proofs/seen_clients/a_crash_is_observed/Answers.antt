use Rattle.assise_machine_state.proofs.Common.{arith}
use Rattle.assise_machine_state.proofs.Shared.CrashObserved.{crash_seen, crash_shaped}
use Rattle.assise_machine_state.proofs.Shared.Noted.{crash_noted}
use Rattle.assise_machine_state.proofs.Shared.ShapedClients.{areas_stay}
use Rattle.assise_machine_state.proofs.seen_clients.a_crash_is_observed.Goals as goal

pub returns : goal.returns
returns r = search (crash_seen, areas_stay, crash_shaped, crash_noted, arith) parts 3
