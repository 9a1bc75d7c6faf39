use Rattle.assise_machine_state.proofs.Shared.Noted.{open_noted}
use Rattle.assise_machine_state.proofs.Shared.OpenObserved.{open_areas, open_seen, open_shaped}
use Rattle.assise_machine_state.proofs.seen_clients.an_open_is_observed.Goals as goal

pub returns : goal.returns
returns r = record { opens = open_seen; others = open_areas; shape = open_shaped; noted = open_noted }
