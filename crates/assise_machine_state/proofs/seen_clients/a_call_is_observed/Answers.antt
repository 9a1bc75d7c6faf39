use Rattle.assise_machine_state.proofs.Common.{observed}
use Rattle.assise_machine_state.proofs.Shared.CallObserved.{call_areas, call_seen, call_shaped}
use Rattle.assise_machine_state.proofs.Shared.Noted.{call_noted}
use Rattle.assise_machine_state.proofs.seen_clients.a_call_is_observed.Goals as goal

pub returns : goal.returns
unfolding observed
returns r = record {
  call = λ s x shape sound recorded may. call_seen s x shape (recorded.made x.client) (sound.coherent.fewer x.client) may;
  others = call_areas;
  shape = call_shaped;
  noted = call_noted;
}
