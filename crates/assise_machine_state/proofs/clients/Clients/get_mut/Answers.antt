use Rattle.assise_machine_state.proofs.Common.{arith}
use Rattle.assise_machine_state.proofs.Shared.ItemSeen.{client_found, is_set}
use Rattle.assise_machine_state.proofs.clients.Clients.get_mut.Goals as goal

pub returns : goal.returns
returns c = grind (arith, is_set, client_found)
