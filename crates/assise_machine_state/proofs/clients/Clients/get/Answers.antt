use Rattle.assise_machine_state.proofs.Shared.ItemSeen.{client_found}
use Rattle.assise_machine_state.proofs.clients.Clients.get.Goals as goal

pub returns : goal.returns
returns c = client_found c.args.self.now c.self.inside.clients.items c.args.client c.self.view_is c.requires.client c.index.ensures
