use Rattle.assise_machine_state.proofs.Shared.LogChanges.{region_found}
use Rattle.assise_machine_state.proofs.nodes.Nodes.region.Goals as goal

pub returns : goal.returns
returns c = region_found c.args.self.now c.self.inside.regions.items c.args.node c.self.view_is c.requires.node c.index.ensures
