use Rattle.assise_machine_state.proofs.Common.{◌∙◌, ap, with_region}
use Rattle.assise_machine_state.proofs.Shared.LogChanges.{region_back}
use Rattle.assise_machine_state.proofs.nodes.Nodes.touch.Goals as goal

pub returns : goal.returns
returns c = ap (with_region c.args.self.now c.args.node) (c.touch.ensures ∙ c.region_mut.ensures.value) ∙ region_back c.args.self.now c.args.node
