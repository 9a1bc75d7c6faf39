use Rattle.assise_machine_state.proofs.Common.{◌∙◌, ap}
use Rattle.assise_machine_state.proofs.Shared.LogChanges.{log_found}
use Rattle.assise_machine_state.proofs.nodes.Nodes.digested.Goals as goal

pub returns : goal.returns
returns c = c.digested.ensures.value ∙ ap (λ l. l.digested) (log_found c.args.self.now c.args.node c.args.client c.requires.there c.region.ensures)
