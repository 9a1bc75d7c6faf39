use Rattle.assise_machine_state.proofs.Common.{◌∙◌, ap, log_in}
use Rattle.assise_machine_state.proofs.state.StateOf.own_log.Goals as goal

pub returns-clause-log : goal.returns-clause-log
returns-clause-log g c = c.log.ensures.log ∙ ap (λ n. (log_in c.args.self.now.nodes n c.args.client).log) c.own_node.ensures.node
