use Rattle.assise_manager.proofs.Common.{map-set, standing}
use Rattle.assise_manager.proofs.node.put.Goals as goal

pub returns-clause-nodes : goal.returns-clause-nodes
returns-clause-nodes c = map-set standing c.args.nodes.now _ c.args.now
