use Rattle.assise_machine_state.proofs.Shared.LogChanges.{refused_back}
use Rattle.assise_machine_state.proofs.nodes.Nodes.refill_one.Goals as goal

pub returns-clause-err : goal.returns-clause-err
returns-clause-err c = refused_back c.refill_one.result c.args.self.now c.args.node c.refill_one.new.self c.region_mut.ensures.value c.refill_one.ensures.err
