use Rattle.assise_machine_state.proofs.Common.{arith}
use Rattle.assise_machine_state.proofs.Shared.LogChanges.{changed_log, log_found, refused_back}
use Rattle.assise_machine_state.proofs.nodes.Nodes.coalesce.Goals as goal

pub coalesce-requires-clause-digested : goal.coalesce-requires-clause-digested
coalesce-requires-clause-digested c = rw (log_found c.args.self.now c.args.node c.args.client c.requires.there c.region_mut.ensures.value) c.requires.digested

pub coalesce-requires-clause-to_end : goal.coalesce-requires-clause-to_end
coalesce-requires-clause-to_end c = rw (log_found c.args.self.now c.args.node c.args.client c.requires.there c.region_mut.ensures.value) c.requires.to_end

pub returns : goal.returns
returns c = grind (arith, log_found, changed_log, refused_back)
