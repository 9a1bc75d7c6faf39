use Rattle.assise_machine_state.proofs.Common.{arith, end_of_log, received_by_all, own_seen, world_of}
use Rattle.assise_machine_state.proofs.Shared.OwnLogs.{next_least, next_log, whole_least}
use Rattle.assise_machine_state.proofs.state.StateOf.acked.Goals as goal

pub log-requires : goal.log-requires
log-requires g c = record { there = next_log _ _ _ _ c.requires.shape c.requires.client c.full_nodes-node-items.ensures c.loop-node-test.true }

pub loop-node-preserved : goal.loop-node-preserved
loop-node-preserved g c = grind (arith, next_least)

pub returns : goal.returns
unfolding world_of own_seen received_by_all end_of_log
returns g c = whole_least _ _ _ _ _ _ c.full_nodes-node-items.ensures c.loop-node-test.false c.loop-node.invariant
