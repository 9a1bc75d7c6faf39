use Rattle.assise_machine_state.proofs.Common.{arith, ne_eqb}
use Rattle.std.proofs.lemmas.Bool.{eq-eqb}
use Rattle.assise_machine_state.proofs.Besides.{next_most, next_same}
use Rattle.assise_machine_state.proofs.Shared.OwnLogs.{next_log, whole_taken}
use Rattle.assise_machine_state.proofs.state.StateOf.received_besides.Goals as goal
use Rattle.assise_machine_state.proofs.state.StateOf.received_besides.Goals.{then-node-home, else-node-home}

pub log-requires : goal.log-requires
log-requires g c = record { there = next_log _ _ _ _ c.requires.shape c.requires.client c.full_nodes-node-items.ensures c.loop-node-test.true }

pub loop-node-preserved : goal.loop-node-preserved
loop-node-preserved g c = grind (arith, then-node-home, next_most, ne_eqb, else-node-home, next_same, eq-eqb)

pub returns : goal.returns
returns g c = grind (arith, whole_taken)
