use Rattle.assise_machine_state.proofs.Common.{arith, touched-append}
use Rattle.std.proofs.Common.{append_assoc}
use Rattle.assise_machine_state.proofs.Shared.TouchedFrom.{taken_first}
use Rattle.assise_machine_state.proofs.touching.push_touched_from.Goals as goal

pub loop-record-preserved : goal.loop-record-preserved
loop-record-preserved c = grind (arith, taken_first, touched-append, append_assoc)
