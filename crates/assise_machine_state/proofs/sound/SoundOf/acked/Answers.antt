use Rattle.assise_machine_state.proofs.Common.{observed}
use Rattle.assise_machine_state.proofs.sound.SoundOf.acked.Goals as goal

pub returns-clause-acked : goal.returns-clause-acked
unfolding observed
returns-clause-acked g c = c.acked.ensures
