use Rattle.assise_machine_state.proofs.Common.{observed}
use Rattle.assise_machine_state.proofs.sound.SoundOf.replicated_to.Goals as goal

pub returns-clause-replicated : goal.returns-clause-replicated
unfolding observed
returns-clause-replicated g c = c.replicated_to.ensures
