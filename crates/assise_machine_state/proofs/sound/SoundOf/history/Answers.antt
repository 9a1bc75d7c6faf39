use Rattle.assise_machine_state.proofs.Common.{refl, observed}
use Rattle.assise_machine_state.proofs.sound.SoundOf.history.Goals as goal

pub returns : goal.returns
unfolding observed
returns g c = refl
