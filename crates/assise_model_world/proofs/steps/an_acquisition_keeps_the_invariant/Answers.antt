use Rattle.assise_model_world.proofs.Shared.ClientsStaying.{acquire_sound}
use Rattle.assise_model_world.proofs.Shared.QuietSteps.{still_dropped}
use Rattle.assise_model_world.proofs.steps.an_acquisition_keeps_the_invariant.Goals as goal

pub returns : goal.returns
returns c = record { keeps = acquire_sound; dropped = λ w u d i mode t e. still_dropped w u e.logs e.nodes t }
