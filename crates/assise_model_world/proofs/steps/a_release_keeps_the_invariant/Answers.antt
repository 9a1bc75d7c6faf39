use Rattle.assise_model_world.proofs.Shared.ClientsStaying.{release_sound}
use Rattle.assise_model_world.proofs.Shared.QuietSteps.{still_dropped}
use Rattle.assise_model_world.proofs.steps.a_release_keeps_the_invariant.Goals as goal

pub returns : goal.returns
returns c = record { keeps = release_sound; dropped = λ w u d i t e. still_dropped w u e.logs e.nodes t }
