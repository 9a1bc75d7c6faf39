use Rattle.assise_model_world.proofs.Shared.ClientsStaying.{rest_sound}
use Rattle.assise_model_world.proofs.Shared.QuietSteps.{still_dropped}
use Rattle.assise_model_world.proofs.steps.what_other_nodes_have_is_free.Goals as goal

pub returns : goal.returns
returns c = record { keeps = rest_sound; dropped = λ w u t e. still_dropped w u e.logs e.nodes t }
