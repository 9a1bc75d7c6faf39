use Rattle.assise_model_world.proofs.Shared.ClientsStaying.{raise_sound}
use Rattle.assise_model_world.proofs.Shared.QuietSteps.{still_dropped}
use Rattle.assise_model_world.proofs.steps.raised_goals_keep_the_invariant.Goals as goal

pub returns : goal.returns
returns c = record { keeps = raise_sound; dropped = λ w u k t e. still_dropped w u e.logs e.nodes t }
