use Rattle.assise_model_world.proofs.Shared.ClientsStaying.{open_sound, open_dropped}
use Rattle.assise_model_world.proofs.steps.an_open_keeps_the_invariant.Goals as goal

pub returns : goal.returns
returns c = record { keeps = open_sound; dropped = open_dropped }
