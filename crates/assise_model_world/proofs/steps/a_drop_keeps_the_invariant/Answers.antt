use Rattle.assise_model_world.proofs.Shared.DropKeeps.{drop_sound, drop_dropped}
use Rattle.assise_model_world.proofs.steps.a_drop_keeps_the_invariant.Goals as goal

pub returns : goal.returns
returns c = record { keeps = drop_sound; dropped = drop_dropped }
