use Rattle.assise_model_world.proofs.Shared.StepLists.{step_sound, step_falls, step_stays}
use Rattle.assise_model_world.proofs.runs.no_step_takes_back_what_all_have.Goals as goal

pub returns : goal.returns
returns c = record { sound = step_sound; none_falls = step_falls; stay = step_stays }
