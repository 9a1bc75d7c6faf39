use Rattle.assise_model_world.proofs.Shared.RegroupKeeps.{regroups_to, regroup_sound, regroup_dropped}
use Rattle.assise_model_world.proofs.steps.regrouped_records_keep_the_invariant.Goals as goal

pub returns : goal.returns
returns c = record { coalesces = regroups_to; keeps = regroup_sound; dropped = λ w u d s gs h t e. regroup_dropped w u d s gs h e t }
