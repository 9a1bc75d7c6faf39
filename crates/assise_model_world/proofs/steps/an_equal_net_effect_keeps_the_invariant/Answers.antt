use Rattle.assise_model_world.proofs.Shared.CoalescedTail.{coalesce_sound, coalesce_dropped}
use Rattle.assise_model_world.proofs.steps.an_equal_net_effect_keeps_the_invariant.Goals as goal

pub returns : goal.returns
returns c = record { keeps = coalesce_sound; dropped = coalesce_dropped }
