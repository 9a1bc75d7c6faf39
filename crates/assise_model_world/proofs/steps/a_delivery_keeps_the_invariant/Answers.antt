use Rattle.assise_model_world.proofs.Shared.DeliveryKeeps.{deliver_sound, deliver_dropped}
use Rattle.assise_model_world.proofs.steps.a_delivery_keeps_the_invariant.Goals as goal

pub returns : goal.returns
returns c = record { keeps = λ w u n d k s e. deliver_sound w u n d k e s; dropped = λ w u n d k t e. deliver_dropped w u n d k e t }
