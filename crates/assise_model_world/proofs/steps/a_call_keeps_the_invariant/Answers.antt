use Rattle.assise_model_world.proofs.Shared.CallKeeps.{call_sound, call_dropped, call_reply}
use Rattle.assise_model_world.proofs.steps.a_call_keeps_the_invariant.Goals as goal

pub returns : goal.returns
returns c = record { keeps = call_sound; dropped = λ w u x s d e. call_dropped w u x s e d; reply = call_reply }
