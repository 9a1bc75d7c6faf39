use Rattle.assise_model_world.proofs.JoinKeeps.{join_sound}
use Rattle.assise_model_world.proofs.steps.a_join_keeps_the_invariant.Goals as goal

pub returns : goal.returns
returns c = λ w u n donor s e. join_sound w u n donor e s
