use Rattle.assise_model_world.proofs.Shared.FailureKeeps.{fail_sound}
use Rattle.assise_model_world.proofs.steps.a_failure_keeps_the_invariant.Goals as goal

pub returns : goal.returns
returns c = λ w u n s e. fail_sound w u n s e
