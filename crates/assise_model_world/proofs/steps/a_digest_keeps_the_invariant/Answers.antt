use Rattle.assise_model_world.proofs.Shared.DigestKeeps.{digest_sound}
use Rattle.assise_model_world.proofs.steps.a_digest_keeps_the_invariant.Goals as goal

pub returns : goal.returns
returns c = λ w u n d k s e. digest_sound w u n d k s e
