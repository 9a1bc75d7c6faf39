use Rattle.assise_model_members.proofs.Shared.DigestNoted.{digest_keeps}
use Rattle.assise_model_members.proofs.failures.a_digest_keeps_members.Goals as goal

pub returns : goal.returns
returns c = λ w u m o n d k inodes a g. digest_keeps w u m o n d k inodes a g
