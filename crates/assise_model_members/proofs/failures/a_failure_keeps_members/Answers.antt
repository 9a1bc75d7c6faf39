use Rattle.assise_model_members.proofs.Shared.NodesFail.{fail_keeps}
use Rattle.assise_model_members.proofs.failures.a_failure_keeps_members.Goals as goal

pub returns : goal.returns
returns c = λ w v u m o n inodes s a g. fail_keeps w v u m o n inodes s a g
