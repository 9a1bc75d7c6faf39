use Rattle.assise_model_members.proofs.Shared.NodeChanged.{again_keeps}
use Rattle.assise_model_members.proofs.failures.a_second_failure_keeps_members.Goals as goal

pub returns : goal.returns
returns c = λ w u m o n a g. again_keeps w u m o n g a
