use Rattle.assise_model_members.proofs.Shared.NodeChanged.{back_keeps}
use Rattle.assise_model_members.proofs.returns.a_return_keeps_members.Goals as goal

pub returns : goal.returns
returns c = λ w u m o n a g. back_keeps w u m o n g a
