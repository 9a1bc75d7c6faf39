use Rattle.assise_model_members.proofs.Shared.NodeChanged.{refill_keeps}
use Rattle.assise_model_members.proofs.returns.a_refill_keeps_members.Goals as goal

pub returns : goal.returns
returns c = λ w u m o n i a g. refill_keeps w u m o n i g a
