use Rattle.assise_model_members.proofs.Shared.StepsPossible.{may_digest}
use Rattle.assise_model_members.proofs.chances.each_digest_can_be_noted.Goals as goal

pub returns : goal.returns
returns c = may_digest
