use Rattle.assise_model_members.proofs.Shared.StepsPossible.{may_list, may_fail, may_fail_again}
use Rattle.assise_model_members.proofs.chances.each_failure_can_be.Goals as goal

pub returns : goal.returns
returns c = record { listed = may_list; failed = may_fail; again = may_fail_again }
