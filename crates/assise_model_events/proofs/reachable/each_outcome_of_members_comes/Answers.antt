use Rattle.assise_model_events.proofs.MembersCome.{back_comes, busy_comes, failed_again_comes, joined_comes, not_back_comes, not_back_for_memory_comes}
use Rattle.assise_model_events.proofs.MembersCome.{not_failed_comes, not_failed_for_memory_comes, not_joined_for_memory_comes, not_raised_comes}
use Rattle.assise_model_events.proofs.MembersCome.{not_refilled_comes, not_refilled_for_memory_comes, raised_comes, refilled_comes, whole_comes}
use Rattle.assise_model_events.proofs.MembersFail.{failed_comes}
use Rattle.assise_model_events.proofs.reachable.each_outcome_of_members_comes.Goals as goal

pub returns-clause-failed : goal.returns-clause-failed
returns-clause-failed r = failed_comes

pub returns-clause-failed_again : goal.returns-clause-failed_again
returns-clause-failed_again r = failed_again_comes

pub returns-clause-not_failed : goal.returns-clause-not_failed
returns-clause-not_failed r = not_failed_comes

pub returns-clause-not_failed_for_memory : goal.returns-clause-not_failed_for_memory
returns-clause-not_failed_for_memory r = not_failed_for_memory_comes

pub returns-clause-back : goal.returns-clause-back
returns-clause-back r = back_comes

pub returns-clause-not_back : goal.returns-clause-not_back
returns-clause-not_back r = not_back_comes

pub returns-clause-not_back_for_memory : goal.returns-clause-not_back_for_memory
returns-clause-not_back_for_memory r = not_back_for_memory_comes

pub returns-clause-refilled : goal.returns-clause-refilled
returns-clause-refilled r = refilled_comes

pub returns-clause-whole : goal.returns-clause-whole
returns-clause-whole r = whole_comes

pub returns-clause-not_refilled : goal.returns-clause-not_refilled
returns-clause-not_refilled r = not_refilled_comes

pub returns-clause-not_refilled_for_memory : goal.returns-clause-not_refilled_for_memory
returns-clause-not_refilled_for_memory r = not_refilled_for_memory_comes

pub returns-clause-joined : goal.returns-clause-joined
returns-clause-joined r = joined_comes

pub returns-clause-busy : goal.returns-clause-busy
returns-clause-busy r = busy_comes

pub returns-clause-not_joined_for_memory : goal.returns-clause-not_joined_for_memory
returns-clause-not_joined_for_memory r = not_joined_for_memory_comes

pub returns-clause-raised : goal.returns-clause-raised
returns-clause-raised r = raised_comes

pub returns-clause-not_raised : goal.returns-clause-not_raised
returns-clause-not_raised r = not_raised_comes
