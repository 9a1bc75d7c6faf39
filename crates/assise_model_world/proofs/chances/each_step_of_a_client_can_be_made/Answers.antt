use Rattle.assise_model_world.proofs.Shared.Possible.{may_open, may_call, may_raise, may_crash, may_acquire, may_release}
use Rattle.assise_model_world.proofs.chances.each_step_of_a_client_can_be_made.Goals as goal

pub returns : goal.returns
returns c = record { opened = may_open; called = may_call; raised = may_raise; crashed = may_crash; acquired = may_acquire; released = may_release }
