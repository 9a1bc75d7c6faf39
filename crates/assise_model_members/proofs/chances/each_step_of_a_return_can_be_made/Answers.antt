use Rattle.assise_model_members.proofs.Shared.StepsPossible.{may_come_back, may_refill, may_rejoin, may_fill_one}
use Rattle.assise_model_members.proofs.chances.each_step_of_a_return_can_be_made.Goals as goal

pub returns : goal.returns
returns c = record { back = may_come_back; refilled = λ w m n i a may. may_refill w m n a i may; busy = may_fill_one; joined = may_rejoin }
