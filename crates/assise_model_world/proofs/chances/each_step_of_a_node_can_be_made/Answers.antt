use Rattle.assise_model_world.proofs.Shared.Possible.{may_deliver, may_digest, may_drop, may_fail, may_join, may_rest}
use Rattle.assise_model_world.proofs.chances.each_step_of_a_node_can_be_made.Goals as goal

pub returns : goal.returns
returns c = record { delivered = may_deliver; digested = may_digest; dropped = may_drop; failed = may_fail; joined = may_join; rested = may_rest }
