use Rattle.assise_model_events.proofs.ReachedInodesSpent.{spent_comes}
use Rattle.assise_model_events.proofs.reachable.a_client_can_spend_its_inodes.Goals as goal

pub returns : goal.returns
returns r = spent_comes
