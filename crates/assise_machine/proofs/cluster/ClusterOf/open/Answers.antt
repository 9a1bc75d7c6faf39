use Rattle.assise_machine.proofs.Common.{observed, world_of}
use Rattle.assise_machine.proofs.cluster.ClusterOf.open.Goals as goal

pub returns-clause-stored : goal.returns-clause-stored
unfolding observed world_of
returns-clause-stored g c = c.open.ensures.stored
