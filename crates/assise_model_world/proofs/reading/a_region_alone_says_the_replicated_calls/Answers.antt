use Rattle.assise_model_world.proofs.Shared.RegionAlone.{rebuilds, rebuilds_tree, rebuilds_run}
use Rattle.assise_model_world.proofs.reading.a_region_alone_says_the_replicated_calls.Goals as goal

pub returns : goal.returns
returns c = record { values = rebuilds; spelled = rebuilds_tree; run = λ w n s f. rebuilds_run w s }
