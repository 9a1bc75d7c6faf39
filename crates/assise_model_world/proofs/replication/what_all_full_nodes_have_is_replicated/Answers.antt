use Rattle.assise_model_world.proofs.Shared.Replicated.{next_unreplicated, end_replicated}
use Rattle.assise_model_world.proofs.replication.what_all_full_nodes_have_is_replicated.Goals as goal

pub returns : goal.returns
returns c = record { next = next_unreplicated; calls = end_replicated }
