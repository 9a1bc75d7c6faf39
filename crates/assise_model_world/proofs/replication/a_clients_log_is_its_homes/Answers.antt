use Rattle.assise_model_world.proofs.Shared.Replicated.{log_of_home, log_of_left}
use Rattle.assise_model_world.proofs.replication.a_clients_log_is_its_homes.Goals as goal

pub returns : goal.returns
returns c = record { home = log_of_home; left = log_of_left }
