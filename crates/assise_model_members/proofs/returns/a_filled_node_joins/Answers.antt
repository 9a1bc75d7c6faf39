use Rattle.assise_model_members.proofs.Shared.JoinKeeps.{rejoin_joins, rejoin_keeps}
use Rattle.assise_model_members.proofs.returns.a_filled_node_joins.Goals as goal

pub returns : goal.returns
returns c = record { joins = rejoin_joins; keeps = rejoin_keeps }
