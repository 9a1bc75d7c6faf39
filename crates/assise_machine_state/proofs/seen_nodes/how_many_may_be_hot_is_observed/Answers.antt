use Rattle.assise_machine_state.proofs.Shared.HotSeen.{machine_set, notes_kept, shape_kept}
use Rattle.assise_machine_state.proofs.seen_nodes.how_many_may_be_hot_is_observed.Goals as goal

pub returns : goal.returns
returns r = record { machine = machine_set; shape = shape_kept; noted = notes_kept }
