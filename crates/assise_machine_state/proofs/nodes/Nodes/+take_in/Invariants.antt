use Rattle.assise_machine_state.proofs.Common.{length}
use Rattle.assise_machine_state.proofs.nodes.Nodes.+take_in.Given as goal

abbrev pub decreases-take_in : goal.decreases-take_in
decreases-take_in l = length l.records.rest.items
