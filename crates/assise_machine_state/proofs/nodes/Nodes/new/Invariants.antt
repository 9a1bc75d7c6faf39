use Rattle.assise_machine_state.proofs.Common.{◌≡◌, new_regions}
use Rattle.assise_machine_state.proofs.nodes.Nodes.new.Given as goal

abbrev pub invariant-loop : goal.invariant-loop
invariant-loop l = l.regions.items ≡ new_regions l.counter l.hot_capacity
