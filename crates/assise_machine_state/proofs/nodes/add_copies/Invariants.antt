use Rattle.assise_machine_state.proofs.Common.{◌≡◌, AreTaken, with_copies, without_clients}
use Rattle.assise_machine_state.proofs.nodes.add_copies.Given as goal

abbrev pub invariant-loop-log : goal.invariant-loop-log
invariant-loop-log l = AreTaken l.log-iterator.rest.items × (without_clients l.region ≡ without_clients l.initial.region)
    × (with_copies l.region l.log-iterator.rest.items ≡ with_copies l.initial.region l.fn.copies.rest.items)
