use Rattle.assise_machine_calls.proofs.Common.{wants, serves, client_lease, world_of, leases_of, value_of, next_step}
use Rattle.assise_machine_calls.proofs.FewerLacked.{unserved}
use Rattle.assise_machine_calls.proofs.calling.+call.Given as goal

abbrev pub decreases-call : goal.decreases-call
decreases-call g l = unserved (λ i mode. serves (client_lease (leases_of (value_of l.state.now)) l.client i) mode)
    (wants (next_step (world_of (value_of l.state.now)) l.client l.op.now))
