use Rattle.assise_machine_calls.proofs.Common.{step_in}
use Rattle.assise_machine_calls.proofs.LeasedChanges.{LeasesSoFar}
use Rattle.assise_machine_calls.proofs.calling.lease_changes.Given as goal

abbrev pub invariant-loop-effect : goal.invariant-loop-effect
invariant-loop-effect g l = LeasesSoFar l.fn.state l.state l.fn.client l.fn.op (step_in l.fn.outcome) l.effect-items l.effect-index
