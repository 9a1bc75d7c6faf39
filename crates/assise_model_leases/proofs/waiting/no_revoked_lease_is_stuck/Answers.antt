use Rattle.assise_model_leases.proofs.Shared.Waiters.{ready_alive, ready_left}
use Rattle.assise_model_leases.proofs.waiting.no_revoked_lease_is_stuck.Goals as goal

pub returns-clause-alive : goal.returns-clause-alive
returns-clause-alive r = λ w l c i a revoked lives done. ready_alive w l c i a revoked lives done

pub returns-clause-left : goal.returns-clause-left
returns-clause-left r = λ w l c i s a revoked dead done. ready_left w l c i s a revoked dead done
