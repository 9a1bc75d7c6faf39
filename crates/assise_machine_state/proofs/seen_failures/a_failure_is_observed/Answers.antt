use Rattle.assise_machine_state.proofs.Shared.FailureSeen.{failure_areas, failure_seen, failure_shaped}
use Rattle.assise_machine_state.proofs.Shared.Noted.{failure_noted}
use Rattle.assise_machine_state.proofs.seen_failures.a_failure_is_observed.Goals as goal

pub returns : goal.returns
returns r = record {
  fails = λ s n inodes levels asked shape sound recorded stands fine homes revoked nodes left leases.
      failure_seen s n inodes levels asked shape stands sound fine revoked homes nodes left leases;
  areas = failure_areas;
  shape = λ s n inodes levels asked shape sound stands fine. failure_shaped s n inodes levels asked shape stands ∣ sound ∣₁ fine;
  noted = failure_noted;
}
