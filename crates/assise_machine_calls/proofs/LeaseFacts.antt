-- What holds of leases, out of what holds of all.
use Rattle.assise_machine_calls.proofs.Common.{◌≡◌, ℕ, Some, ∥∥₁_elim, props, Coded-set, coded_option, coded_ℕ, LevelsInvariant, AreHeld, AreLeases}
use Rattle.assise_machine_calls.proofs.Common.{MachineInvariant, client_in, observed, world_of, IsNumber, StateValue, leases_of, number_client}

module _ (s : StateValue) (holds : ∥ MachineInvariant (observed s) ∥₁) where
  lawful_now : LevelsInvariant (leases_of s).levels
  unfolding observed
  lawful_now = record {
    clients_compatible = λ i. ∥∥₁_elim holds (search props) (λ h. h.leases.lawful.clients_compatible i);
    nodes_compatible = λ i. ∥∥₁_elim holds (search props) (λ h. h.leases.lawful.nodes_compatible i);
    under = λ i l among. ∥∥₁_elim holds (search props) (λ h. h.leases.lawful.under i l among);
    asked = λ i k among revoked. (
      ∥∥₁_elim holds (search props) (λ h. (h.leases.lawful.asked i k among revoked).0),
      λ l client lives. ∥∥₁_elim holds (search props) (λ h. (h.leases.lawful.asked i k among revoked).1 l client lives),
    );
  }

  held_now : AreHeld (world_of s) (leases_of s)
  unfolding observed
  held_now = record {
    holds = λ c i. ∥∥₁_elim holds (search props) (λ h. h.leases.held.holds c i);
    writes = λ c i. ∥∥₁_elim holds (search props) (λ h. h.leases.held.writes c i);
  }

  pub are_leases : AreLeases (world_of s) (leases_of s)
  unfolding observed
  are_leases = record {
    lawful = lawful_now;
    held = held_now;
    homes = λ c known. ∥∥₁_elim holds (Coded-set (coded_option coded_ℕ) _ _) (λ h. h.leases.homes c known);
    strangers = λ c unknown. ∥∥₁_elim holds (Coded-set (coded_option coded_ℕ) _ _) (λ h. h.leases.strangers c unknown);
    covered = λ c i revoked. record {
      to_end = ∥∥₁_elim holds (search props) (λ h. (h.leases.covered c i revoked).to_end);
      untouched = ∥∥₁_elim holds (search props) (λ h. (h.leases.covered c i revoked).untouched);
    };
    goals = λ c i lives revoked. ∥∥₁_elim holds (search props) (λ h. h.leases.goals c i lives revoked);
    borders = λ c i revoked low. ∥∥₁_elim holds (search props) (λ h. h.leases.borders c i revoked low);
    crashed = λ c i over held. ∥∥₁_elim holds (search props) (λ h. h.leases.crashed c i over held);
    failed = λ c i over held. ∥∥₁_elim holds (search props) (λ h. h.leases.failed c i over held);
  }

  -- the lease tree knows a client's home
  pub home_known : (c : ℕ) → IsNumber s.clients c → s.levels.home c ≡ Some (client_in s.clients c).home
  unfolding observed world_of leases_of
  home_known c there = are_leases.homes c (number_client s c there)
