-- Who waits for whom.
use Rattle.assise_model_leases.proofs.Common.{◌≡◌, ◌≢◌, ℕ, ◌==◌, ◌≤◌, Bool, true, false, not, ◌&&◌, Option, Some, None, ap, sym, ◌∙◌, arith, eq-eqb, both_ways}
use Rattle.assise_model_leases.proofs.Common.{Mode, Lease, lease_of, both_true, not_true, in_way, is_revoked, WorldInvariant, World, digested_by_all}
use Rattle.assise_model_leases.proofs.Common.{received_by_all, least_of-above, Asks, is_newly_revoked, AreLeases, IsRevokedLease, Leases, client_lease}
use Rattle.assise_model_leases.proofs.Common.{lease_among}
use Rattle.assise_model_leases.proofs.Shared.LookUps.{revoked_one, revoke_of}

-- ---- what is asked for

-- a lease that is revoked now and wasn't was chosen
chosen_one : (choice : Lease → Bool) (o : Option Lease) → (not (is_revoked o) && is_revoked (revoked_one choice o)) ≡ true → (a : Lease) × (o ≡ Some a)
    × (choice a ≡ true)
chosen_one choice None h = cc
chosen_one choice (Some a) h = grind arith

module _ (w u : World) (l k : Leases) (c i : ℕ) (mode : Mode) (e : Asks w l c i mode u k) where
  abbrev way : Lease → Bool
  way = in_way l.levels.home (l.levels.nodes i) c (w.home c) mode

  pub asked_lease : (d : ℕ) → client_lease k d i ≡ revoked_one way (client_lease l d i)
  asked_lease d = ap (λ ls. lease_of ls d) e.asked.clients.here ∙ revoke_of way (l.levels.clients i) d

  pub asked_elsewhere : (d j : ℕ) → j ≢ i → client_lease k d j ≡ client_lease l d j
  asked_elsewhere d j other = ap (λ ls. lease_of ls d) (e.asked.clients.elsewhere j other)

  newly : (d : ℕ) → is_newly_revoked l k d i ≡ true → (a : Lease) × (client_lease l d i ≡ Some a) × (way a ≡ true)
  newly d h = chosen_one way (client_lease l d i) (sym (ap (λ o. not (is_revoked (client_lease l d i)) && is_revoked o) (asked_lease d)) ∙ h)

  pub asked_other : (d : ℕ) → is_newly_revoked l k d i ≡ true → d ≢ c
  unfolding in_way
  asked_other d h same =
      let a = newly d h in
      let own = lease_among (l.levels.clients i) d a.0 a.1 in
      both_ways (a.0.holder == c) (not_true (a.0.holder == c) (both_true (not (a.0.holder == c)) _ a.2).0) (eq-eqb a.0.holder c (own.1 ∙ same))

  pub asked_in_way : (d : ℕ) (a : Lease) → is_newly_revoked l k d i ≡ true → client_lease l d i ≡ Some a → way a ≡ true
  asked_in_way d a h is = grind (arith, newly)

-- ---- what is ready to go

pub ready_alive : (w : World) (l : Leases) (c i : ℕ) → AreLeases w l → IsRevokedLease l c i → w.lives c ≡ true → w.goal c ≤ digested_by_all w c →
    l.cut c i ≤ digested_by_all w c
ready_alive w l c i a revoked lives done = omega (arith, a.goals c i lives revoked, done)

pub ready_left : (w : World) (l : Leases) (c i : ℕ) → WorldInvariant w → AreLeases w l → IsRevokedLease l c i → w.lives c ≡ false →
    received_by_all w c ≤ digested_by_all w c →
    l.cut c i ≤ digested_by_all w c
unfolding received_by_all
ready_left w l c i s a revoked dead done = grind (arith, least_of-above)
