-- Leases go: a client's, once what lies before its cut is digested everywhere, and those of a node without clients that hold.
use Rattle.assise_model_leases.proofs.Common.{◌≡◌, ℕ, ◌-◌, true, false, Some, None, ap, sym, ◌∙◌, subst, arith, cases_eq, all_effects, touched, contains}
use Rattle.assise_model_leases.proofs.Common.{lease_of, is_revoked, released_lawful, freed_lawful, Releases, AreDropped, World, ReleasesReady, FreesNode}
use Rattle.assise_model_leases.proofs.Common.{Leases, client_lease, IsRevokedLease, client_records_from, AreLeases, is_held, without_own, without_other}
use Rattle.assise_model_leases.proofs.CutsCover.{covers_same}
use Rattle.assise_model_leases.proofs.Shared.QuietLeases.{still_client, was_client, holder_home, revoked_holder}

module _ (w u : World) (l k : Leases) (c i : ℕ) (a : AreLeases w l) (e : ReleasesReady w l c i u k) where
  gone : client_lease k c i ≡ None
  gone = ap (λ ls. lease_of ls c) e.released.clients.here ∙ without_own (l.levels.clients i) c

  elsewhere : (d j : ℕ) → (d ≡ c → j ≡ i → ⊥) → client_lease k d j ≡ client_lease l d j
  elsewhere d j differs = grind (arith, cases_eq, without_other)

  -- where the client's log begins behind the cut, none of its records touches the inode
  nothing_left : AreDropped w → contains (touched (all_effects (w.records c))) i ≡ false
  unfolding AreDropped client_records_from
  nothing_left dropped = (let z : l.cut c i - w.first c ≡ 0 = omega (arith, e.ready, dropped c) in rw z at (a.covered c i e.revoked).untouched)

  pub goes : AreDropped w → Releases w c i u
  goes dropped = search (nothing_left dropped, gone, elsewhere, arith) parts 3

  -- a lease that is left was there
  was_there : (d j : ℕ) → is_held (client_lease k d j) ≡ true → client_lease k d j ≡ client_lease l d j
  was_there d j h = grind (arith, elsewhere, gone)

  was_revoked : (d j : ℕ) → IsRevokedLease k d j → IsRevokedLease l d j
  was_revoked d j h = ap is_revoked (sym (was_there d j (revoked_holder k d j h))) ∙ h

  pub release_keeps : AreLeases u k
  release_keeps = record {
    lawful = released_lawful l.levels a.lawful k.levels c (w.home c) i (holder_home w l c i a (revoked_holder l c i e.revoked)) e.released;
    held = e.holds.held;
    homes = λ d o. e.released.home d ∙ a.homes d (still_client w u l a e.holds.clients d o) ∙ ap (λ m. Some m) (sym (e.holds.clients.home d));
    strangers = λ d no. e.released.home d ∙ a.strangers d (λ o. no (was_client w u l a e.holds.clients d o));
    covered = λ d j h. rw (e.cuts d j h) (covers_same w u d j (l.cut d j) (e.holds.logs.records d) (e.holds.logs.first d) (a.covered d j (was_revoked d j h)));
    goals = λ d j lives h. rw (e.cuts d j h, e.holds.goals d) (a.goals d j (sym (e.holds.clients.lives d) ∙ lives) (was_revoked d j h));
    borders = λ d j h low. subst (λ m. u.border d m ≡ true) (sym (e.cuts d j h))
        (e.holds.logs.border d (l.cut d j) ∙ a.borders d j (was_revoked d j h) (omega (arith, low, e.cuts d j h, e.holds.logs.first d)));
    crashed = λ d j over h. ap is_revoked (was_there d j h) ∙ a.crashed d j (sym (e.holds.clients.crashed d) ∙ over) (ap is_held (sym (was_there d j h)) ∙ h);
    failed = λ d j over h. ap is_revoked (was_there d j h) ∙ a.failed d j (sym (e.holds.clients.lives d) ∙ over) (ap is_held (sym (was_there d j h)) ∙ h);
  }

pub free_keeps : (w : World) (l k : Leases) (n : ℕ) → AreLeases w l → FreesNode w l n k → AreLeases w k
free_keeps w l k n a e = grind (arith, freed_lawful l.levels a.lawful k.levels n e.idle e.freed)
