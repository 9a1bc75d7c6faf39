-- Those who stand against a client are asked for their leases.
use Rattle.assise_model_leases.proofs.Common.{◌≡◌, ℕ, ◌≤◌, ◌⊎◌, Bool, true, Option, Some, refl, ap, sym, ◌∙◌, subst, arith, both_ways, cases_eq, cases_Bool}
use Rattle.assise_model_leases.proofs.Common.{Mode, Lease, is_revoked, asked_lawful, WorldInvariant, World, Asks, is_newly_revoked, asked_goal, Leases}
use Rattle.assise_model_leases.proofs.Common.{client_lease, IsRevokedLease, CoversFrom, AreLeases, is_held, is_written}
use Rattle.assise_model_leases.proofs.Shared.LookUps.{revoked_one, held_one, written_one, still_revoked}
use Rattle.assise_model_leases.proofs.Shared.Waiters.{asked_lease, asked_elsewhere}
use Rattle.assise_model_leases.proofs.CutsCover.{covers_same}
use Rattle.assise_model_leases.proofs.Shared.QuietLeases.{still_client, was_client}

module _ (w u : World) (l k : Leases) (c i : ℕ) (mode : Mode) (a : AreLeases w l) (e : Asks w l c i mode u k) where
  -- what holds of a lease that may be revoked, and of one that stays
  at_each : (P : Option Lease → Option Lease → Type 0) → ((p : Lease → Bool) (o : Option Lease) → P (revoked_one p o) o) → ((o : Option Lease) → P o o) →
      (d j : ℕ) → P (client_lease k d j) (client_lease l d j)
  at_each P one same d j = grind (arith, asked_lease w u l k c i mode e d)

  same_held : (d j : ℕ) → is_held (client_lease k d j) ≡ is_held (client_lease l d j)
  same_held = at_each (λ x y. is_held x ≡ is_held y) held_one (λ o. refl)

  same_written : (d j : ℕ) → is_written (client_lease k d j) ≡ is_written (client_lease l d j)
  same_written = at_each (λ x y. is_written x ≡ is_written y) written_one (λ o. refl)

  revoked_stays : (d j : ℕ) → IsRevokedLease l d j → IsRevokedLease k d j
  revoked_stays = at_each (λ x y. is_revoked y ≡ true → is_revoked x ≡ true) still_revoked (λ o h. h)

  -- a lease that is revoked now was so before, with the same cut, or was asked for
  newly_or_was : (d j : ℕ) → IsRevokedLease k d j → ((j ≡ i) × (is_newly_revoked l k d i ≡ true)) ⊎ (IsRevokedLease l d j × (k.cut d j ≡ l.cut d j))
  newly_or_was d j h = grind (arith, cases_Bool, both_ways, cases_eq, asked_elsewhere)

  asked_cut : (d : ℕ) → is_newly_revoked l k d i ≡ true → asked_goal l k i d ≡ k.cut d i
  asked_cut d h = rw h refl

  ask_covered : (d j : ℕ) → IsRevokedLease k d j → CoversFrom w d j (k.cut d j)
  ask_covered d j h = grind (arith, newly_or_was)

  ask_goals : (d j : ℕ) → w.lives d ≡ true → IsRevokedLease k d j → k.cut d j ≤ u.goal d
  ask_goals d j lives h = grind (arith, newly_or_was, asked_cut)

  ask_borders : (d j : ℕ) → IsRevokedLease k d j → w.first d ≤ k.cut d j → w.border d (k.cut d j) ≡ true
  ask_borders d j h low = grind (arith, newly_or_was)

  pub ask_keeps : WorldInvariant w → AreLeases u k
  ask_keeps s = record {
    lawful = asked_lawful l.levels a.lawful k.levels c (w.home c) i mode (a.homes c (s.opened c e.lives_on)) e.asked;
    held = search (same_held, same_written, arith) parts 3;
    homes = λ d o. e.asked.home d ∙ a.homes d (still_client w u l a e.goals.clients d o) ∙ ap (λ m. Some m) (sym (e.goals.clients.home d));
    strangers = λ d no. e.asked.home d ∙ a.strangers d (λ o. no (was_client w u l a e.goals.clients d o));
    covered = λ d j h. covers_same w u d j (k.cut d j) (e.goals.logs.records d) (e.goals.logs.first d) (ask_covered d j h);
    goals = λ d j lives h. ask_goals d j (sym (e.goals.clients.lives d) ∙ lives) h;
    borders = λ d j h low. e.goals.logs.border d (k.cut d j) ∙ ask_borders d j h (subst (λ m. m ≤ k.cut d j) (e.goals.logs.first d) low);
    crashed = λ d j over h. revoked_stays d j (a.crashed d j (sym (e.goals.clients.crashed d) ∙ over) (sym (same_held d j) ∙ h));
    failed = λ d j over h. revoked_stays d j (a.failed d j (sym (e.goals.clients.lives d) ∙ over) (sym (same_held d j) ∙ h));
  }
