-- A client that crashes, or whose node fails, has only revoked leases from then on.
use Rattle.assise_model_leases.proofs.Common.{◌≡◌, ◌≢◌, ℕ, ◌==◌, inl, inr, Bool, true, List, Some, refl, ap, sym, ◌∙◌, subst, arith, eq-eqb, ne_eqb, and_right}
use Rattle.assise_model_leases.proofs.Common.{cases_eq, Lease, SameLeases, lease_of, revoke, revoked_if, is_own, compatible, among_map, map_among, any_among}
use Rattle.assise_model_leases.proofs.Common.{among_any, Homes, Under, AskedBelow, is_revoked, lives, TwoLevels, LevelsInvariant, revoked_lawful}
use Rattle.assise_model_leases.proofs.Common.{kept_at_failure, WorldInvariant, World, end_of_log, part-whole, CrashesWith, FailsWithLeases, Leases}
use Rattle.assise_model_leases.proofs.Common.{client_lease, IsRevokedLease, AreLeases, is_held, lease_among}
use Rattle.assise_lease_table.proofs.Shared.LeaseChanges.{revoke_fits}
use Rattle.assise_model_leases.proofs.Shared.LookUps.{revoked_one, revoke_of, held_one, written_one, still_revoked, now_revoked, was_revoked}
use Rattle.assise_model_leases.proofs.CutsCover.{covers_same, covers_end}
use Rattle.assise_model_leases.proofs.Shared.QuietLeases.{holder_home}

-- ---- a crash

module _ (w u : World) (l k : Leases) (c : ℕ) (a : AreLeases w l) (e : CrashesWith w l c u k) where
  lease : (d j : ℕ) → client_lease k d j ≡ revoked_one (is_own c) (client_lease l d j)
  lease d j = ap (λ ls. lease_of ls d) (e.revoked.clients j) ∙ revoke_of (is_own c) (l.levels.clients j) d

  same_held : (d j : ℕ) → is_held (client_lease k d j) ≡ is_held (client_lease l d j)
  same_held d j = ap is_held (lease d j) ∙ held_one (is_own c) (client_lease l d j)

  -- other clients' leases are revoked only if they were
  was_other : (d j : ℕ) → d ≢ c → IsRevokedLease k d j → IsRevokedLease l d j
  was_other d j other h =
      was_revoked (is_own c) (client_lease l d j) (λ b is. ne_eqb b.holder c (λ own. other (sym (lease_among (l.levels.clients j) d b is).1 ∙ own)))
      (ap is_revoked (sym (lease d j)) ∙ h)

  own_revoked : (j : ℕ) → is_held (client_lease l c j) ≡ true → IsRevokedLease k c j
  own_revoked j h = ap is_revoked (lease c j)
      ∙ now_revoked (is_own c) (client_lease l c j) (λ b is. eq-eqb b.holder c (lease_among (l.levels.clients j) c b is).1) h

  stays : (d j : ℕ) → IsRevokedLease l d j → IsRevokedLease k d j
  stays d j h = ap is_revoked (lease d j) ∙ still_revoked (is_own c) (client_lease l d j) h

  pub crash_keeps : WorldInvariant w → AreLeases u k
  crash_keeps s = record {
    lawful = revoked_lawful l.levels a.lawful k.levels c e.revoked;
    held = search (same_held, lease, written_one, arith) parts 3;
    homes = grind arith;
    strangers = λ d no. e.revoked.home d ∙ a.strangers d (λ o. no (o.0, (let n : u.clients ≡ w.clients = e.crash.clients in omega (arith, o.1, n))));
    covered = λ d j h. covers_same w u d j (k.cut d j) (e.crash.logs.records d) (e.crash.logs.first d) (grind (arith, covers_end, was_other));
    goals = grind (arith, was_other);
    borders = grind (arith, was_other);
    crashed = grind (arith, same_held, own_revoked, stays);
    failed = λ d j over h. stays d j (a.failed d j (sym (e.crash.lives_same d) ∙ over) (sym (same_held d j) ∙ h));
  }

-- ---- chosen leases are revoked on the lower level

module _ (home : Homes) (choice : Lease → Bool) (cs ns : List Lease) where
  chosen_under : Under home cs ns → Under home (revoke choice cs) ns
  chosen_under under b in_b = grind (arith, among_map)

  chosen_asked : AskedBelow home cs ns → AskedBelow home (revoke choice cs) ns
  chosen_asked asked m in_m revoked =
      let old = asked m in_m revoked in
      let b = any_among (λ z. lives home z.holder m.holder) cs old.0 in (
        among_any (λ z. lives home z.holder m.holder) (revoke choice cs) (revoked_if (choice b.0) b.0) (map_among (λ z. revoked_if (choice z) z) cs b.0 b.1)
            b.2,
        λ x in_x there.
            let was = among_map (λ z. revoked_if (choice z) z) cs x in_x in
            ap (λ (z : Lease). z.revoked) was.2
            ∙ still_revoked choice (Some was.0) (old.1 was.0 was.1 (sym (ap (λ (z : Lease). lives home z.holder m.holder) was.2) ∙ there)),
      )

chosen_lawful : (old new : TwoLevels) (choice : Lease → Bool) → LevelsInvariant old → ((c : ℕ) → new.home c ≡ old.home c) →
    ((i : ℕ) → new.clients i ≡ revoke choice (old.clients i)) → SameLeases old.nodes new.nodes →
    LevelsInvariant new
chosen_lawful old new choice lawful home clients nodes =
    let homes : new.home ≡ old.home = λ i c. home c i in
    record {
      clients_compatible = λ i. ap compatible (clients i) ∙ revoke_fits choice (old.clients i) (lawful.clients_compatible i);
      nodes_compatible = λ i. ap compatible (nodes i) ∙ lawful.nodes_compatible i;
      under = grind (arith, chosen_under);
      asked = λ i. subst (λ h. AskedBelow h (new.clients i) (new.nodes i)) (sym homes)
          (grind (arith, chosen_asked old.home choice (old.clients i) (old.nodes i) (lawful.asked i)));
    }

-- ---- a failure

-- of a client that lives elsewhere all is kept
kept_elsewhere : (w : World) (n c : ℕ) → w.home c ≢ n → kept_at_failure w n c ≡ end_of_log w c
unfolding kept_at_failure
kept_elsewhere w n c other = rw (and_right (w.lives c) (w.home c == n) (ne_eqb (w.home c) n other)) refl

module _ (w u : World) (l k : Leases) (n : ℕ) (a : AreLeases w l) (e : FailsWithLeases w l n u k) where
  abbrev there : Lease → Bool
  there b = lives l.levels.home b.holder n

  lease_now : (d j : ℕ) → client_lease k d j ≡ revoked_one there (client_lease l d j)
  lease_now d j = ap (λ ls. lease_of ls d) (e.clients j) ∙ revoke_of there (l.levels.clients j) d

  held_now : (d j : ℕ) → is_held (client_lease k d j) ≡ is_held (client_lease l d j)
  held_now d j = ap is_held (lease_now d j) ∙ held_one there (client_lease l d j)

  -- whether a holder's lease is among those that are revoked
  there_is : (d j : ℕ) (b : Lease) → client_lease l d j ≡ Some b → there b ≡ (w.home d == n)
  there_is d j b is = grind (arith, lease_among (l.levels.clients j) d b is, holder_home w l d j a (ap is_held is))

  was_away : (d j : ℕ) → w.home d ≢ n → IsRevokedLease k d j → IsRevokedLease l d j
  was_away d j other h = was_revoked there (client_lease l d j) (λ b is. there_is d j b is ∙ ne_eqb (w.home d) n other)
      (ap is_revoked (sym (lease_now d j)) ∙ h)

  stays_now : (d j : ℕ) → IsRevokedLease l d j → IsRevokedLease k d j
  stays_now d j h = ap is_revoked (lease_now d j) ∙ still_revoked there (client_lease l d j) h

  whole_log : (d : ℕ) → w.home d ≢ n → u.records d ≡ w.records d
  whole_log d other = e.fails.records d ∙ rw (kept_elsewhere w n d other) (part-whole w d)

  pub fail_keeps : WorldInvariant u → AreLeases u k
  fail_keeps s = record {
    lawful = chosen_lawful l.levels k.levels there a.lawful e.home e.clients e.nodes;
    held = search (held_now, lease_now, written_one, there, arith) parts 3;
    homes = grind arith;
    strangers = λ d no. e.home d ∙ a.strangers d (λ o. no (o.0, (let m : u.clients ≡ w.clients = e.fails.clients in omega (arith, o.1, m))));
    covered = λ d j h. elim (cases_eq (w.home d) n) [
      | inl here ↦ rw (e.cut_here d j here) (covers_end u d j)
      | inr other ↦ rw (e.cut_else d j other) (covers_same w u d j (l.cut d j) (whole_log d other) (e.fails.first d) (a.covered d j (was_away d j other h)))
    ];
    goals = grind (arith, was_away, kept_elsewhere);
    borders = λ d j h low. elim (cases_eq (w.home d) n) [
      | inl here ↦ rw (e.cut_here d j here) (s.coherent.end_border d)
      | inr other ↦
          grind (arith, was_away, kept_elsewhere)
    ];
    crashed = λ d j over h. stays_now d j (a.crashed d j (sym (e.fails.crashed d) ∙ over) (sym (held_now d j) ∙ h));
    failed = λ d j over h.
        (let held : is_held (client_lease l d j) ≡ true = sym (held_now d j) ∙ h in
        elim (cases_eq (w.home d) n) [
          | inl here ↦ ap is_revoked (lease_now d j) ∙ now_revoked there (client_lease l d j) (λ b is. there_is d j b is ∙ eq-eqb (w.home d) n here) held
          | inr other ↦ stays_now d j (a.failed d j (sym (e.fails.lives_else d other) ∙ over) held)
        ]);
  }
