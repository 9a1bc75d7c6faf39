-- What holds of leases through steps that leave them, and through a client more.
use Rattle.assise_model_leases.proofs.Common.{◌≡◌, ◌≢◌, ℕ, suc, ◌≤◌, ◌⊎◌, inl, inr, true, List, Some, None, ap, sym, ◌∙◌, subst, arith, both_ways, cases_eq}
use Rattle.assise_model_leases.proofs.Common.{cases_lt, false_from_ne_true, LogRecord, all_effects, record_of, touched, contains, NumberedCall, Write, lease_of}
use Rattle.assise_model_leases.proofs.Common.{serves, any_among, is_revoked, carries, lives, enrolled_lawful, Drops, WorldInvariant, World, IsClient}
use Rattle.assise_model_leases.proofs.Common.{step_at_home, of_fresh, OpensAt, CallsUnder, CoalescesUnder, Leases, client_lease, IsRevokedLease, CoversFrom}
use Rattle.assise_model_leases.proofs.Common.{AreLeases, is_held, lease_among}
use Rattle.assise_model_world.specs.Staying.{SameLogs, SameClients, KeepsLeases}
use Rattle.assise_model_leases.proofs.Shared.LookUps.{held_some, revoked_held, revoked_serves}
use Rattle.assise_model_leases.proofs.CutsCover.{covers_same, covers_call, covers_drop, covers_coalesced}

-- ---- who holds

is_client : (w : World) (c : ℕ) → (IsClient w c → ⊥) ⊎ IsClient w c
is_client w c = grind (arith, cases_lt)

-- who holds a lease is a client, and lives where it was opened
holder_client : (w : World) (l : Leases) (c i : ℕ) → AreLeases w l → is_held (client_lease l c i) ≡ true → IsClient w c
holder_client w l c i a h =
    let b = held_some (client_lease l c i) h in
    let in_it = lease_among (l.levels.clients i) c b.0 b.1 in
    let k = any_among (carries l.levels.home b.0) (l.levels.nodes i) (a.lawful.under i b.0 in_it.0) in
    let there : l.levels.home c ≡ Some k.0.holder = grind arith in
    elim (is_client w c) [
      | inl stranger ↦ absurd (none_some k.0.holder (sym (a.strangers c stranger) ∙ there))
      | inr o ↦ o
    ]
  where
    none_some : (m : ℕ) → None ≡ Some m → ⊥
    none_some m e = cc

pub holder_home : (w : World) (l : Leases) (c i : ℕ) → AreLeases w l → is_held (client_lease l c i) ≡ true → l.levels.home c ≡ Some (w.home c)
holder_home w l c i a h = a.homes c (holder_client w l c i a h)

pub revoked_holder : (l : Leases) (c i : ℕ) → IsRevokedLease l c i → is_held (client_lease l c i) ≡ true
revoked_holder l c i h = revoked_held (client_lease l c i) h

-- ---- clients stay

module _ (w u : World) (l : Leases) (a : AreLeases w l) (same : SameClients w u) where
  pub still_client : (c : ℕ) → IsClient u c → IsClient w c
  still_client c o = (o.0, (let e : u.clients ≡ w.clients = same.clients in omega (arith, o.1, e)))

  pub was_client : (c : ℕ) → IsClient w c → IsClient u c
  was_client c o = (o.0, (let e : u.clients ≡ w.clients = same.clients in omega (arith, o.1, e)))

  -- and leases do, and cuts cover
  still_leases : KeepsLeases w u → ((c i : ℕ) → IsRevokedLease l c i → CoversFrom u c i (l.cut c i)) →
      ((c i : ℕ) → w.lives c ≡ true → IsRevokedLease l c i → l.cut c i ≤ u.goal c) →
      ((c i : ℕ) → IsRevokedLease l c i → u.first c ≤ l.cut c i → u.border c (l.cut c i) ≡ true) → AreLeases u l
  still_leases leases covered goals borders = grind (arith, still_client, was_client)

-- ---- steps that leave leases

pub logs_keep : (w u : World) (l : Leases) → SameLogs w u → SameClients w u → KeepsLeases w u → ((c : ℕ) → w.goal c ≤ u.goal c) → AreLeases w l → AreLeases u l
logs_keep w u l logs clients leases goals a =
    still_leases w u l a clients leases (λ c i h. covers_same w u c i (l.cut c i) (logs.records c) (logs.first c) (a.covered c i h))
    (λ c i lives h. omega (arith, a.goals c i lives h, goals c))
    (λ c i h low. logs.border c (l.cut c i) ∙ a.borders c i h (subst (λ k. k ≤ l.cut c i) (logs.first c) low))

pub drop_keeps : (w u : World) (l : Leases) (f : ℕ → ℕ) → AreLeases w l → Drops w f u → AreLeases u l
drop_keeps w u l f a e =
    still_leases w u l a e.clients e.leases (λ c i h. covers_drop w u f c i (l.cut c i) e (a.covered c i h))
    (λ c i lives h. rw (e.goals c) (a.goals c i lives h))
    (grind arith)

pub call_keeps : (w u : World) (l : Leases) (x : NumberedCall) → AreLeases w l → CallsUnder w l x u → AreLeases u l
call_keeps w u l x a e =
    still_leases w u l a e.call.clients e.call.leases
    (λ c i h. elim (cases_eq c x.client) [
      | inl own ↦ subst (λ d. CoversFrom u d i (l.cut d i)) (sym own) (covered i (subst (λ d. IsRevokedLease l d i) own h))
      | inr other ↦ covers_same w u c i (l.cut c i) (e.call.records_else c other) (e.call.first c) (a.covered c i h)
    ])
    (λ c i lives h. rw (e.call.goals c) (a.goals c i lives h))
    (λ c i h low. e.call.border_old c (l.cut c i) (a.covered c i h).to_end ∙ a.borders c i h (subst (λ k. k ≤ l.cut c i) (e.call.first c) low))
  where
    -- the call changes no inode whose lease is revoked
    covered : (i : ℕ) → IsRevokedLease l x.client i → CoversFrom u x.client i (l.cut x.client i)
    covered i h =
        covers_call w u x.client i (l.cut x.client i) (record_of x.number (step_at_home w x).effects) (e.call.first x.client) e.call.records_own
        (false_from_ne_true (contains (touched (all_effects (record_of x.number (step_at_home w x).effects))) i)
        (λ t. both_ways (serves (client_lease l x.client i) Write) (revoked_serves (client_lease l x.client i) Write h)
        (e.changed i (of_fresh x.number (step_at_home w x).effects i t))))
        (a.covered x.client i h)

pub coalesced_keeps : (w u : World) (l : Leases) (c s : ℕ) (new : List LogRecord) (was : ℕ → ℕ) → WorldInvariant w → AreLeases w l →
    CoalescesUnder w l c s new was u → AreLeases u l
coalesced_keeps w u l c s new was so a e =
    still_leases w u l a e.coalesces.tail.clients e.coalesces.tail.leases
    (λ d i h. elim (cases_eq d c) [
      | inl own ↦ subst (λ d. CoversFrom u d i (l.cut d i)) (sym own) (covered i (subst (λ d. IsRevokedLease l d i) own h))
      | inr other ↦ covers_same w u d i (l.cut d i) (e.coalesces.tail.records_else d other) (e.coalesces.tail.first d) (a.covered d i h)
    ])
    (λ d i lives h. elim (cases_eq d c) [
      | inl own ↦
          let revoked : IsRevokedLease l c i = subst (λ d. IsRevokedLease l d i) own h in
          let low : l.cut c i ≤ w.goal c = a.goals c i e.coalesces.tail.lives revoked in
          subst (λ d. l.cut d i ≤ u.goal d) (sym own) (rw e.coalesces.tail.goal_here (omega (arith, low, (covered i revoked).to_end)))
      | inr other ↦ rw (e.coalesces.tail.goal_else d other) (a.goals d i lives h)
    ])
    (λ d i h low.
    let was : w.border d (l.cut d i) ≡ true = a.borders d i h (subst (λ k. k ≤ l.cut d i) (e.coalesces.tail.first d) low) in
    elim (cases_eq d c) [
      | inl own ↦
          let revoked : IsRevokedLease l c i = subst (λ d. IsRevokedLease l d i) own h in
          subst (λ d. u.border d (l.cut d i) ≡ true) (sym own)
          (e.coalesces.tail.border_old (l.cut c i) (e.cuts i revoked) ∙ subst (λ d. w.border d (l.cut d i) ≡ true) own was)
      | inr other ↦ e.coalesces.tail.border_else d (l.cut d i) other ∙ was
    ])
  where
    covered : (i : ℕ) → IsRevokedLease l c i → CoversFrom u c i (l.cut c i)
    covered i h = covers_coalesced w u c s new was so i (l.cut c i) e.coalesces (e.cuts i h) (a.covered c i h)

-- ---- a client more

pub open_keeps : (w u : World) (l k : Leases) (n : ℕ) → AreLeases w l → OpensAt w l n u k → AreLeases u k
open_keeps w u l k n a e = record {
  lawful = enrolled_lawful l.levels a.lawful k.levels (suc w.clients) n (a.strangers (suc w.clients) new_stranger) e.enrols;
  held = search (lease, arith) parts 3;
  homes = grind arith;
  strangers = grind arith;
  covered = λ c i h. rw (e.cuts c i) (covers_same w u c i (l.cut c i) (e.opens.logs.records c) (e.opens.logs.first c) (a.covered c i (was c i h)));
  goals = λ c i lives h.
      (let old : c ≢ suc w.clients = holder_old c i (revoked_holder l c i (was c i h)) in
      rw (e.cuts c i, e.opens.goal_else c old) (a.goals c i (sym (e.opens.lives_else c old) ∙ lives) (was c i h)));
  borders = grind arith;
  crashed = grind arith;
  failed = grind arith;
}
  where
    new_stranger : IsClient w (suc w.clients) → ⊥
    new_stranger o = omega (arith, o.1)

    lease : (c i : ℕ) → client_lease k c i ≡ client_lease l c i
    lease c i = ap (λ ls. lease_of ls c) (e.enrols.clients i)

    was : (c i : ℕ) → IsRevokedLease k c i → IsRevokedLease l c i
    was c i h = ap is_revoked (sym (lease c i)) ∙ h

    holder_old : (c i : ℕ) → is_held (client_lease l c i) ≡ true → c ≢ suc w.clients
    holder_old c i h new = (let o : IsClient w c = holder_client w l c i a h in omega (arith, o.1, new))

    older : (c : ℕ) → IsClient u c → c ≢ suc w.clients → IsClient w c
    older c o old = (o.0, (let n : u.clients ≡ suc w.clients = e.opens.clients in omega (arith, o.1, n, old)))
