-- The cuts of the leases that a call revoked are answers of their holders' revokers.
use Rattle.assise_machine_calls.proofs.Common.{◌≡◌, ℕ, true, not, ◌&&◌, Option, ap, sym, subst, ◌∙◌, and_parts, not-true, true≢false, Op, Dsync, Fsync}
use Rattle.assise_machine_calls.proofs.Common.{Durability, Pessimistic, Optimistic, NumberedLog, IsRaisedAnswer, SameRevokers, is_revoked, Leases, client_lease}
use Rattle.assise_machine_calls.proofs.Common.{Syncing, is_noted, is_refused, is_replicating, is_synced, lacks_memory, is_coalesced, Answer, Dsyncing, Fsyncing}
use Rattle.assise_machine_calls.proofs.Common.{Machine, CutsAreAnswers, clients_log}
use Rattle.assise_model_events.specs.Dsyncs.{is_refused, is_synced, lacks_memory}

-- the same leases are revoked
abbrev pub KeepsRevoked : Leases → Leases → Type 0
KeepsRevoked l l' = (c i : ℕ) → is_revoked (client_lease l' c i) ≡ is_revoked (client_lease l c i)

-- a sync leaves leases as they are, and so does an fsync that waits for nothing
sync_leases : (m m' : Machine) (c : ℕ) (op : Op) (a : Answer) → Syncing m c op a m' → m'.leases ≡ m.leases
sync_leases m m' c op a (is_synced reply fine is e) = e.leases
sync_leases m m' c op a (is_replicating fine is e) = e.leases
sync_leases m m' c op a (lacks_memory fine all is same) = ap (λ x. x.leases) same
sync_leases m m' c op a (is_refused r fault is same) = ap (λ x. x.leases) same

fsync_leases : (m m' : Machine) (c : ℕ) (u : Durability) (a : Answer) → Fsyncing u m c a m' → m'.leases ≡ m.leases
fsync_leases m m' c Pessimistic a e = sync_leases m m' c Fsync a e
fsync_leases m m' c Optimistic a (is_noted reply fine is e) = e.leases
fsync_leases m m' c Optimistic a (lacks_memory fine is same) = ap (λ x. x.leases) same
fsync_leases m m' c Optimistic a (is_refused r fault is same) = ap (λ x. x.leases) same

-- so does a dsync
dsync_leases : (m m' : Machine) (c : ℕ) (u : Durability) (a : Answer) → Dsyncing u m c a m' → m'.leases ≡ m.leases
dsync_leases m m' c Pessimistic a e = sync_leases m m' c Dsync a e
dsync_leases m m' c Optimistic a (is_synced reply fine is e) = e.leases
dsync_leases m m' c Optimistic a (is_coalesced fine is e) = e.leases
dsync_leases m m' c Optimistic a (lacks_memory fine is same) = ap (λ x. x.leases) same
dsync_leases m m' c Optimistic a (is_refused r fault is same) = ap (λ x. x.leases) same

module _ {C : Type 0} (answers : C → NumberedLog → ℕ → ℕ → Type 0) where
  -- nothing is revoked
  pub nothing_revoked : (stored : ℕ → Option C) (m m' : Machine) → KeepsRevoked m.leases m'.leases → CutsAreAnswers answers stored m m'
  nothing_revoked stored m m' same c i fresh =
      let parts = and_parts (not (is_revoked (client_lease m.leases c i))) (is_revoked (client_lease m'.leases c i)) fresh in
      absurd (true≢false (sym parts.1 ∙ same c i ∙ not-true (is_revoked (client_lease m.leases c i)) parts.0))

  -- or it is once leases were got
  pub revoked_later : (stored kept : ℕ → Option C) (m v m' : Machine) → KeepsRevoked m.leases v.leases → ((c : ℕ) → clients_log v c ≡ clients_log m c) →
      SameRevokers stored kept →
      CutsAreAnswers answers kept v m' → CutsAreAnswers answers stored m m'
  revoked_later stored kept m v m' same logs stays cuts c i fresh =
      let found = cuts c i (subst (λ b. (not b && is_revoked (client_lease m'.leases c i)) ≡ true) (sym (same c i)) fresh) in
      (found.0, sym (stays c) ∙ found.1, subst (λ l. IsRaisedAnswer answers found.0 l i (m'.leases.cut c i)) (logs c) found.2)

  pub dsync_revokes_nothing : (stored : ℕ → Option C) (m m' : Machine) (c : ℕ) (u : Durability) (a : Answer) → Dsyncing u m c a m' →
      CutsAreAnswers answers stored m m'
  dsync_revokes_nothing stored m m' c u a e = nothing_revoked stored m m' (λ d i. ap (λ l. is_revoked (client_lease l d i)) (dsync_leases m m' c u a e))

  pub fsync_revokes_nothing : (stored : ℕ → Option C) (m m' : Machine) (c : ℕ) (u : Durability) (a : Answer) → Fsyncing u m c a m' →
      CutsAreAnswers answers stored m m'
  fsync_revokes_nothing stored m m' c u a e = nothing_revoked stored m m' (λ d i. ap (λ l. is_revoked (client_lease l d i)) (fsync_leases m m' c u a e))
