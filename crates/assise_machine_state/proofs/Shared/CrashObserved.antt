-- What the laws observe of a client that crashes.
use Rattle.assise_machine_state.proofs.Common.{◌≡◌, ℕ, ◌==◌, true, false, List, ◌∷◌, [], ◌++◌, refl, arith, ne_eqb, durability-still, EntryValue, crashes}
use Rattle.assise_machine_state.proofs.Common.{Asked, is_own, IsRevoked, TwoLevels, Crashes, World, end_of_log, CrashesWith, kept_crash, after_crash}
use Rattle.assise_machine_state.proofs.Common.{ClientValue, client_in, crashed_at, with_client, world_of, IsNumber, AreLeft, ShapeInvariant, StateValue}
use Rattle.assise_machine_state.proofs.Common.{leases_of}
use Rattle.assise_machine_state.proofs.Shared.Fullness.{lives_number}
use Rattle.assise_machine_state.proofs.Shared.Noted.{left_else, unasked_cut}
use Rattle.assise_machine_state.proofs.Shared.ItemSeen.{client_else, client_here}
use Rattle.assise_machine_state.proofs.Shared.ShapedClients.{Remain, logs_stay, nodes_stay, one_remains, still_shaped}
use Rattle.assise_machine_state.proofs.SameObserved.{leases_revoked}

module _ (s : StateValue) (c : ℕ) (levels : TwoLevels) (asked : List Asked) where
  abbrev now : ClientValue
  now = crashed_at (end_of_log (world_of s) c) (client_in s.clients c)

  abbrev w : World
  w = world_of s

  abbrev w' : World
  w' = world_of (after_crash s c levels asked)

  abbrev told : List EntryValue
  told = s.history ++ crashes c ∷ []

  abbrev cs : List ClientValue
  cs = with_client s.clients c now

  remain : Remain s.clients cs
  remain = one_remains s.clients c now refl refl refl refl refl

  crash_of : IsNumber s.clients c → w.lives c ≡ true → w.crashed c ≡ false → IsRevoked s.levels levels c → Crashes w c w'
  unfolding world_of
  crash_of there lives runs revoked =
      let logs = logs_stay s cs levels (s.cuts ++ asked) told remain (kept_crash s.history c) in
      let nodes = nodes_stay s cs levels (s.cuts ++ asked) told in
      let leases = leases_revoked s (after_crash s c levels asked) (is_own c) revoked.clients in
      search (remain, client_here, client_else, arith) parts 3

  pub crash_seen : w.lives c ≡ true → w.crashed c ≡ false → IsRevoked s.levels levels c → AreLeft s (λ d. d == c) asked →
      CrashesWith w (leases_of s) c w' (leases_of (after_crash s c levels asked))
  unfolding leases_of
  crash_seen lives runs revoked left =
      let there : IsNumber s.clients c = lives_number s c lives in
      (search (crash_of, client_here, client_else, unasked_cut, left_else, ne_eqb, arith) parts 3)

  pub crash_shaped : ShapeInvariant s → ShapeInvariant (after_crash s c levels asked)
  crash_shaped shape = still_shaped s cs levels (s.cuts ++ asked) told remain (λ d. durability-still s.history (crashes c) d refl) shape
