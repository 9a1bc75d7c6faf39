-- A full node that is taken down: its logs are gone, and those of its clients are cut where they are kept.
use Rattle.assise_machine_failures.proofs.Common.{◌≡◌, ◌≢◌, ℕ, zero, suc, ◌<◌, ◌≤◌, ◌==◌, true, List, [], ◌∷◌, ◌++◌, length, Some, inl, inr, refl, arith}
use Rattle.assise_machine_failures.proofs.Common.{le_prop, ∥∥₁_elim, ∥∥₁_map, cases_Bool, nat_cmp, EntryValue, fails, RegionValue, Asked, TwoLevels, failed}
use Rattle.assise_machine_failures.proofs.Common.{Membership, full, standing_of, kept_at_failure, WorldInvariant, World, received_by_all, kept_low, losses_of}
use Rattle.assise_machine_failures.proofs.Common.{MachineInvariant, after_failure, with_clients_cut, with_clients_failed, ClientValue, client_in, failed_at}
use Rattle.assise_machine_failures.proofs.Common.{with_client, HasLog, IsUndigestedFrom, log_in, with_tails_cut, without_logs, is_full_in, observed, world_of}
use Rattle.assise_machine_failures.proofs.Common.{IsNumber, ShapeInvariant, StateValue, standings, node_number, seen_full, log_away, region_else, region_here}
use Rattle.assise_machine_failures.proofs.Common.{kept_in, kept_to}
use Rattle.std.specs.FinSet as set
use Rattle.assise_names.specs.declared.limits.TheConstants.{MOST_CLIENTS}
use Rattle.assise_machine_failures.proofs.KeptPlaces.{kept_place}

-- ---- numbers

pub few_clients : (s : StateValue) → ∥ MachineInvariant (observed s) ∥₁ → length s.clients < 4294967296
unfolding observed world_of
few_clients s holds =
    let few : length s.clients ≤ MOST_CLIENTS = ∥∥₁_elim holds le_prop (λ h. h.clients) in
    omega (arith, few)

pub sound_so : (s : StateValue) → ∥ MachineInvariant (observed s) ∥₁ → ∥ WorldInvariant (world_of s) ∥₁
unfolding observed
sound_so s holds = ∥∥₁_map holds (λ h. h.sound)

-- ---- where logs are kept

pub place_in : (w : World) (n m c : ℕ) (ks : List ℕ) → ks ≡ kept_to w n m → 0 < c → c ≤ m → kept_in ks c ≡ kept_at_failure w n c
place_in w n m zero ks is some low = absurd (omega (arith, some))
place_in w n m (suc c) ks is some low = grind (arith, kept_place)

-- what is cut depends on the places of clients 1 to m alone
pub same_cuts : (n : ℕ) (cs : List ClientValue) (f g : ℕ → ℕ) (m : ℕ) (rs : List RegionValue) → ((c : ℕ) → 0 < c → c ≤ m → f c ≡ g c) →
    with_clients_cut n cs f m rs ≡ with_clients_cut n cs g m rs
same_cuts n cs f g zero rs same = refl
same_cuts n cs f g (suc m) rs same =
    let rest : with_clients_cut n cs f m rs ≡ with_clients_cut n cs g m rs = same_cuts n cs f g m rs (λ c some low. same c some (omega (arith, low))) in
    let last : f (suc m) ≡ g (suc m) = same (suc m) (omega arith) (omega arith) in
    elim (cases_Bool ((client_in cs (suc m)).home == n)) [
      | inl here ↦ rw here (λ i. with_tails_cut (rest i) (suc m) (last i))
      | inr other ↦ rw other rest
    ]

pub same_ends : (n : ℕ) (f g : ℕ → ℕ) (m : ℕ) (cs : List ClientValue) → ((c : ℕ) → 0 < c → c ≤ m → f c ≡ g c) → with_clients_failed n f m cs
    ≡ with_clients_failed n g m cs
same_ends n f g zero cs same = refl
same_ends n f g (suc m) cs same =
    let rest : with_clients_failed n f m cs ≡ with_clients_failed n g m cs = same_ends n f g m cs (λ c some low. same c some (omega (arith, low))) in
    let last : f (suc m) ≡ g (suc m) = same (suc m) (omega arith) (omega arith) in
    elim (cases_Bool ((client_in cs (suc m)).home == n)) [
      | inl here ↦ rw here (λ i. with_client (rest i) (suc m) (failed_at (last i) (client_in cs (suc m))))
      | inr other ↦ rw other rest
    ]

-- ---- nothing is digested from there on, and no client of the node lives where it has a log

module _ (s : StateValue) (n : ℕ) (shape : ShapeInvariant s) (stands : standing_of (standings s) n ≡ Some full) (sound : ∥ WorldInvariant (world_of s) ∥₁) where
  pub number : IsNumber s.nodes n
  number = node_number s n full shape stands

  -- the failed node has no log
  other_node : (k c : ℕ) → HasLog (without_logs s.nodes n) k c → k ≢ n
  other_node k c has same = grind (arith, region_here, number)

  is_full_there : (k c : ℕ) → HasLog (without_logs s.nodes n) k c → is_full_in (standings s) k ≡ true
  is_full_there k c has = grind (arith, other_node k c has, region_else, number)

  digested_low : (k c : ℕ) → is_full_in (standings s) k ≡ true → (world_of s).digested k c ≤ kept_at_failure (world_of s) n c
  digested_low k c f =
      let acked : (world_of s).digested k c ≤ received_by_all (world_of s) c = ∥∥₁_elim sound le_prop (λ h. (h.coherent.order k c (seen_full s k f)).replicated)
      in
      let low : received_by_all (world_of s) c ≤ kept_at_failure (world_of s) n c = kept_low (world_of s) n c in
      omega (arith, acked, low)

  pub undigested : (ks : List ℕ) → ks ≡ kept_to (world_of s) n (length s.clients) → (k c : ℕ) → IsNumber s.clients c → (client_in s.clients c).home ≡ n →
      HasLog (without_logs s.nodes n) k c →
      IsUndigestedFrom (log_in (without_logs s.nodes n) k c) (kept_in ks c)
  unfolding world_of
  undigested ks is k c client home has = grind (
    arith,
    other_node k c has,
    log_away,
    number,
    digested_low k c (is_full_there k c has),
    place_in (world_of s) n
        (length s.clients) c ks is client.some client.there,
  )

-- ---- it is the state after the failure

pub is_after : (s : StateValue) (n : ℕ) (inodes : set.FinSet nat_cmp) (levels : TwoLevels) (asked : List Asked) (ks : List ℕ) (last : ℕ) (rs : List RegionValue)
    (m : Membership) (cs : List ClientValue) (cuts : List Asked) (h : List EntryValue) →
    ks ≡ kept_to (world_of s) n (length s.clients) → last ≡ length s.clients → rs ≡ with_clients_cut n s.clients (kept_in ks) last (without_logs s.nodes n) →
    m ≡ failed s.members n inodes →
    cs ≡ with_clients_failed n (kept_in ks) last s.clients → cuts ≡ s.cuts ++ asked → h ≡ s.history ++ fails n (losses_of (world_of s) n) ∷ [] →
    ◌≡◌ {A = StateValue} (record { nodes = rs; members = m; clients = cs; levels = levels; cuts = cuts; history = h; limit = s.limit })
    (after_failure s n inodes levels asked)
is_after s n inodes levels asked ks last rs m cs cuts h kept all nodes members clients noted told = grind
    (arith, kept_in, kept_at_failure, world_of, place_in, with_clients_cut, without_logs, same_cuts, with_clients_failed, same_ends)
