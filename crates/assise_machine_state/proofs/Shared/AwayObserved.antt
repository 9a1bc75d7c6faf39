-- What the laws observe where only nodes change that aren't full.
use Rattle.assise_machine_state.proofs.Common.{◌≡◌, ◌≢◌, ℕ, ◌==◌, if◌then◌else◌, length, Option, refl, ap, subst, ◌∙◌, eq-eqb, arith, cases_eq, ne_eqb, Content}
use Rattle.assise_machine_state.proofs.Common.{values, get-with_value, RegionValue, no_log, with_inode, Membership, is_border, Rests, Full, after_inode}
use Rattle.assise_machine_state.proofs.Common.{after_members, client_in, log_in, region_in, is_full_in, own_node, own_seen, world_of, IsNumber, item_at}
use Rattle.assise_machine_state.proofs.Common.{ShapeInvariant, StateValue, standings}
use Rattle.assise_machine_state.proofs.Shared.LogChanges.{region_else, region_here, region_kept}
use Rattle.assise_machine_state.proofs.Shared.ShapeKept.{shaped_as, still_marked}
use Rattle.assise_machine_state.proofs.Shared.Standings.{same_full, same_own}
use Rattle.assise_machine_state.proofs.SameObserved.{clients_as, goals_as, leases_as, logs_as, node_as}
use Rattle.assise_machine_state.proofs.Shared.ItemSeen.{length-with}

-- ---- members of which the same are full

module _ (s : StateValue) (m : Membership) (long : length m.nodes ≡ length (standings s)) (same : (n : ℕ) → is_full_in m.nodes n ≡ is_full_in (standings s) n)
  where
    abbrev u : StateValue
    u = after_members s m

    own_stays : (c : ℕ) → own_seen u c ≡ own_seen s c
    unfolding own_seen
    own_stays c = ap (λ n. log_in s.nodes n c) (same_own m.nodes (standings s) long same (client_in s.clients c))

    pub members_rest : Rests (world_of s) (world_of u)
    unfolding world_of
    members_rest = search (logs_as, own_stays, clients_as, goals_as, leases_as, same_full, node_as, arith) parts 3

pub members_areas : (s : StateValue) (m : Membership) (n i : ℕ) → (world_of (after_members s m)).area n i ≡ (world_of s).area n i
unfolding world_of
members_areas s m n i = refl

pub members_shaped : (s : StateValue) (m : Membership) → ShapeInvariant s → length m.nodes ≡ length (standings s) →
    ((n : ℕ) → is_full_in m.nodes n ≡ is_full_in (standings s) n) → ShapeInvariant (after_members s m)
members_shaped s m shape long same = grind (arith, shaped_as, still_marked, own_stays)

-- ---- an inode of a node that isn't full

module _ (s : StateValue) (n i : ℕ) (v : Option Content) (there : IsNumber s.nodes n) where
  abbrev changed : RegionValue
  changed = with_inode (region_in s.nodes n) i v

  abbrev t : StateValue
  t = after_inode s n i v

  -- logs stay
  same_logs : (k : ℕ) → (region_in t.nodes k).logs ≡ (region_in s.nodes k).logs
  same_logs k = region_kept s.nodes n changed (λ r. r.logs) refl k

  same_log : (k c : ℕ) → log_in t.nodes k c ≡ log_in s.nodes k c
  unfolding log_in
  same_log k c = ap (λ ls. item_at no_log ls c) (same_logs k)

  own_same : (c : ℕ) → own_seen t c ≡ own_seen s c
  unfolding own_seen
  own_same c = same_log (own_node (standings s) (client_in s.clients c)) c

  -- and so do the inodes of other nodes
  area_else : (k j : ℕ) → k ≢ n → (world_of t).area k j ≡ (world_of s).area k j
  unfolding world_of
  area_else k j other = ap (λ r. values r.inodes j) (region_else s.nodes n changed there k other)

  area_at : (j : ℕ) → (world_of t).area n j ≡ (if i == j then v else (world_of s).area n j)
  unfolding world_of
  area_at j = grind (arith, region_here, get-with_value)

  pub inode_here : (world_of t).area n i ≡ v
  inode_here = area_at i ∙ rw (eq-eqb i i refl) refl

  pub inode_else : (k j : ℕ) → (k ≡ n → j ≡ i → ⊥) → (world_of t).area k j ≡ (world_of s).area k j
  inode_else k j other = grind (arith, cases_eq, area_at, ne_eqb, area_else)

  pub inode_rests : (Full (world_of s) n → ⊥) → Rests (world_of s) (world_of t)
  unfolding world_of
  inode_rests away = record {
    logs = logs_as s t refl refl (λ c. ap (λ l. l.log.records) (own_same c)) (λ c. ap (λ l. l.log.first) (own_same c))
        (λ c k. ap (λ l. is_border l.log k) (own_same c));
    clients = clients_as s t refl;
    goals = goals_as s t refl;
    leases = leases_as s t (λ j. refl);
    nodes = record { full = refl; same = λ k f. node_as s t k (λ j. area_else k j (λ is. away (subst (λ m. Full (world_of s) m) is f))) (same_log k) };
  }

pub inode_shaped : (s : StateValue) (n i : ℕ) (v : Option Content) → ShapeInvariant s → IsNumber s.nodes n → ShapeInvariant (after_inode s n i v)
inode_shaped s n i v shape there = grind (arith, shaped_as, length-with, same_logs, same_log, still_marked, own_same)
