-- What the laws observe of records that a node digests.
use Rattle.assise_machine_state.proofs.Common.{◌≡◌, ◌≢◌, ℕ, ◌-◌, List, length, map, take, refl, ap, ◌∙◌, arith, length-map, nat_cmp, all_effects}
use Rattle.assise_machine_state.proofs.Common.{get-all_applied, InodeMap, values, all_applied, contains, touched, value_after, log_end, is_border, ReceivedLog}
use Rattle.assise_machine_state.proofs.Common.{RegionValue, ahead, digested_further, noted, stale_again, Standing, full, is_full, MayDigest, Digests}
use Rattle.assise_machine_state.proofs.Common.{WorldInvariant, World, undigested_below, DigestsNoted, after_digest, client_in, HasLog, log_in, region_in}
use Rattle.assise_machine_state.proofs.Common.{is_full_in, own_node, own_seen, world_of, IsNumber, ShapeInvariant, StateValue, standings}
use Rattle.std.specs.FinSet as set
use Rattle.assise_machine_state.proofs.Shared.Fullness.{full_seen, has_log, same_first}
use Rattle.assise_machine_state.proofs.Shared.LogChanges.{log_else, log_here, log_same, region_else, region_here, region_with}
use Rattle.assise_machine_state.proofs.Shared.ReadObserved.{ahead_first}
use Rattle.assise_machine_state.proofs.Shared.ShapeKept.{shaped_log, still_marked}
use Rattle.assise_machine_state.proofs.Shared.Standings.{mapped_full, same_full, same_own}
use Rattle.assise_machine_state.proofs.SameObserved.{clients_as, goals_as, leases_as, logs_as}

-- ---- the same nodes are full after the manager noted inodes

one_noted : (n : ℕ) (inodes : set.FinSet nat_cmp) (x : Standing) → is_full (stale_again n inodes x) ≡ is_full x
one_noted n inodes x = grind arith

module _ (nodes : List Standing) (n : ℕ) (inodes : set.FinSet nat_cmp) where
  same_count : length (map (stale_again n inodes) nodes) ≡ length nodes
  same_count = length-map nodes (stale_again n inodes)

  still_full : (k : ℕ) → is_full_in (map (stale_again n inodes) nodes) k ≡ is_full_in nodes k
  still_full k = mapped_full (stale_again n inodes) (one_noted n inodes) nodes k

-- ---- the records below place k are made of node n's inodes

abbrev further : StateValue → (n c k : ℕ) → ReceivedLog
further s n c k = digested_further (log_in s.nodes n c) (k - (log_in s.nodes n c).digested)

abbrev inodes_now : StateValue → (n c k : ℕ) → InodeMap
inodes_now s n c k = all_applied (region_in s.nodes n).inodes (all_effects (take (k - (log_in s.nodes n c).digested) (ahead (log_in s.nodes n c))))

-- logs stay but for what is digested of them

same_log : (s : StateValue) (n c k : ℕ) (inodes : set.FinSet nat_cmp) (m d : ℕ) →
    (log_in (after_digest s n c k inodes).nodes m d).log ≡ (log_in s.nodes m d).log
same_log s n c k inodes m d = log_same s.nodes n c (inodes_now s n c k) (further s n c k) (λ x. x.log) m d refl

own_log : (s : StateValue) (n c k : ℕ) (inodes : set.FinSet nat_cmp) (d : ℕ) → (own_seen (after_digest s n c k inodes) d).log ≡ (own_seen s d).log
unfolding own_seen
own_log s n c k inodes d =
    let t : StateValue = after_digest s n c k inodes in
    ap (λ m. (log_in t.nodes m d).log)
    (same_own (standings t) (standings s) (same_count (standings s) n inodes) (still_full (standings s) n inodes) (client_in s.clients d))
    ∙ same_log s n c k inodes (own_node (standings s) (client_in s.clients d)) d

pub digest_shaped : (s : StateValue) (n c k : ℕ) (inodes : set.FinSet nat_cmp) → ShapeInvariant s → ShapeInvariant (after_digest s n c k inodes)
digest_shaped s n c k inodes shape =
    shaped_log s (noted s.members n inodes) n c (inodes_now s n c k) (further s n c k) shape refl refl
    (still_marked s (after_digest s n c k inodes) (same_log s n c k inodes) (own_log s n c k inodes)) (same_count (standings s) n inodes)
    (still_full (standings s) n inodes)

module _ (s : StateValue) (n c k : ℕ) (inodes : set.FinSet nat_cmp) (shape : ShapeInvariant s)
    (first : (log_in s.nodes n c).log.first ≡ (world_of s).first c) (client : IsNumber s.clients c) (may : MayDigest (world_of s) n c k) where
  abbrev w : World
  w = world_of s

  abbrev t : StateValue
  t = after_digest s n c k inodes

  abbrev w' : World
  w' = world_of t

  abbrev now : RegionValue
  now = region_with s.nodes n c (inodes_now s n c k) (further s n c k)

  has : HasLog s.nodes n c
  has = has_log s n c shape (full_seen s n may.full_node) client

  -- all but the area and the digested number stays

  digested_now : w'.digested n c ≡ k
  unfolding world_of
  digested_now = grind (arith, log_here, has)

  -- the area has what the observed records make of it
  area_now : (i : ℕ) → w'.area n i ≡ value_after i (w.area n i) (all_effects (undigested_below w n c k))
  unfolding undigested_below world_of
  area_now i = grind (arith, region_here, has, get-all_applied, ahead_first)

  area_beside : (m i : ℕ) → m ≢ n → w'.area m i ≡ w.area m i
  unfolding world_of
  area_beside m i other = ap (λ r. values r.inodes i) (region_else s.nodes n now has.node m other)

  digested : Digests w n c k w'
  unfolding world_of
  digested =
      let own = own_log s n c k inodes in
      let logs = logs_as s t refl refl (λ d. ap (λ x. x.records) (own d)) (λ d. ap (λ x. x.first) (own d)) (λ d j. ap (λ x. is_border x j) (own d)) in
      let full = same_full (standings t) (standings s) (same_count (standings s) n inodes) (still_full (standings s) n inodes) in
      let log : (m d : ℕ) → w'.log m d ≡ w.log m d = λ m d. ap (λ x. x.records) (same_log s n c k inodes m d) in
      let received : (m d : ℕ) → w'.received m d ≡ w.received m d = λ m d. ap (λ x. log_end x) (same_log s n c k inodes m d) in
      let else_same : (m d : ℕ) → (m ≡ n → d ≡ c → ⊥) → w'.digested m d ≡ w.digested m d =
      λ m d other. ap (λ x. x.digested) (log_else s.nodes n c (inodes_now s n c k) (further s n c k) has m d other) in
      search (log, received, else_same, digested_now, area_now, area_beside, clients_as, goals_as, leases_as) parts 3

  pub noted_prefix : ((i : ℕ) → set.contains inodes i ≡ contains (touched (all_effects (undigested_below w n c k))) i) →
      DigestsNoted w s.members n c k inodes w' t.members
  noted_prefix touches = grind (arith, digested, area_beside)

pub digest_noted : (s : StateValue) (n c k : ℕ) (inodes : set.FinSet nat_cmp) → ShapeInvariant s → WorldInvariant (world_of s) → IsNumber s.clients c →
    MayDigest (world_of s) n c k →
    ((i : ℕ) → set.contains inodes i ≡ contains (touched (all_effects (undigested_below (world_of s) n c k))) i) →
    DigestsNoted (world_of s) s.members n c k inodes (world_of (after_digest s n c k inodes)) (after_digest s n c k inodes).members
digest_noted s n c k inodes shape sound client may touches = noted_prefix s n c k inodes shape (same_first s n c sound may.full_node) client may touches
