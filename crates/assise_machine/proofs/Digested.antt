-- A node's digest, as the laws have it.
use Rattle.assise_machine.proofs.Common.{◌≡◌, ◌≢◌, ℕ, suc, ◌+◌, ◌-◌, ◌<◌, ◌≤◌, min, true, false, List, [], ◌∷◌, length, map, take, inl, inr, refl, ap, sym, ◌∙◌}
use Rattle.assise_machine.proofs.Common.{arith, ∥∥₁_elim, ∥∥₁_map, props, cases_lt, false_from_ne_true, nat_cmp, all_effects, contains, touched, NumberedLog}
use Rattle.assise_machine.proofs.Common.{log_end, is_border, border_end, border_first, whole_here, ReceivedLog, RegionValue, TouchDisjoint, ahead}
use Rattle.assise_machine.proofs.Common.{digested_further, log_at, noted, stale_again, with_written, Membership, Standing, down, full, full_nodes, returning}
use Rattle.assise_machine.proofs.Common.{MayDigest, Compatible, Guarded, IsOrdered, WorldInvariant, WritesAreHeld, Full, World, undigested_below}
use Rattle.assise_machine.proofs.Common.{received_by_all, received_by_all-below, received_by_all-border, DigestsNoted, undigested, HasLog, log_in, region_in}
use Rattle.assise_machine.proofs.Common.{with_digested_in, with_log_in, is_full_in, own_seen, world_of, IsNumber, item_at, ShapeInvariant, StateValue}
use Rattle.assise_machine.proofs.Common.{standings, has_log, same_first, seen_full, border_inside, so_many_marks, ahead_first, length-with, EndsWithGroup}
use Rattle.assise_machine.proofs.Common.{NoneListed, digests_some}
use Rattle.std.specs.FinSet as set
use Rattle.std.specs.FinSet.{contains-from_list_nat}
use Rattle.assise_private_log.specs.Borders.{whole_count}
use Rattle.assise_model_world.proofs.Shared.DigestKeeps.{digest_sound}
use Rattle.assise_model_world.proofs.Shared.Logs.{contains-drop, contains-take}
use Rattle.assise_manager.proofs.Shared.Sets.{union-empty}
use Rattle.assise_machine_state.proofs.Shared.DigestSeen.{digest_shaped, noted_prefix}
use Rattle.assise_machine_state.proofs.Shared.LogChanges.{log_back, log_here, region_here}
use Rattle.assise_machine.proofs.Unlisted.{nothing_noted}

-- ---- nothing is changed where nothing is digested

none_written : (lists : List (set.FinSet nat_cmp)) → with_written lists set.empty ≡ lists
none_written [] = refl
none_written (list ∷ []) = ap (λ s. s ∷ []) (union-empty list)
none_written (list ∷ next ∷ lists) = ap (λ ls. list ∷ ls) (none_written (next ∷ lists))

none_stale : (n : ℕ) (x : Standing) → stale_again n set.empty x ≡ x
none_stale n full = refl
none_stale n (down since) = refl
none_stale n (returning since donor stale) = grind (arith, union-empty)

none_again : (n : ℕ) (nodes : List Standing) → map (stale_again n set.empty) nodes ≡ nodes
none_again n [] = refl
none_again n (x ∷ xs) = λ i. none_stale n x i ∷ none_again n xs i

none_noted : (m : Membership) (n : ℕ) → noted m n set.empty ≡ m
none_noted m n = λ i. record { epoch = m.epoch; nodes = none_again n m.nodes i; written = none_written m.written i; levels = m.levels }

none_further : (l : ReceivedLog) → digested_further l 0 ≡ l
none_further l = (let same : l.digested + 0 ≡ l.digested = omega arith in (λ i. record { log = l.log; digested = same i; at_home = l.at_home }))

none_made : (rs : List RegionValue) (n c : ℕ) → with_digested_in rs n c 0 ≡ rs
none_made rs n c = ap (with_log_in rs n c) (none_further (log_in rs n c)) ∙ log_back rs n c

pub none_digested : (s : StateValue) (n c : ℕ) → HasLog s.nodes n c → digests_some s n c 0 ≡ s
unfolding world_of
none_digested s n c has =
    let none : (log_in s.nodes n c).digested + 0 - (log_in s.nodes n c).digested ≡ 0 = omega arith in
    let nodes : with_digested_in s.nodes n c ((log_in s.nodes n c).digested + 0 - (log_in s.nodes n c).digested) ≡ s.nodes =
    grind (arith, none_made) in
    (λ i. record s { nodes = nodes i; members = none_noted s.members n i })

-- ---- one client's records

-- as the code finds it

pub digests_as : (s : StateValue) (n c count : ℕ) → HasLog s.nodes n c → (rs : List RegionValue) (m : Membership) (is : List ℕ) →
    rs ≡ with_digested_in s.nodes n c count →
    m ≡ noted s.members n (set.from_list is) → is ≡ touched (all_effects (take count (ahead (log_in s.nodes n c)))) → record s { nodes = rs; members = m }
    ≡ digests_some s n c count
unfolding world_of
digests_as s n c count has rs m is nodes members inodes = grind arith

-- as the code finds it while all nodes are full, when nothing is noted

pub digests_unlisted : (s : StateValue) (n c count : ℕ) → HasLog s.nodes n c → length (standings s) ≤ length (full_nodes (standings s)) → NoneListed s.members →
    (rs : List RegionValue) → rs ≡ with_digested_in s.nodes n c count → record s { nodes = rs } ≡ digests_some s n c count
digests_unlisted s n c count has many none rs nodes =
    let inodes = touched (all_effects (take count (ahead (log_in s.nodes n c)))) in
    digests_as s n c count has rs s.members inodes nodes (sym (nothing_noted s.members n (set.from_list inodes) many none)) refl

-- what the node has then

pub has_after : (rs : List RegionValue) (n c count : ℕ) → HasLog rs n c → HasLog (with_digested_in rs n c count) n c
has_after rs n c count has = grind (arith, length-with, region_here)

pub log_after : (rs : List RegionValue) (n c count : ℕ) → HasLog rs n c → log_in (with_digested_in rs n c count) n c ≡ digested_further (log_in rs n c) count
log_after rs n c count has = grind (arith, log_here)

module _ (s : StateValue) (n c : ℕ) (shape : ShapeInvariant s) (sound : ∥ WorldInvariant (world_of s) ∥₁) (here : is_full_in (standings s) n ≡ true)
    (client : IsNumber s.clients c) where
  abbrev w : World
  w = world_of s

  pub has_here : HasLog s.nodes n c
  has_here = has_log s n c shape here client

  full_here : Full w n
  full_here = seen_full s n here

  first_is : (log_in s.nodes n c).log.first ≡ w.first c
  first_is = ∥∥₁_elim sound (search props) (λ h. same_first s n c h full_here)

  pub order : IsOrdered w n c
  order = ∥∥₁_elim sound (hlevel props) (λ h. h.coherent.order n c full_here)

  pub digested_is : w.digested n c ≡ (log_in s.nodes n c).digested
  unfolding world_of
  digested_is = refl

  -- as the code finds it: how many records may be digested
  pub wanted_as : (from acked at_most wanted : ℕ) → from ≡ (log_in s.nodes n c).digested → acked ≡ received_by_all w c →
      wanted ≡ min at_most (acked - from) → wanted ≡ min at_most (undigested w n c)
  wanted_as from acked at_most wanted log all is = grind (arith, digested_is)

  -- no other client's records touch what these touch

  written : WorldInvariant w → (j i : ℕ) → contains (touched (all_effects (ahead (log_at (region_in s.nodes n) j)))) i ≡ true → w.writes (suc j) i ≡ true
  unfolding world_of log_in item_at Guarded
  written h j i touches =
      let l = log_at (region_in s.nodes n) j in
      let log : contains (touched (all_effects l.log.records)) i ≡ true = contains-drop l.log.records (l.digested - l.log.first) i touches in
      let prefix : l.log.records ≡ take (w.received n (suc j) - w.first (suc j)) (w.records (suc j)) = h.prefixes n (suc j) full_here in
      h.coherent.guarded (suc j) i
      (contains-take (w.records (suc j)) (w.received n (suc j) - w.first (suc j)) i (ap (λ rs. contains (touched (all_effects rs)) i) (sym prefix) ∙ log))

  disjoint_of : WorldInvariant w → (j k : ℕ) → j ≢ k → (i : ℕ) → contains (touched (all_effects (ahead (log_at (region_in s.nodes n) j)))) i ≡ true →
      contains (touched (all_effects (ahead (log_at (region_in s.nodes n) k)))) i ≡ false
  unfolding Compatible WritesAreHeld
  disjoint_of h j k other i touches =
      false_from_ne_true (contains (touched (all_effects (ahead (log_at (region_in s.nodes n) k)))) i)
      (λ there. h.coherent.compatible (suc j) (suc k) i (λ is. other (omega (arith, is))) (written h j i touches) (h.held (suc k) i (written h k i there)))

  pub touch_disjoint : TouchDisjoint (region_in s.nodes n)
  touch_disjoint j k other i touches = ∥∥₁_elim sound (search props) (λ h. disjoint_of h j k other i touches)

  -- ---- groups

  all_border : w.border c (received_by_all w c) ≡ true
  all_border = ∥∥₁_elim sound (search props) (λ h. received_by_all-border w h.coherent c)

  -- the node's log has the borders of the client's own as far as it goes
  border_there : (k : ℕ) → k ≤ w.received n c → is_border (log_in s.nodes n c).log k ≡ w.border c k
  unfolding world_of
  border_there k low =
      let l : NumberedLog = (log_in s.nodes n c).log in
      elim (cases_lt l.first k) [
        | inl inside ↦ (elim (cases_lt k (log_end l)) [
          | inl before ↦ border_inside (is_border (own_seen s c).log) l k (shape.marked n c) inside before
          | inr past ↦
              let last : k ≡ w.received n c = omega (arith, low, past) in
              border_end l k (so_many_marks (is_border (own_seen s c).log) l (shape.marked n c)) past ∙ sym (ap (w.border c) last ∙ order.received_border)
        ])
        | inr first ↦ border_first l k first ∙ sym (border_first (own_seen s c).log k (omega (arith, first, first_is)))
      ]

  pub none_whole : EndsWithGroup w n c 0
  none_whole = (let here : w.digested n c + 0 ≡ w.digested n c = omega arith in ap (w.border c) here ∙ order.digested_border)

  -- as the code finds it: what is digested ends with a group
  pub whole_as : (count : ℕ) → count ≤ undigested w n c → (0 < count → is_border (log_in s.nodes n c).log ((log_in s.nodes n c).digested + count) ≡ true) →
      EndsWithGroup w n c count
  whole_as count few groups = grind (arith, received_by_all-below, full_here, digested_is, border_there, none_whole)

  -- some whole groups are among 64 of them, and all of them are
  pub some_wanted : (l : NumberedLog) (from acked at_most most wanted : ℕ) → from ≡ (log_in s.nodes n c).digested → l ≡ (log_in s.nodes n c).log →
      acked ≡ received_by_all w c →
      most ≡ min at_most (acked - from) → wanted ≡ whole_count l from most → (64 ≤ most → 0 < wanted) → at_most ≡ 64 → 0 < undigested w n c → 0 < wanted
  some_wanted l from acked at_most most wanted log logs all is counted some whole_most left = grind
      (arith, digested_is, received_by_all-below, full_here, border_there, all_border, whole_here)

  -- ---- `count` of them

  module _ (count : ℕ) (few : count ≤ undigested w n c) (whole : EndsWithGroup w n c count) where
    abbrev t : StateValue
    t = digests_some s n c count

    abbrev place : ℕ
    place = w.digested n c + count

    abbrev inodes : set.FinSet nat_cmp
    inodes = set.from_list (touched (all_effects (take count (ahead (log_in s.nodes n c)))))

    may : MayDigest w n c place
    unfolding world_of
    may = record { full_node = full_here; from = omega arith; to = omega (arith, few, order.replicated); border_to = whole }

    below_is : undigested_below w n c place ≡ take count (ahead (log_in s.nodes n c))
    unfolding undigested_below
    below_is =
        let so_many : place - w.digested n c ≡ count = omega arith in
        (λ i. take (so_many i) (ahead_first s n c first_is i))

    pub noted_so : DigestsNoted w s.members n c place inodes (world_of t) t.members
    noted_so =
        noted_prefix s n c place inodes shape first_is client may
        (λ i. contains-from_list_nat (touched (all_effects (take count (ahead (log_in s.nodes n c))))) i ∙ ap (λ rs. contains (touched (all_effects rs)) i)
        (sym below_is))

    pub next_shape : ShapeInvariant t
    next_shape = digest_shaped s n c place inodes shape

    pub next_sound : ∥ WorldInvariant (world_of t) ∥₁
    next_sound = ∥∥₁_map sound (λ h. digest_sound w (world_of t) n c place h noted_so.digests)
