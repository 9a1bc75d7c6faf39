-- Prefixes that are dropped of one client's logs after another's, as the laws have it.
use Rattle.assise_machine_state.proofs.Common.{◌≡◌, ◌⊎◌, ℕ, zero, suc, ◌-◌, ◌<◌, ◌≤◌, ◌==◌, true, if◌then◌else◌, List, [], ◌∷◌, length, slice_index_or, inl}
use Rattle.assise_machine_state.proofs.Common.{inr, refl, ap, sym, subst, ◌∙◌, arith, eq-eqb, ∥∥₁_elim, ∥∥₁_map, props, cases_Bool, cases_eq, ne_eqb}
use Rattle.assise_machine_state.proofs.Common.{border_first, HasClient, RegionValue, log_of, no_log, Drops, WorldInvariant, World, digested_by_all, end_of_log}
use Rattle.assise_machine_state.proofs.Common.{digested_by_all-below, least_of-end, after_drop, drops_to, first_but, AreDigested, IsDigestedTo, hot_capacities}
use Rattle.assise_machine_state.proofs.Common.{log_in, no_region, region_in, is_full_in, own_seen, world_of, IsNumber, item_at, ShapeInvariant, StateValue}
use Rattle.assise_machine_state.proofs.Common.{standings}
use Rattle.assise_model_world.proofs.Shared.DropKeeps.{drop_sound}
use Rattle.assise_model_events.proofs.Shared.Failable.{digested_border}
use Rattle.assise_machine_state.proofs.Prefixes.{HasPrefixes, drop_areas, drop_shaped, dropped_prefixes, dropped_twice, has_prefixes, none_dropped}
use Rattle.assise_machine_state.proofs.Prefixes.{same_digested}
use Rattle.assise_machine_state.proofs.Shared.Fullness.{no_log_there, seen_full}
use Rattle.assise_machine_state.proofs.Shared.HotCapacities.{prefixes_keep}
use Rattle.assise_machine_state.proofs.Shared.ItemSeen.{seen_past}
use Rattle.assise_machine_state.proofs.SameObserved.{clients_as, goals_as, leases_as}
use Rattle.assise_machine_state.proofs.Shared.LogChanges.{log_found}

-- ---- who is no client has no log

module _ (s : StateValue) (shape : ShapeInvariant s) where
  nothing_seen : (n c : ℕ) → (length s.clients < c) ⊎ (c ≡ 0) → log_in s.nodes n c ≡ no_log
  unfolding log_in item_at
  nothing_seen n c h1 = grind (arith, cases_Bool, seen_past, no_log_there)

  nothing_owned : (c : ℕ) → (length s.clients < c) ⊎ (c ≡ 0) → (world_of s).first c ≡ digested_by_all (world_of s) c
  unfolding world_of own_seen digested_by_all end_of_log
  nothing_owned c beyond = grind (arith, nothing_seen, least_of-end)

-- ---- what stays

pub record StillDropping (s t : StateValue) : Type 0 where
  pub clients : t.clients ≡ s.clients
  pub members : t.members ≡ s.members
  pub levels : t.levels ≡ s.levels
  pub cuts : t.cuts ≡ s.cuts
  pub history : t.history ≡ s.history
  pub limit : t.limit ≡ s.limit
  pub hot : hot_capacities t.nodes ≡ hot_capacities s.nodes
  pub area : (k i : ℕ) → (world_of t).area k i ≡ (world_of s).area k i
  pub shape : ShapeInvariant t
  pub sound : ∥ WorldInvariant (world_of t) ∥₁

-- the next client's logs can be dropped up to where all full nodes have digested them
pub record Droppable (t : StateValue) (c : ℕ) : Type 0 where
  pub client : IsNumber t.clients c
  pub shape : ShapeInvariant t
  pub digested : AreDigested t.nodes c (digested_by_all (world_of t) c)

-- of clients 1 to m the logs begin where all full nodes have digested them, and the others' where they began
abbrev first_to : World → ℕ → ℕ → ℕ
first_to w zero d = w.first d
first_to w (suc m) d = if d == suc m then digested_by_all w (suc m) else first_to w m d

-- ---- where a log begins, at each full node

prefixes_of : (s : StateValue) (c : ℕ) → ∥ WorldInvariant (world_of s) ∥₁ → HasPrefixes s c
prefixes_of s c sound = ∥∥₁_elim sound (hlevel props) (has_prefixes s c)

-- what all full nodes have digested ends at a border
to_border : (s : StateValue) (c : ℕ) → ∥ WorldInvariant (world_of s) ∥₁ → (world_of s).border c (digested_by_all (world_of s) c) ≡ true
to_border s c sound = ∥∥₁_elim sound (search props) (λ h. digested_border (world_of s) h c)

each_digested : (rs : List RegionValue) (c to : ℕ) →
    ((k : ℕ) → k < length rs → HasClient (slice_index_or rs k no_region) c → IsDigestedTo (log_of (slice_index_or rs k no_region) c) to) → AreDigested rs c to
each_digested [] c to each = tt
each_digested (r ∷ rs) c to each = (each 0 (omega arith), each_digested rs c to (λ k low. each (suc k) (omega (arith, low))))

module _ (s : StateValue) (c : ℕ) (shape : ShapeInvariant s) (sound : ∥ WorldInvariant (world_of s) ∥₁) (client : IsNumber s.clients c) where
  -- a full node has digested what all have
  digested_here : (n : ℕ) → is_full_in (standings s) n ≡ true → IsDigestedTo (log_in s.nodes n c) (digested_by_all (world_of s) c)
  unfolding world_of
  digested_here n here =
      let full = seen_full s n here in
      let prefixes = prefixes_of s c sound in
      let first : (log_in s.nodes n c).log.first ≡ (world_of s).first c = prefixes.first n full in
      let low : digested_by_all (world_of s) c ≤ (world_of s).digested n c = digested_by_all-below (world_of s) n c full in
      record { from_first = omega (arith, first, prefixes.begun c); digested = low }

  -- who has the log is full
  digested_there : (n : ℕ) → IsNumber s.nodes n → HasClient (region_in s.nodes n) c → IsDigestedTo (log_in s.nodes n c) (digested_by_all (world_of s) c)
  digested_there n there has = grind (arith, cases_Bool, digested_here)

  pub are_digested : AreDigested s.nodes c (digested_by_all (world_of s) c)
  unfolding region_in item_at
  are_digested = each_digested s.nodes c (digested_by_all (world_of s) c) (λ k low has.
      let node : IsNumber s.nodes (suc k) = record { some = omega arith; there = omega (arith, low) } in
      subst (λ l. IsDigestedTo l (digested_by_all (world_of s) c)) (sym (log_found s.nodes (suc k) c (record { node = node; client = has }) refl))
      (digested_there (suc k) node has))

-- ---- one client after another

module _ (s : StateValue) (shape : ShapeInvariant s) (sound : ∥ WorldInvariant (world_of s) ∥₁) where
  abbrev w : World
  w = world_of s

  module _ (t : StateValue) (m : ℕ) (same : StillDropping s t) (last : m < length s.clients) where
    abbrev to : ℕ
    to = digested_by_all (world_of t) (suc m)

    abbrev u : StateValue
    u = after_drop t (suc m) to

    next_client : IsNumber t.clients (suc m)
    next_client = (let counted = ap length same.clients in record { some = omega arith; there = omega (arith, counted, last) })

    next_drops : Drops (world_of t) (first_but (world_of t) (suc m) to) (world_of u)
    next_drops = grind (arith, prefixes_of, dropped_prefixes, next_client, to_border)

    next_same : StillDropping s u
    next_same =
        let prefixes = prefixes_of t (suc m) same.sound in
        let hot : hot_capacities u.nodes ≡ hot_capacities s.nodes = prefixes_keep t.nodes (suc m) to ∙ same.hot in
        let area : (k i : ℕ) → (world_of u).area k i ≡ (world_of s).area k i = λ k i. drop_areas t (suc m) to k i ∙ same.area k i in
        let shape = drop_shaped t (suc m) to same.shape prefixes next_client (prefixes.begun (suc m)) (omega arith) (to_border t (suc m) same.sound) in
        let sound = ∥∥₁_map same.sound (λ h. drop_sound (world_of t) (world_of u) (first_but (world_of t) (suc m) to) h next_drops) in
        search parts 3

  pub same_dropping : (m : ℕ) → m ≤ length s.clients → StillDropping s (drops_to s m)
  same_dropping zero last = grind arith
  same_dropping (suc m) last = next_same (drops_to s m) m (same_dropping m (omega (arith, last))) (omega (arith, last))

  nothing_drops : Drops w (first_to w 0) w
  unfolding world_of
  nothing_drops =
      let begun : (c : ℕ) → w.first c ≤ digested_by_all w c = λ c. (prefixes_of s c sound).begun c in
      search (begun, none_dropped, border_first, clients_as, goals_as, leases_as, arith) parts 3

  drops_first : (m : ℕ) → m ≤ length s.clients → Drops w (first_to w m) (world_of (drops_to s m))
  drops_first zero last = nothing_drops
  drops_first (suc m) last =
      let t : StateValue = drops_to s m in
      let before : Drops w (first_to w m) (world_of t) = drops_first m (omega (arith, last)) in
      let own : Drops (world_of t) (first_but (world_of t) (suc m) (digested_by_all (world_of t) (suc m))) (world_of (drops_to s (suc m))) =
      next_drops t m (same_dropping m (omega (arith, last))) (omega (arith, last)) in
      let both = dropped_twice w (world_of t) (world_of (drops_to s (suc m))) (first_to w m)
      (first_but (world_of t) (suc m) (digested_by_all (world_of t) (suc m))) before own in
      subst (λ f. Drops w f (world_of (drops_to s (suc m))))
      (λ i d. if d == suc m then same_digested w (world_of t) (first_to w m) before (suc m) i else before.first d i) both

  all_first : (m d : ℕ) → ((m < d) ⊎ (d ≡ 0) → w.first d ≡ digested_by_all w d) → first_to w m d ≡ digested_by_all w d
  all_first zero zero beyond = beyond (inr refl)
  all_first zero (suc d) beyond = beyond (inl (omega arith))
  all_first (suc m) d beyond = grind (arith, cases_eq, eq-eqb, ne_eqb, (all_first m d))

  pub all_dropped : Drops w (digested_by_all w) (world_of (drops_to s (length s.clients)))
  all_dropped =
      subst (λ f. Drops w f (world_of (drops_to s (length s.clients)))) (λ i d. all_first (length s.clients) d (nothing_owned s shape d) i)
      (drops_first (length s.clients) (omega arith))

  -- ---- as the code finds it

  pub found : (last : ℕ) → 0 < last → last ≤ length s.clients → (t : StateValue) → t ≡ drops_to s (last - 1) → Droppable t last
  found last some there t is = grind (arith, same_dropping, are_digested)
