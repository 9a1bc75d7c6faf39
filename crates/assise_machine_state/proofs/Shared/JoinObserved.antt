-- What the laws observe of a node that is full again.
use Rattle.assise_machine_state.proofs.Common.{◌≡◌, ◌≢◌, ℕ, ◌-◌, true, false, not, ◌∷◌, length, map, Some, None, inl, inr, refl, ap, sym, subst, ◌∙◌, arith}
use Rattle.assise_machine_state.proofs.Common.{true≢false, ◌&&◌, ◌==◌, [], nat_cmp, get_or-map, ∥∥₁_elim, props, and-false, cases_Bool, cases_eq, ne_eqb}
use Rattle.assise_machine_state.proofs.Common.{take_all, length-map, durability-still, values, NumberedLog, log_end, is_border, RegionValue, no_log, join_fault}
use Rattle.assise_machine_state.proofs.Common.{IsMembership, lowest_full, full, returning, standing_of, WorldInvariant, World, end_of_log, Rejoins, kept_return}
use Rattle.assise_machine_state.proofs.Common.{after_join, client_in, away, log_in, region_in, is_full_in, own_seen, world_of, IsNumber, item_at, IsMarked}
use Rattle.assise_machine_state.proofs.Common.{ShapeInvariant, StateValue, standings}
use Rattle.std.specs.FinSet as set
use Rattle.assise_manager.proofs.Shared.Lawful.{donor_full}
use Rattle.assise_machine_state.proofs.Shared.Fullness.{full_seen, home_full, node_number, same_first, seen_full}
use Rattle.assise_machine_state.proofs.Shared.LogChanges.{log_away, region_else, region_here, region_kept}
use Rattle.assise_machine_state.proofs.Shared.Marks.{borders_same, marked_as, so_many_marks}
use Rattle.assise_machine_state.proofs.Shared.ShapeKept.{AreMarked, KnowsHome, limit_seen, limits_all, own_marked}
use Rattle.assise_machine_state.proofs.Shared.Standings.{full_as, full_else, full_here, lowest_is_full, same_count}
use Rattle.assise_machine_state.proofs.SameObserved.{clients_as, goals_as, leases_as, logs_as, node_as}
use Rattle.assise_machine_state.proofs.Shared.ItemSeen.{each_number, length-with}

-- ---- a client whose node failed: all full nodes have all that is left

-- the same records in the same groups
record SameLog (l m : NumberedLog) : Type 0 where
  records : l.records ≡ m.records
  first : l.first ≡ m.first
  border : (k : ℕ) → is_border l k ≡ is_border m k

left_same : (s : StateValue) (m c : ℕ) → ShapeInvariant s → WorldInvariant (world_of s) → is_full_in (standings s) m ≡ true →
    (client_in s.clients c).failed ≡ true → SameLog (log_in s.nodes m c).log (own_seen s c).log
unfolding world_of end_of_log
left_same s m c shape sound f over = grind (arith, seen_full, so_many_marks, own_marked, take_all, same_first, borders_same)

-- ---- a node gets its donor's logs

module _ (s : StateValue) (n since donor : ℕ) (stale : set.FinSet nat_cmp) (shape : ShapeInvariant s) (lawful : IsMembership s.members)
    (stands : standing_of (standings s) n ≡ Some (returning since donor stale)) where
  abbrev t : StateValue
  t = after_join s n donor

  abbrev w : World
  w = world_of s

  abbrev w' : World
  w' = world_of t

  -- the node wasn't full, and its donor is
  donor_stands : is_full_in (standings s) donor ≡ true
  donor_stands = full_as (standings s) donor full (donor_full s.members n since donor stale lawful stands)

  now_full : is_full_in (standings t) n ≡ true
  now_full = full_here (standings s) n (returning since donor stale) full stands

  full_same : (k : ℕ) → k ≢ n → is_full_in (standings t) k ≡ is_full_in (standings s) k
  full_same k other = full_else (standings s) n k (returning since donor stale) full stands other

  differs : (k : ℕ) → is_full_in (standings s) k ≡ true → k ≢ n
  differs k f same = true≢false (sym f ∙ ap (is_full_in (standings s)) same ∙ full_as (standings s) n (returning since donor stale) stands)

  node_there : IsNumber s.nodes n
  node_there = node_number s n (returning since donor stale) shape stands

  -- it has the donor's logs, and all else stays
  abbrev filled : RegionValue
  filled = record (region_in s.nodes n) { logs = map away (region_in s.nodes donor).logs }

  filled_seen : region_in t.nodes n ≡ filled
  filled_seen = region_here s.nodes n filled node_there

  region_stays : (k : ℕ) → k ≢ n → region_in t.nodes k ≡ region_in s.nodes k
  region_stays k other = region_else s.nodes n filled node_there k other

  inodes_stay : (k : ℕ) → (region_in t.nodes k).inodes ≡ (region_in s.nodes k).inodes
  inodes_stay k = region_kept s.nodes n filled (λ r. r.inodes) refl k

  log_stays : (k c : ℕ) → k ≢ n → log_in t.nodes k c ≡ log_in s.nodes k c
  log_stays k c other = log_away s.nodes n filled node_there k c other

  log_filled : (c : ℕ) → log_in t.nodes n c ≡ away (log_in s.nodes donor c)
  unfolding log_in item_at
  log_filled c = ap (λ r. item_at no_log r.logs c) filled_seen ∙ get_or-map away (no_log ∷ (region_in s.nodes donor).logs) c no_log

  -- ---- parts of its shape

  count : length t.nodes ≡ length s.nodes
  count = length-with s.nodes n filled

  logs_here : length (region_in t.nodes n).logs ≡ length s.clients
  logs_here = grind (arith, filled_seen, length-map, donor_stands)

  logs : (k : ℕ) → is_full_in (standings t) k ≡ true → length (region_in t.nodes k).logs ≡ length s.clients
  logs k f = grind (arith, each_number, logs_here, region_stays, full_same)

  no_logs : (k : ℕ) → is_full_in (standings t) k ≡ false → (region_in t.nodes k).logs ≡ []
  no_logs k away = grind (arith, cases_eq, now_full, logs, region_stays, full_same)

  -- each node's logs are those of one that was there: of its donor, or its own
  source : (k : ℕ) → (j : ℕ) × (is_full_in (standings t) k ≡ true → is_full_in (standings s) j ≡ true)
      × ((c : ℕ) → (log_in t.nodes k c).log ≡ (log_in s.nodes j c).log)
  source k = elim (cases_eq k n) [
    | inl is ↦ (donor, λ f. donor_stands, λ c. ap (λ m. (log_in t.nodes m c).log) is ∙ ap (λ l. l.log) (log_filled c))
    | inr other ↦ (k, λ f. sym (full_same k other) ∙ f, λ c. ap (λ l. l.log) (log_stays k c other))
  ]

  limits : (k c : ℕ) → is_full_in (standings t) k ≡ true → IsNumber s.clients c → (log_in t.nodes k c).log.limit ≡ s.limit
  limits k c f client = (let j = source k in ap (λ l. l.limit) (j.2 c) ∙ limit_seen s j.0 c shape (j.1 f) client)

  -- no client lives at the node
  nobody : (c : ℕ) → ((n == (client_in s.clients c).home) && not (client_in s.clients c).failed) ≡ false
  nobody c = grind (arith, cases_Bool, and-false, differs, home_full, ne_eqb)

  homes : (k c : ℕ) → KnowsHome t k c
  homes k c = grind (arith, each_number, log_filled, nobody, log_stays)

  -- ---- what the laws observe

  -- each client's own log stays
  module _ (sound : WorldInvariant w) where
    at_home : (c : ℕ) → (client_in s.clients c).failed ≡ false → own_seen t c ≡ own_seen s c
    unfolding own_seen
    at_home c unfailed = rw unfailed (log_stays (client_in s.clients c).home c (differs (client_in s.clients c).home (home_full s c shape unfailed)))

    own_left : (c : ℕ) → (client_in s.clients c).failed ≡ true → own_seen t c ≡ log_in t.nodes (lowest_full (standings t)) c
    unfolding own_seen
    own_left c over = rw over refl

    own_same : (c : ℕ) → SameLog (own_seen t c).log (own_seen s c).log
    own_same c =
        elim (cases_Bool (client_in s.clients c).failed) [
          | inl over ↦
              let j = source (lowest_full (standings t)) in
              subst (λ l. SameLog l (own_seen s c).log) (sym (ap (λ l. l.log) (own_left c over) ∙ j.2 c))
              (left_same s j.0 c shape sound (j.1 (lowest_is_full (standings t) n now_full)) over)
          | inr unfailed ↦
              subst (λ l. SameLog l.log (own_seen s c).log) (sym (at_home c unfailed)) (record { records = refl; first = refl; border = λ k. refl })
        ]

    -- and so do the groups of each node's log
    marked_then : (k c : ℕ) → IsMarked (is_border (own_seen t c).log) (log_in t.nodes k c).log
    marked_then k c =
        let j = source k in
        subst (IsMarked (is_border (own_seen t c).log)) (sym (j.2 c))
        (marked_as (is_border (own_seen s c).log) (is_border (own_seen t c).log) (log_in s.nodes j.0 c).log (λ i low high. sym ((own_same c).border i))
        (shape.marked j.0 c))

    pub node_rejoins : join_fault s.members n ≡ None → Rejoins w s.members n w' t.members
    unfolding world_of
    node_rejoins fine = record {
      since = since;
      donor = donor;
      stale = stale;
      stands = stands;
      fine = fine;
      members = refl;
      joined = seen_full t n now_full;
      stay = λ k f. (let had = full_seen s k f in seen_full t k (full_same k (differs k had) ∙ had));
      only = λ k f. elim (cases_eq k n) [ inl is ↦ inl is | inr other ↦ inr (seen_full s k (sym (full_same k other) ∙ full_seen t k f)) ];
      logs = logs_as s t refl (kept_return s.history n) (λ c. (own_same c).records) (λ c. (own_same c).first) (λ c. (own_same c).border);
      clients = clients_as s t refl;
      goals = goals_as s t refl;
      leases = leases_as s t (λ i. refl);
      area = λ k i. ap (λ m. values m i) (inodes_stay k);
      log_here = λ c. ap (λ l. l.log.records) (log_filled c);
      received_here = λ c. ap (λ l. log_end l.log) (log_filled c);
      digested_here = λ c. ap (λ l. l.digested) (log_filled c);
      else_same = λ k f. node_as s t k (λ i. ap (λ m. values m i) (inodes_stay k)) (λ c. log_stays k c (differs k (full_seen s k f)));
    }

  -- ---- its shape is one

  pub join_shaped : ∥ WorldInvariant w ∥₁ → ShapeInvariant t
  join_shaped sound =
      let all = limits_all t logs no_logs limits in
      let marked : AreMarked t = λ k c. ∥∥₁_elim sound (search props) (λ h. marked_then h k c) in
      grind (arith, count, same_count, logs, no_logs, homes, durability-still)
