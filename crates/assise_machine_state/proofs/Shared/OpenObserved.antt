-- What the laws observe of a client that is opened: what is seen of it was seen where there was none, but that it lives.
use Rattle.assise_machine_state.proofs.Common.{◌≡◌, ◌≢◌, ℕ, zero, suc, ◌+◌, ◌<◌, Bool, true, false, not, ◌==◌, List, [], ◌∷◌, get_or, length, inl, inr, refl}
use Rattle.assise_machine_state.proofs.Common.{ap, sym, subst, ◌∙◌, arith, and-true, cases_Bool, cases_eq, ne_eqb, length_push, Durability, durability-opened}
use Rattle.assise_machine_state.proofs.Common.{durability-other, values, log_end, is_border, ReceivedLog, RegionValue, no_log, with_client_log, EnrolsAt}
use Rattle.assise_machine_state.proofs.Common.{TwoLevels, Opens, SameLogs, Full, World, OpensAt, SameCuts, OtherAreasStay, kept_open, after_open, ClientValue}
use Rattle.assise_machine_state.proofs.Common.{client_in, cut_of, no_client, opened_on, begun_log, log_in, no_region, region_in, with_logs_begun, is_full_in}
use Rattle.assise_machine_state.proofs.Common.{own_node, own_seen, world_of, IsNumber, item_at, CutsInvariant, IsMarked, ShapeInvariant, StateValue, leases_of}
use Rattle.assise_machine_state.proofs.Common.{standings}
use Rattle.assise_machine_state.proofs.Shared.Fullness.{full_number, full_seen, no_log_in, no_log_there}
use Rattle.assise_machine_state.proofs.Shared.Noted.{new_unasked, none_cut}
use Rattle.assise_machine_state.proofs.Shared.ItemSeen.{each_number, pushed_else, pushed_here, pushed_kept, seen_past}
use Rattle.assise_machine_state.proofs.Shared.ShapeKept.{KnowsHome, kept_marks, limit_seen, limits_all}
use Rattle.assise_machine_state.proofs.SameObserved.{leases_as}

-- ---- nodes that begin a log

module _ (full : ℕ → Bool) (limit home : ℕ) where
  abbrev begun : ℕ → RegionValue → RegionValue
  begun m r = with_client_log r (begun_log limit (m == home))

  begun_kept : {A : Type 0} (f : RegionValue → A) → ((r : RegionValue) (b : Bool) → f (with_client_log r (begun_log limit b)) ≡ f r) →
      (n : ℕ) (rs : List RegionValue) (j : ℕ) → f (get_or (with_logs_begun full limit home n rs) j no_region) ≡ f (get_or rs j no_region)
  begun_kept f same n [] j = refl
  begun_kept f same n (r ∷ rs) zero = grind (arith, cases_Bool)
  begun_kept f same n (r ∷ rs) (suc j) = begun_kept f same (suc n) rs j

  begun_there : (n : ℕ) (rs : List RegionValue) (j m : ℕ) → m ≡ n + j → full m ≡ true → j < length rs →
      get_or (with_logs_begun full limit home n rs) j no_region ≡ begun m (get_or rs j no_region)
  begun_there n [] j m is has low = absurd (omega (arith, low))
  begun_there n (r ∷ rs) zero m is has low =
      (let same : m ≡ n = omega (arith, is) in subst (λ k. get_or (with_logs_begun full limit home k (r ∷ rs)) 0 no_region ≡ begun m r) same (rw has refl))
  begun_there n (r ∷ rs) (suc j) m is has low = begun_there (suc n) rs j m (omega (arith, is)) has (omega (arith, low))

  begun_away : (n : ℕ) (rs : List RegionValue) (j m : ℕ) → m ≡ n + j → full m ≡ false → get_or (with_logs_begun full limit home n rs) j no_region
      ≡ get_or rs j no_region
  begun_away n [] j m is away = refl
  begun_away n (r ∷ rs) zero m is away =
      (let same : m ≡ n = omega (arith, is) in subst (λ k. get_or (with_logs_begun full limit home k (r ∷ rs)) 0 no_region ≡ r) same (rw away refl))
  begun_away n (r ∷ rs) (suc j) m is away = begun_away (suc n) rs j m (omega (arith, is)) away

  so_many_nodes : (n : ℕ) (rs : List RegionValue) → length (with_logs_begun full limit home n rs) ≡ length rs
  so_many_nodes n [] = refl
  so_many_nodes n (r ∷ rs) = ap suc (so_many_nodes (suc n) rs)

  -- ---- the same of what is seen

  region_kept : {A : Type 0} (f : RegionValue → A) → ((r : RegionValue) (b : Bool) → f (with_client_log r (begun_log limit b)) ≡ f r) →
      (rs : List RegionValue) (m : ℕ) → f (region_in (with_logs_begun full limit home 1 rs) m) ≡ f (region_in rs m)
  unfolding region_in item_at
  region_kept f same rs zero = refl
  region_kept f same rs (suc j) = begun_kept f same 1 rs j

  region_begun : (rs : List RegionValue) (m : ℕ) → full m ≡ true → IsNumber rs m → region_in (with_logs_begun full limit home 1 rs) m ≡ begun m (region_in rs m)
  unfolding region_in item_at
  region_begun rs m h1 h2 = grind (arith, begun_there)

  region_away : (rs : List RegionValue) (m : ℕ) → full m ≡ false → region_in (with_logs_begun full limit home 1 rs) m ≡ region_in rs m
  unfolding region_in item_at
  region_away rs m h1 = grind (arith, begun_away)

-- ---- the state

module _ (s : StateValue) (n : ℕ) (u : Durability) (levels : TwoLevels) where
  abbrev s' : StateValue
  s' = after_open s n u levels

  abbrev w : World
  w = world_of s

  abbrev w' : World
  w' = world_of s'

  abbrev next : ℕ
  next = suc (length s.clients)

  -- the client

  new_client : client_in s'.clients next ≡ opened_on n u
  unfolding client_in
  new_client = pushed_here no_client (opened_on n u) s.clients

  other_client : (d : ℕ) → d ≢ next → client_in s'.clients d ≡ client_in s.clients d
  unfolding client_in
  other_client d other = pushed_else no_client (opened_on n u) s.clients d other

  client_kept : {A : Type 0} (f : ClientValue → A) → f (opened_on n u) ≡ f no_client → (d : ℕ) → f (client_in s'.clients d) ≡ f (client_in s.clients d)
  unfolding client_in
  client_kept f same d = pushed_kept f no_client (opened_on n u) s.clients d same

  so_many_clients : length s'.clients ≡ next
  so_many_clients = (let more : length s.clients + 1 ≡ next = omega arith in length_push s.clients (opened_on n u) ∙ more)

  -- areas stay
  area_kept : (k i : ℕ) → w'.area k i ≡ w.area k i
  unfolding world_of
  area_kept k i = region_kept (is_full_in (standings s)) s.limit n (λ r. values r.inodes i) (λ r b. refl) s.nodes k

  pub open_areas : OtherAreasStay w w'
  open_areas k i away = area_kept k i

  -- what a log that is begun has as none does stays of logs
  kept : {A : Type 0} (f : ReceivedLog → A) → ((b : Bool) → f (begun_log s.limit b) ≡ f no_log) → (m d : ℕ) → f (log_in s'.nodes m d) ≡ f (log_in s.nodes m d)
  unfolding log_in
  kept f same m d =
      region_kept (is_full_in (standings s)) s.limit n (λ r. f (item_at no_log r.logs d))
      (λ r b. pushed_kept f no_log (begun_log s.limit b) r.logs d (same b)) s.nodes m

  module _ (shape : ShapeInvariant s) where
    -- no node had a log of it
    no_log_before : (m : ℕ) → log_in s.nodes m next ≡ no_log
    unfolding log_in
    no_log_before m = grind (arith, cases_Bool, seen_past, no_log_there)

    own_kept : {A : Type 0} (f : ReceivedLog → A) → ((b : Bool) → f (begun_log s.limit b) ≡ f no_log) → (d : ℕ) → f (own_seen s' d) ≡ f (own_seen s d)
    unfolding own_seen
    own_kept f same d =
        kept f same (own_node (standings s) (client_in s'.clients d)) d
        ∙ elim (cases_eq d next) [
          | inl is ↦
              let own : List ClientValue → ℕ → ReceivedLog = λ cs k. log_in s.nodes (own_node (standings s) (client_in cs k)) k in
              let before = λ (cs : List ClientValue). no_log_before (own_node (standings s) (client_in cs next)) in
              subst (λ k. f (own s'.clients k) ≡ f (own s.clients k)) (sym is) (ap f (before s'.clients ∙ sym (before s.clients)))
          | inr other ↦ ap (λ y. f (log_in s.nodes (own_node (standings s) y) d)) (other_client d other)
        ]

    logs_stay : SameLogs w w'
    unfolding world_of
    logs_stay = record {
      calls = kept_open s.history next n u;
      records = own_kept (λ l. l.log.records) (λ b. refl);
      first = own_kept (λ l. l.log.first) (λ b. refl);
      next = client_kept (λ y. y.next) refl;
      border = λ d k. own_kept (λ l. is_border l.log k) (λ b. refl) d;
      made = client_kept (λ y. y.made) refl;
    }

    opens_on : Full w n → EnrolsAt s.levels levels next n → Opens w n w'
    unfolding world_of
    opens_on full_node enrols = record {
      full_node = full_node;
      logs = logs_stay;
      nodes = record {
        full = refl;
        same = λ m f. record {
          area = λ i. area_kept m i;
          log = λ d. kept (λ l. l.log.records) (λ b. refl) m d;
          received = λ d. kept (λ l. log_end l.log) (λ b. refl) m d;
          digested = λ d. kept (λ l. l.digested) (λ b. refl) m d;
        };
      };
      leases = leases_as s s' enrols.clients;
      clients = so_many_clients;
      home_new = ap (λ y. y.home) new_client;
      lives_new = ap (λ y. not y.failed) new_client;
      crashed_new = ap (λ y. y.crashed) new_client;
      goal_new = ap (λ y. y.goal) new_client;
      home_else = λ d other. ap (λ y. y.home) (other_client d other);
      lives_else = λ d other. ap (λ y. not y.failed) (other_client d other);
      crashed_else = λ d other. ap (λ y. y.crashed) (other_client d other);
      goal_else = λ d other. ap (λ y. y.goal) (other_client d other);
    }

    -- nobody asked it for a lease
    cut_new : CutsInvariant s → (i : ℕ) → cut_of s.cuts next (client_in s'.clients next) i ≡ cut_of s.cuts next (client_in s.clients next) i
    unfolding client_in
    cut_new noted i = grind (arith, new_client, none_cut, new_unasked, seen_past)

    cuts_stay : CutsInvariant s → SameCuts (leases_of s) (leases_of s')
    unfolding leases_of
    cuts_stay noted d i = grind (arith, each_number, cut_new, other_client)

    pub open_seen : CutsInvariant s → Full w n → EnrolsAt s.levels levels next n → OpensAt w (leases_of s) n w' (leases_of s')
    unfolding world_of leases_of
    open_seen noted full_node enrols = record { opens = opens_on full_node enrols; enrols = enrols; cuts = cuts_stay noted }

    -- ---- its shape

    begun_region : (m : ℕ) → is_full_in (standings s) m ≡ true → region_in s'.nodes m ≡ with_client_log (region_in s.nodes m) (begun_log s.limit (m == n))
    begun_region m f = region_begun (is_full_in (standings s)) s.limit n s.nodes m f (full_number s m shape f)

    same_region : (m : ℕ) → is_full_in (standings s) m ≡ false → region_in s'.nodes m ≡ region_in s.nodes m
    same_region m away = region_away (is_full_in (standings s)) s.limit n s.nodes m away

    begun_now : (m : ℕ) → is_full_in (standings s) m ≡ true → log_in s'.nodes m next ≡ begun_log s.limit (m == n)
    unfolding log_in
    begun_now m f = grind (arith, begun_region, pushed_here)

    same_log : (m d : ℕ) → d ≢ next → log_in s'.nodes m d ≡ log_in s.nodes m d
    unfolding log_in
    same_log m d other = grind (arith, cases_Bool, begun_region, pushed_else, same_region)

    so_many_logs : (m : ℕ) → is_full_in (standings s) m ≡ true → length (region_in s'.nodes m).logs ≡ next
    so_many_logs m f = grind (arith, begun_region, length_push)

    no_logs_there : (m : ℕ) → is_full_in (standings s) m ≡ false → (region_in s'.nodes m).logs ≡ []
    no_logs_there m away = ap (λ r. r.logs) (same_region m away) ∙ shape.no_logs m away

    at_home_new : Full w n → (m : ℕ) → KnowsHome s' m next
    at_home_new full_node m = grind (arith, new_client, cases_Bool, begun_now, and-true, full_seen, ne_eqb, no_log_in, no_logs_there)

    at_home_now : Full w n → (m d : ℕ) → KnowsHome s' m d
    at_home_now full_node m d = grind (arith, each_number, at_home_new, same_log, other_client)

    own_other : (d : ℕ) → d ≢ next → own_seen s' d ≡ own_seen s d
    unfolding own_seen
    own_other d other = grind (arith, other_client, same_log)

    marked_new : (m : ℕ) → IsMarked (is_border (own_seen s' next).log) (log_in s'.nodes m next).log
    marked_new m = grind (arith, cases_Bool, begun_now, no_log_in, no_logs_there)

    marked_now : (m d : ℕ) → IsMarked (is_border (own_seen s' d).log) (log_in s'.nodes m d).log
    marked_now m d = grind (arith, each_number, marked_new, kept_marks, own_other, same_log)

    limit_now : (m d : ℕ) → is_full_in (standings s) m ≡ true → IsNumber s'.clients d → (log_in s'.nodes m d).log.limit ≡ s.limit
    limit_now m d f client =
        elim (cases_eq d next) [
          | inl is ↦ subst (λ k. (log_in s'.nodes m k).log.limit ≡ s.limit) (sym is) (ap (λ l. l.log.limit) (begun_now m f))
          | inr other ↦
              let old : IsNumber s.clients d = record { some = client.some; there = omega (arith, so_many_clients, client.there, other) } in
              ap (λ l. l.log.limit) (same_log m d other) ∙ limit_seen s m d shape f old
        ]

    all_logs : (m : ℕ) → is_full_in (standings s) m ≡ true → length (region_in s'.nodes m).logs ≡ length s'.clients
    all_logs m f = so_many_logs m f ∙ sym so_many_clients

    pub open_shaped : Full w n → ShapeInvariant s'
    open_shaped full_node =
        let limits = limits_all s' all_logs no_logs_there limit_now in
        grind (arith, so_many_nodes, all_logs, no_logs_there, at_home_now, marked_now, new_client, durability-opened, other_client, durability-other, ne_eqb)
