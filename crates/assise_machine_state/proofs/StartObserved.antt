-- A cluster in which nothing happened is observed as the start of the machine.
use Rattle.assise_machine_state.proofs.Common.{◌≡◌, ℕ, zero, suc, ◌<◌, ◌≤◌, ◌&&◌, ◌==◌, [], ◌∷◌, length, filter, get_or, slice_get, false, not, Some, refl, ap}
use Rattle.assise_machine_state.proofs.Common.{sym, subst, ◌∙◌, arith, and-false, values, empty_log, end, is_border, border_end, RegionValue, no_log}
use Rattle.assise_machine_state.proofs.Common.{SameLevels, TwoLevels, nobody, all_full, fulls, full, down_from, begun_as, client_in, cut_of, no_client, HasLog}
use Rattle.assise_machine_state.proofs.Common.{log_in, new_region, new_regions, no_region, region_in, full_in, is_full_in, observed, own_node, own_seen}
use Rattle.assise_machine_state.proofs.Common.{world_of, item_at, IsMarked, ShapeInvariant, StateValue, leases_of}
use Rattle.assise_names.specs.declared.limits.TheConstants.{MOST_NODES}
use Rattle.assise_model_world.specs.Runs.{begun}
use Rattle.assise_machine_state.proofs.Shared.HotCapacities.{begun_capacities}
use Rattle.assise_machine_state.proofs.Shared.ItemSeen.{seen_nothing}

-- ---- what is seen of nodes

-- a new node has what one has that isn't there, but that some of its inodes may be hot
same_regions : {A : Type 0} (f : RegionValue → A) (n hot k : ℕ) → f (new_region hot) ≡ f no_region → f (get_or (new_regions n hot) k no_region) ≡ f no_region
same_regions f zero hot k same = refl
same_regions f (suc n) hot zero same = same
same_regions f (suc n) hot (suc k) same = same_regions f n hot k same

new_seen : {A : Type 0} (f : RegionValue → A) (n hot k : ℕ) → f (new_region hot) ≡ f no_region → f (region_in (new_regions n hot) k) ≡ f no_region
unfolding region_in item_at
new_seen f n hot zero same = refl
new_seen f n hot (suc k) same = same_regions f n hot k same

no_log_seen : (n hot k c : ℕ) → log_in (new_regions n hot) k c ≡ no_log
unfolding log_in
no_log_seen n hot k c = ap (λ ls. item_at no_log ls c) (new_seen (λ r. r.logs) n hot k refl) ∙ seen_nothing no_log c

nobody_seen : (c : ℕ) → client_in [] c ≡ no_client
unfolding client_in
nobody_seen c = seen_nothing no_client c

-- the state in which nothing happened
abbrev begun_state : (n hot limit : ℕ) → TwoLevels → StateValue
begun_state n hot limit levels =
    record { nodes = new_regions n hot; members = all_full n; clients = []; levels = levels; cuts = []; history = []; limit = limit }

no_own_log : (n hot limit c : ℕ) (t : TwoLevels) → own_seen (begun_state n hot limit t) c ≡ no_log
unfolding own_seen
no_own_log n hot limit c t = no_log_seen n hot (own_node (fulls n) (client_in [] c)) c

-- ---- which nodes are full

so_many : (n : ℕ) → length (fulls n) ≡ n
so_many zero = refl
so_many (suc n) = ap suc (so_many n)

each_full : (n k : ℕ) → k < n → slice_get (fulls n) k ≡ Some full
each_full zero k below = absurd (omega (arith, below))
each_full (suc n) zero below = refl
each_full (suc n) (suc k) below = each_full n k (omega (arith, below))

all_stay : (n k : ℕ) → k ≤ n → filter (is_full_in (fulls n)) (down_from k) ≡ down_from k
unfolding is_full_in
all_stay n zero low = refl
all_stay n (suc k) low = rw (each_full n k (omega (arith, low))) (ap (λ ns. suc k ∷ ns) (all_stay n k (omega (arith, low))))

all_seen_full : (n : ℕ) → full_in (fulls n) ≡ down_from n
unfolding full_in
all_seen_full n = ap (λ k. filter (is_full_in (fulls n)) (down_from k)) (so_many n) ∙ all_stay n n (omega arith)

-- ---- the whole

world_seen : (n hot limit : ℕ) → world_of (begun_state n hot limit nobody) ≡ begun (down_from n)
unfolding world_of leases_of
world_seen n hot limit = λ i. record {
  full = all_seen_full n i;
  area = λ k. values (new_seen (λ r. r.inodes) n hot k refl i);
  log = λ k c. (no_log_seen n hot k c i).log.records;
  received = λ k c. end (no_log_seen n hot k c i).log;
  digested = λ k c. (no_log_seen n hot k c i).digested;
  clients = 0;
  home = λ c. (nobody_seen c i).home;
  lives = λ c. not (nobody_seen c i).failed;
  crashed = λ c. (nobody_seen c i).crashed;
  records = λ c. (no_own_log n hot limit c nobody i).log.records;
  first = λ c. (no_own_log n hot limit c nobody i).log.first;
  border = λ c k. (ap (λ l. is_border l.log k) (no_own_log n hot limit c nobody) ∙ border_end (empty_log 0) k refl (omega arith)) i;
  goal = λ c. (nobody_seen c i).goal;
  next = λ c. (nobody_seen c i).next;
  made = λ c. (nobody_seen c i).made;
  holds = λ c j. false;
  writes = λ c j. false;
  calls = [];
}

leases_seen : (n hot limit : ℕ) → leases_of (begun_state n hot limit nobody) ≡ record { levels = nobody; cut = λ c i. 0 }
unfolding leases_of
leases_seen n hot limit = λ k. record { levels = nobody; cut = λ c i. cut_of [] c (nobody_seen c k) i }

same_levels : (old new : TwoLevels) → SameLevels old new → new ≡ old
same_levels old new s = λ i. record { home = λ c. s.home c i; clients = λ j. s.clients j i; nodes = λ j. s.nodes j i }

begun_seen : (n hot limit : ℕ) → observed (begun_state n hot limit nobody) ≡ begun_as n limit hot
unfolding observed
begun_seen n hot limit = λ k. record
    { limit = limit; hot = begun_capacities n hot k; history = []; world = world_seen n hot limit k; leases = leases_seen n hot limit k; members = all_full n }

-- nothing is seen of a state but its parts
parts : (s : StateValue) (n hot : ℕ) → s.nodes ≡ new_regions n hot → s.members ≡ all_full n → s.clients ≡ [] → SameLevels nobody s.levels → s.cuts ≡ [] →
    s.history ≡ [] → s ≡ begun_state n hot s.limit nobody
parts s n hot nodes members none levels unasked nothing = grind (arith, same_levels)

pub starts : (s : StateValue) (n hot : ℕ) → s.nodes ≡ new_regions n hot → s.members ≡ all_full n → s.clients ≡ [] → SameLevels nobody s.levels → s.cuts ≡ [] →
    s.history ≡ [] → observed s ≡ begun_as n s.limit hot
starts s n hot nodes members none levels unasked nothing = ap observed (parts s n hot nodes members none levels unasked nothing) ∙ begun_seen n hot s.limit

-- ---- its parts

begun_shaped : (n hot limit : ℕ) → n ≤ MOST_NODES → 8 ≤ limit → limit ≤ 4096 → ShapeInvariant (begun_state n hot limit nobody)
begun_shaped n hot limit few least most = record {
  nodes = as_many n;
  few_nodes = subst (λ k. k ≤ MOST_NODES) (sym (many_regions n)) few;
  logs = λ k f. ap length (new_seen (λ r. r.logs) n hot k refl);
  no_logs = λ k f. new_seen (λ r. r.logs) n hot k refl;
  at_home = λ k c. ap (λ l. l.at_home) (no_log_seen n hot k c) ∙ sym (ap (λ x. (k == x.home) && not x.failed) (nobody_seen c) ∙ and-false (k == 0));
  limits = λ k c has. absurd (has_none n k c has);
  least_limit = least;
  most_limit = most;
  marked = λ k c. subst (λ l. IsMarked (is_border (own_seen (begun_state n hot limit nobody) c).log) l.log) (sym (no_log_seen n hot k c)) refl;
  durabilities = λ c. ap (λ x. x.durability) (nobody_seen c);
}
  where
    many_regions : (m : ℕ) → length (new_regions m hot) ≡ m
    many_regions zero = refl
    many_regions (suc m) = ap suc (many_regions m)

    as_many : (m : ℕ) → length (new_regions m hot) ≡ length (fulls m)
    as_many m = many_regions m ∙ sym (so_many m)

    has_none : (m k c : ℕ) → HasLog (new_regions m hot) k c → ⊥
    has_none m k c has =
        let none : length (region_in (new_regions m hot) k).logs ≡ 0 = ap length (new_seen (λ r. r.logs) m hot k refl) in
        absurd (omega (arith, none, has.client.some, has.client.there))

pub starts_shaped : (s : StateValue) (n hot : ℕ) → s.nodes ≡ new_regions n hot → s.members ≡ all_full n → s.clients ≡ [] → SameLevels nobody s.levels →
    s.cuts ≡ [] → s.history ≡ [] → n ≤ MOST_NODES → 8 ≤ s.limit → s.limit ≤ 4096 → ShapeInvariant s
starts_shaped s n hot nodes members none levels unasked nothing few least most =
    subst ShapeInvariant (sym (parts s n hot nodes members none levels unasked nothing)) (begun_shaped n hot s.limit few least most)
