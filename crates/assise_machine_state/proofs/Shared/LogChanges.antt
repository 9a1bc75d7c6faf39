-- What is seen of nodes after a change of one of them, of one of its logs, or of one client's logs at all of them.
use Rattle.assise_machine_state.proofs.Common.{◌≡◌, ◌≢◌, ℕ, ◌-◌, ◌<◌, ◌≤◌, nat_le, Bool, List, [], ◌∷◌, length, get_or, map, refl, ap, sym, ◌∙◌, append-nil}
use Rattle.assise_machine_state.proofs.Common.{arith, Result, OnErr, OnOk, set, get_or-map, cases_Bool, cases_eq, cond_both, le-leb, leb-false, leb-true}
use Rattle.assise_machine_state.proofs.Common.{length-set, on_err_weaker, on_ok_weaker, InodeMap, ReceivedLog, RegionValue, digested_by, log_of, no_log}
use Rattle.assise_machine_state.proofs.Common.{with_log, HasLog, changed_in, log_in, no_region, region_in, with_digested_in, with_log_in, with_records}
use Rattle.assise_machine_state.proofs.Common.{with_region, IsNumber, item_at, with_item}
use Rattle.assise_machine_state.proofs.Shared.ItemSeen.{is_seen, is_set, length-with, place_kept, seen_back}
use Rattle.assise_machine_state.proofs.Shared.ItemSeen.{seen_else, seen_found, seen_here, seen_kept, seen_past}

-- a log into which nothing comes stays
pub none_more : (border : ℕ → Bool) (l : ReceivedLog) → with_records border l [] ≡ l
none_more border l = grind (arith, append-nil)

-- a log that a node has is an item
pub log_number : (rs : List RegionValue) (n c : ℕ) → HasLog rs n c → IsNumber (region_in rs n).logs c
log_number rs n c has = record { some = has.client.some; there = has.client.there }

-- ---- node n has other inodes or logs

module _ (rs : List RegionValue) (n : ℕ) (r : RegionValue) where
  -- what it keeps stays of all nodes
  pub region_kept : {A : Type 0} (f : RegionValue → A) → f r ≡ f (region_in rs n) → (m : ℕ) → f (region_in (with_region rs n r) m) ≡ f (region_in rs m)
  unfolding region_in
  region_kept f same m = seen_kept f no_region r rs n m same

  module _ (there : IsNumber rs n) where
    pub region_here : region_in (with_region rs n r) n ≡ r
    unfolding region_in
    region_here = seen_here no_region r rs n there

    pub region_else : (m : ℕ) → m ≢ n → region_in (with_region rs n r) m ≡ region_in rs m
    unfolding region_in
    region_else m other = seen_else no_region r rs n m there other

    pub log_away : (m d : ℕ) → m ≢ n → log_in (with_region rs n r) m d ≡ log_in rs m d
    unfolding log_in
    log_away m d other = ap (λ x. item_at no_log x.logs d) (region_else m other)

-- what is found of node n
pub region_found : (rs items : List RegionValue) (n : ℕ) {r : RegionValue} → items ≡ rs → IsNumber rs n → r ≡ get_or items (n - 1) r → r ≡ region_in rs n
unfolding region_in
region_found rs items n {r} same there is = seen_found no_region r items rs n same there is

-- what node n has is put back
pub region_back : (rs : List RegionValue) (n : ℕ) → with_region rs n (region_in rs n) ≡ rs
unfolding region_in
region_back rs n = seen_back no_region rs n

pub log_back : (rs : List RegionValue) (n c : ℕ) → with_log_in rs n c (log_in rs n c) ≡ rs
unfolding log_in
log_back rs n c = ap (λ ls. with_region rs n (record (region_in rs n) { logs = ls })) (seen_back no_log (region_in rs n).logs c) ∙ region_back rs n

-- what is refused changes nothing
pub refused_back : {T E : Type 0} (a : Result T E) (rs : List RegionValue) (n : ℕ) (now : RegionValue) {was : RegionValue} → was ≡ region_in rs n →
    OnErr a (now ≡ was) → OnErr a (with_region rs n now ≡ rs)
refused_back a rs n now found kept = on_err_weaker a (λ same. ap (with_region rs n) (same ∙ found) ∙ region_back rs n) kept

-- ---- one log of a region

log_set : (l : ReceivedLog) (ls : List ReceivedLog) (c : ℕ) → IsNumber ls c → item_at no_log (set ls (c - 1) l) c ≡ l
log_set l ls c has = ap (λ ks. item_at no_log ks c) (is_set l ls c has) ∙ seen_here no_log l ls c has

log_other : (l : ReceivedLog) (ls : List ReceivedLog) (c d : ℕ) → IsNumber ls c → d ≢ c → item_at no_log (set ls (c - 1) l) d ≡ item_at no_log ls d
log_other l ls c d has other = ap (λ ks. item_at no_log ks d) (is_set l ls c has) ∙ seen_else no_log l ls c d has other

-- the log that the code finds in a region
pub log_found : (rs : List RegionValue) (n c : ℕ) {r : RegionValue} → HasLog rs n c → r ≡ region_in rs n → log_of r c ≡ log_in rs n c
unfolding log_in
log_found rs n c has found = ap (λ r. log_of r c) found ∙ sym (is_seen no_log (region_in rs n).logs c (log_number rs n c has))

-- and the change of it
pub log_put : (rs : List RegionValue) (n c : ℕ) {r : RegionValue} (l : ReceivedLog) → HasLog rs n c → r ≡ region_in rs n →
    with_region rs n (with_log r c l) ≡ with_log_in rs n c l
log_put rs n c l has found = grind (arith, is_set, log_number)

pub changed_log : {T E : Type 0} (a : Result T E) (f : ReceivedLog → ReceivedLog) (now : RegionValue) {rs : List RegionValue} {n c : ℕ} {r : RegionValue} →
    HasLog rs n c → r ≡ region_in rs n → OnOk a (now ≡ with_log r c (f (log_of r c))) → OnOk a (with_region rs n now ≡ with_log_in rs n c (f (log_in rs n c)))
changed_log a f now {rs} {n} {c} has found =
    on_ok_weaker a (λ ok. ap (with_region rs n) ok ∙ log_put rs n c _ has found ∙ ap (λ l. with_log_in rs n c (f l)) (log_found rs n c has found))

pub digested_put : (rs : List RegionValue) (n c count : ℕ) {r : RegionValue} → HasLog rs n c → r ≡ region_in rs n →
    with_region rs n (digested_by r c count) ≡ with_digested_in rs n c count
digested_put rs n c count has found = grind (arith, log_found, is_set, log_number)

-- ---- node n has these inodes, and this log of client c

abbrev pub region_with : List RegionValue → (n c : ℕ) → InodeMap → ReceivedLog → RegionValue
region_with rs n c inodes l = record (region_in rs n) { inodes = inodes; logs = with_item (region_in rs n).logs c l }

abbrev pub log_changed : List RegionValue → (n c : ℕ) → InodeMap → ReceivedLog → List RegionValue
log_changed rs n c inodes l = with_region rs n (region_with rs n c inodes l)

module _ (rs : List RegionValue) (n c : ℕ) (inodes : InodeMap) (l : ReceivedLog) where
  pub logs_count : (m : ℕ) → length (region_in (log_changed rs n c inodes l) m).logs ≡ length (region_in rs m).logs
  logs_count m = region_kept rs n (region_with rs n c inodes l) (λ r. length r.logs) (length-with (region_in rs n).logs c l) m

  -- what the log keeps stays of all logs
  pub log_same : {A : Type 0} (f : ReceivedLog → A) (m d : ℕ) → f l ≡ f (log_in rs n c) → f (log_in (log_changed rs n c inodes l) m d) ≡ f (log_in rs m d)
  unfolding log_in
  log_same f m d same = region_kept rs n (region_with rs n c inodes l) (λ r. f (item_at no_log r.logs d)) (seen_kept f no_log l (region_in rs n).logs c d same)
      m

  module _ (has : HasLog rs n c) where
    pub log_here : log_in (log_changed rs n c inodes l) n c ≡ l
    unfolding log_in
    log_here = ap (λ r. item_at no_log r.logs c) (region_here rs n (region_with rs n c inodes l) has.node)
        ∙ seen_here no_log l (region_in rs n).logs c (log_number rs n c has)

    log_beside : (d : ℕ) → d ≢ c → log_in (log_changed rs n c inodes l) n d ≡ log_in rs n d
    unfolding log_in
    log_beside d other = grind (arith, region_here, seen_else, log_number)

    -- each other log stays
    pub log_else : (m d : ℕ) → (m ≡ n → d ≡ c → ⊥) → log_in (log_changed rs n c inodes l) m d ≡ log_in rs m d
    log_else m d other = grind (arith, cases_eq, log_beside, log_away)

-- ---- client c's log changes at each node that has one

module _ (c : ℕ) (g : ReceivedLog → ReceivedLog) where
  none_changed : changed_in c g no_region ≡ no_region
  none_changed = cond_both (nat_le c 0) (with_log no_region c (g (log_of no_region c))) no_region (λ r. r ≡ no_region) (λ _. refl) (λ _. refl)

  region_changed : (rs : List RegionValue) (n : ℕ) → region_in (map (changed_in c g) rs) n ≡ changed_in c g (region_in rs n)
  unfolding region_in item_at
  region_changed rs n = ap (λ r. get_or (r ∷ map (changed_in c g) rs) n r) (sym none_changed) ∙ get_or-map (changed_in c g) (no_region ∷ rs) n no_region

  own_changed : (r : RegionValue) → IsNumber r.logs c → item_at no_log (changed_in c g r).logs c ≡ g (item_at no_log r.logs c)
  own_changed r has = grind (arith, le-leb, log_set, is_seen)

  -- what the change leaves of a region that has the log it leaves of all nodes
  region_same : {A : Type 0} (f : RegionValue → A) → ((r : RegionValue) → c ≤ length r.logs → f (with_log r c (g (log_of r c))) ≡ f r) →
      (rs : List RegionValue) (n : ℕ) → f (region_in (map (changed_in c g) rs) n) ≡ f (region_in rs n)
  region_same f same rs n = grind (arith, region_changed, cond_both, leb-true)

  pub inodes_seen : (rs : List RegionValue) (n : ℕ) → (region_in (map (changed_in c g) rs) n).inodes ≡ (region_in rs n).inodes
  inodes_seen = region_same (λ r. r.inodes) (λ r _. refl)

  pub count_seen : (rs : List RegionValue) (n : ℕ) → length (region_in (map (changed_in c g) rs) n).logs ≡ length (region_in rs n).logs
  count_seen = region_same (λ r. length r.logs) (λ r _. length-set r.logs (c - 1) (g (log_of r c)))

  pub part_seen : {A : Type 0} (f : ReceivedLog → A) (rs : List RegionValue) (n d : ℕ) → ((l : ReceivedLog) → f (g l) ≡ f l) →
      f (log_in (map (changed_in c g) rs) n d) ≡ f (log_in rs n d)
  unfolding log_in
  part_seen f rs n d same =
      region_same (λ r. f (item_at no_log r.logs d)) (λ r _. place_kept f no_log (g (log_of r c)) r.logs (c - 1) d (same (log_of r c))) rs n

  pub beside_seen : (rs : List RegionValue) (n d : ℕ) → 0 < c → d ≢ c → log_in (map (changed_in c g) rs) n d ≡ log_in rs n d
  unfolding log_in
  beside_seen rs n d some other =
      region_same (λ r. item_at no_log r.logs d) (λ r has. log_other (g (log_of r c)) r.logs c d record { some = some; there = has } other) rs n

  pub own_changes : (rs : List RegionValue) (n : ℕ) → HasLog rs n c → log_in (map (changed_in c g) rs) n c ≡ g (log_in rs n c)
  unfolding log_in
  own_changes rs n has = grind (arith, region_changed, own_changed, log_number)

  -- of a change that leaves the log of no client
  pub own_changes_all : 0 < c → g no_log ≡ no_log → (rs : List RegionValue) (n : ℕ) → log_in (map (changed_in c g) rs) n c ≡ g (log_in rs n c)
  unfolding log_in
  own_changes_all some none rs n = grind (arith, region_changed, cases_Bool, own_changed, leb-true, seen_past, leb-false)
