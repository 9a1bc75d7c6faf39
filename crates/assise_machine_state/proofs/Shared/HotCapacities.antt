-- How many inodes may be hot at each node stays where its inodes and logs change.
use Rattle.assise_machine_state.proofs.Common.{◌≡◌, ℕ, zero, suc, ◌-◌, ◌==◌, Bool, List, [], ◌∷◌, map, replicate, slice_index_or, slice_set, refl, ap, ◌∙◌}
use Rattle.assise_machine_state.proofs.Common.{arith, cond_both, map-set, Effect, ReceivedLog, RegionValue, from_number, region_with_client, up_to_number}
use Rattle.assise_machine_state.proofs.Common.{with_hot_capacity, with_clients_cut, ClientValue, begun_log, changed_in, hot_capacities, new_regions, no_region}
use Rattle.assise_machine_state.proofs.Common.{region_in, with_call_in, with_hot_in, with_log_in, with_logs_begun, with_prefixes_dropped, with_region}
use Rattle.assise_machine_state.proofs.Common.{with_tails_cut, without_logs, IsNumber, item_at}
use Rattle.assise_machine_state.proofs.Shared.ItemSeen.{is_seen, is_set}
use Rattle.assise_machine_state.proofs.Shared.LogChanges.{region_with}

-- ---- at one node

kept_at : (rs : List RegionValue) (k : ℕ) (r : RegionValue) → r.capacity ≡ (slice_index_or rs k no_region).capacity → hot_capacities (slice_set rs k r)
    ≡ hot_capacities rs
kept_at [] k r same = refl
kept_at (q ∷ rs) zero r same = ap (λ capacity. capacity ∷ hot_capacities rs) same
kept_at (q ∷ rs) (suc k) r same = ap (λ capacities. q.capacity ∷ capacities) (kept_at rs k r same)

pub region_keeps : (rs : List RegionValue) (n : ℕ) (r : RegionValue) → r.capacity ≡ (region_in rs n).capacity → hot_capacities (with_region rs n r)
    ≡ hot_capacities rs
unfolding region_in item_at
region_keeps rs n r h1 = grind (arith, kept_at)

pub log_keeps : (rs : List RegionValue) (n c : ℕ) (l : ReceivedLog) → hot_capacities (with_log_in rs n c l) ≡ hot_capacities rs
log_keeps rs n c l = region_keeps rs n (region_with rs n c (region_in rs n).inodes l) refl

pub set_at : (rs : List RegionValue) (n capacity : ℕ) → hot_capacities (with_hot_in rs n capacity) ≡ slice_set (hot_capacities rs) (n - 1) capacity
set_at rs n capacity = map-set (λ r. r.capacity) rs (n - 1) (with_hot_capacity (slice_index_or rs (n - 1) no_region) capacity)

-- as the code sets it
pub hot_as : (rs : List RegionValue) (n capacity : ℕ) → IsNumber rs n →
    with_region rs n (with_hot_capacity (region_in rs n) capacity) ≡ with_hot_in rs n capacity
unfolding region_in
hot_as rs n capacity there = grind (arith, is_set, slice_set, is_seen)

pub call_keeps : (rs : List RegionValue) (n c call : ℕ) (es : List Effect) → hot_capacities (with_call_in rs n c call es) ≡ hot_capacities rs
call_keeps rs n c call es = grind (arith, cond_both, log_keeps)

-- ---- at all nodes

each_keeps : (f : RegionValue → RegionValue) → ((r : RegionValue) → (f r).capacity ≡ r.capacity) → (rs : List RegionValue) → hot_capacities (map f rs)
    ≡ hot_capacities rs
each_keeps f same [] = refl
each_keeps f same (r ∷ rs) = (λ i. same r i ∷ each_keeps f same rs i)

changed_keeps : (c : ℕ) (f : ReceivedLog → ReceivedLog) (rs : List RegionValue) → hot_capacities (map (changed_in c f) rs) ≡ hot_capacities rs
changed_keeps c f = grind (arith, each_keeps, cond_both)

pub prefixes_keep : (rs : List RegionValue) (c to : ℕ) → hot_capacities (with_prefixes_dropped rs c to) ≡ hot_capacities rs
prefixes_keep rs c to = changed_keeps c (λ l. from_number l to) rs

tails_keep : (rs : List RegionValue) (c from : ℕ) → hot_capacities (with_tails_cut rs c from) ≡ hot_capacities rs
tails_keep rs c from = changed_keeps c (λ l. up_to_number l from) rs

pub begun_keeps : (full : ℕ → Bool) (limit home n : ℕ) (rs : List RegionValue) → hot_capacities (with_logs_begun full limit home n rs) ≡ hot_capacities rs
begun_keeps full limit home n [] = refl
begun_keeps full limit home n (r ∷ rs) =
    let begun : RegionValue = region_with_client r (begun_log limit (n == home)) in
    (λ i. cond_both (full n) begun r (λ q. q.capacity ≡ r.capacity) (λ _. refl) (λ _. refl) i ∷ begun_keeps full limit home (suc n) rs i)

cut_keeps : (home : ℕ) (cs : List ClientValue) (kept : ℕ → ℕ) (m : ℕ) (rs : List RegionValue) → hot_capacities (with_clients_cut home cs kept m rs)
    ≡ hot_capacities rs
cut_keeps home cs kept zero rs = refl
cut_keeps home cs kept (suc c) rs = grind (arith, cond_both, tails_keep, (cut_keeps home cs kept c rs))

-- a node fails
pub failure_keeps : (rs : List RegionValue) (n : ℕ) (cs : List ClientValue) (kept : ℕ → ℕ) (m : ℕ) →
    hot_capacities (with_clients_cut n cs kept m (without_logs rs n)) ≡ hot_capacities rs
failure_keeps rs n cs kept m = cut_keeps n cs kept m (without_logs rs n) ∙ region_keeps rs n _ refl

-- ---- the start

pub begun_capacities : (count hot : ℕ) → hot_capacities (new_regions count hot) ≡ replicate count hot
begun_capacities zero hot = refl
begun_capacities (suc count) hot = ap (λ capacities. hot ∷ capacities) (begun_capacities count hot)
