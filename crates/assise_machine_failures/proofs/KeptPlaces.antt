-- The places up to which logs are kept where a node fails, as the state has them.
use Rattle.assise_machine_failures.proofs.Common.{◌≡◌, ◌≢◌, ℕ, zero, suc, ◌+◌, ◌<◌, ◌≤◌, ◌==◌, ◌&&◌, min, take, take-suc, true, false, not, List, [], ◌∷◌, ◌++◌}
use Rattle.assise_machine_failures.proofs.Common.{filter, length, get_or, inl, inr, refl, ap, sym, ◌∙◌, arith, eqb-true, append-nil, cases_lt}
use Rattle.assise_machine_failures.proofs.Common.{get_or_append_left, get_or_push, length_push, contains, log_end, Standing, full_nodes, kept_at_failure, World}
use Rattle.assise_machine_failures.proofs.Common.{end_of_log, least_of, client_in, log_in, full_in, own_node, world_of, IsNumber, ShapeInvariant, StateValue}
use Rattle.assise_machine_failures.proofs.Common.{standings, full_is, kept_elsewhere, listed_is, one_more, own_end, kept_to}
use Rattle.std.proofs.lemmas.List.Elements.{filter-append}
use Rattle.std.proofs.lemmas.Map.Views.{any-filter_same}
use Rattle.assise_model_world.proofs.Shared.WorldObserved.{least_of-above, least_of-below, least_of-end}
use Rattle.assise_model_history.proofs.Shared.FailureList.{cut_there}

-- ---- the others of a list

abbrev pub others : ℕ → List ℕ → List ℕ
others n ns = filter (λ m. not (m == n)) ns

others_has : (n : ℕ) (ns : List ℕ) (k : ℕ) → contains (others n ns) k ≡ (not (k == n) && contains ns k)
others_has n ns k = any-filter_same (λ j. j == k) (λ m. not (m == n)) (not (k == n)) (λ j is. ap (λ m. not (m == n)) (eqb-true j k is)) ns

no_more : (ms ns : List ℕ) (f : ℕ → ℕ) (d : ℕ) → ((k : ℕ) → contains ms k ≡ contains ns k) → least_of ns f d ≤ least_of ms f d
no_more ms ns f d same = least_of-above ms f d (least_of ns f d) (least_of-end ns f d) (λ k there. least_of-below ns f d k (sym (same k) ∙ there))

-- lists that have the same have one least number
same_least : (ms ns : List ℕ) (f : ℕ → ℕ) (d : ℕ) → ((k : ℕ) → contains ms k ≡ contains ns k) → least_of ms f d ≡ least_of ns f d
same_least ms ns f d same = grind (arith, no_more)

same_others : (nodes : List Standing) (n k : ℕ) → contains (others n (full_nodes nodes)) k ≡ contains (others n (full_in nodes)) k
same_others nodes n k = grind (arith, others_has, listed_is, full_is)

-- ---- one full node after another

prefix_more : (n : ℕ) (ns : List ℕ) (i : ℕ) → i < length ns → others n (take (i + 1) ns) ≡ others n (take i ns) ++ others n (get_or ns i 0 ∷ [])
prefix_more n ns i low =
    (let next : i + 1 ≡ suc i = omega arith in
    ap (λ k. others n (take k ns)) next ∙ ap (others n) (take-suc ns i 0 low) ∙ filter-append (λ m. not (m == n)) (take i ns) (get_or ns i 0 ∷ []))

pub next_other : (n : ℕ) (ns : List ℕ) (i : ℕ) (f : ℕ → ℕ) (d : ℕ) → i < length ns → get_or ns i 0 ≢ n →
    least_of (others n (take (i + 1) ns)) f d ≡ min (least_of (others n (take i ns)) f d) (f (get_or ns i 0))
next_other n ns i f d low other = grind (arith, prefix_more, one_more)

pub next_itself : (n : ℕ) (ns : List ℕ) (i : ℕ) (f : ℕ → ℕ) (d : ℕ) → i < length ns → get_or ns i 0 ≡ n → least_of (others n (take (i + 1) ns)) f d
    ≡ least_of (others n (take i ns)) f d
next_itself n ns i f d low same = grind (arith, prefix_more, append-nil)

-- ---- what is kept of a client

module _ (s : StateValue) (n c : ℕ) (shape : ShapeInvariant s) (client : IsNumber s.clients c) (some : 0 < length (full_nodes (standings s))) where
  abbrev own_place : ℕ
  own_place = log_end (log_in s.nodes (own_node (standings s) (client_in s.clients c)) c).log

  all_once_over : (world_of s).lives c ≡ false → kept_at_failure (world_of s) n c ≡ end_of_log (world_of s) c
  unfolding kept_at_failure
  all_once_over over = rw over refl

  pub kept_over : (client_in s.clients c).failed ≡ true → own_place ≡ kept_at_failure (world_of s) n c
  unfolding world_of
  kept_over over = sym (all_once_over (ap not over) ∙ own_end s c shape client some)

  pub kept_other : (client_in s.clients c).home ≢ n → own_place ≡ kept_at_failure (world_of s) n c
  unfolding world_of
  kept_other other = sym (kept_elsewhere (world_of s) n c other ∙ own_end s c shape client some)

  least_seen : least_of (others n (full_in (standings s))) (λ m. log_end (log_in s.nodes m c).log) own_place ≡ least_of (others n (world_of s).full)
      (λ m. (world_of s).received m c) (end_of_log (world_of s) c)
  unfolding world_of
  least_seen = grind (arith, own_end)

  pub kept_least : (client_in s.clients c).failed ≡ false → (client_in s.clients c).home ≡ n →
      least_of (others n (full_nodes (standings s))) (λ m. log_end (log_in s.nodes m c).log) own_place ≡ kept_at_failure (world_of s) n c
  unfolding world_of
  kept_least unfailed here = grind (arith, same_least, same_others, least_seen, cut_there)

-- ---- of all clients

pub kept_count : (w : World) (n m : ℕ) → length (kept_to w n m) ≡ m
kept_count w n zero = refl
kept_count w n (suc m) = grind (arith, kept_count w n m, length_push)

pub kept_place : (w : World) (n m k : ℕ) → k < m → get_or (kept_to w n m) k 0 ≡ kept_at_failure w n (suc k)
kept_place w n zero k low = absurd (omega (arith, low))
kept_place w n (suc m) k low =
    let count : length (kept_to w n m) ≡ m = kept_count w n m in
    elim (cases_lt k m) [
      | inl before ↦ get_or_append_left (kept_to w n m) (kept_at_failure w n (suc m) ∷ []) 0 k (omega (arith, before, count)) ∙ kept_place w n m k before
      | inr last ↦
          grind (arith, get_or_push)
    ]
