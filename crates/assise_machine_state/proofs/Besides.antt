-- The greatest place that a full node besides a client's home has received.
use Rattle.assise_machine_state.proofs.Common.{◌≡◌, ℕ, ◌+◌, ◌<◌, ◌≤◌, ◌==◌, max, not, take, take-suc, Bool, true, false, List, [], ◌∷◌, ◌++◌, filter, length}
use Rattle.assise_machine_state.proofs.Common.{get_or, refl, ap, ◌∙◌, arith, suc, cases_Bool, cases_eq, false≢true, ne_eqb, contains, log_end, full_nodes}
use Rattle.assise_machine_state.proofs.Common.{received_by_all, contains-filter, filter-contains, besides, coalesced_from, full_elsewhere, most_of, most-above}
use Rattle.assise_machine_state.proofs.Common.{most-below, client_in, log_in, world_of, IsNumber, ShapeInvariant, StateValue, standings}
use Rattle.assise_machine_state.proofs.Shared.Fullness.{full_is}
use Rattle.assise_machine_state.proofs.Shared.Standings.{is_listed, listed_is_full}

-- ---- one node after another

module _ (home : ℕ) (f : ℕ → ℕ) where
  one_more : (ns : List ℕ) (n : ℕ) → (n == home) ≡ false → most_of (besides home (ns ++ n ∷ [])) f ≡ max (most_of (besides home ns) f) (f n)
  one_more [] n other = rw other (omega arith)
  one_more (m ∷ ns) n other = grind (arith, cases_Bool, (one_more ns n other))

  no_more : (ns : List ℕ) (n : ℕ) → (n == home) ≡ true → most_of (besides home (ns ++ n ∷ [])) f ≡ most_of (besides home ns) f
  no_more [] n is = rw is refl
  no_more (m ∷ ns) n is = grind (arith, cases_Bool, (no_more ns n is))

  taken_more : (ns : List ℕ) (i : ℕ) → i < length ns → take (i + 1) ns ≡ take i ns ++ get_or ns i 0 ∷ []
  taken_more ns i low = (let next : i + 1 ≡ suc i = omega arith in ap (λ k. take k ns) next ∙ take-suc ns i 0 low)

  pub next_most : (ns all : List ℕ) (i most found now : ℕ) → ns ≡ all → i < length ns → most ≡ most_of (besides home (take i all)) f →
      (get_or ns i 0 == home) ≡ false → found ≡ f (get_or ns i 0) → now ≡ max most found → now ≡ most_of (besides home (take (i + 1) all)) f
  next_most ns all i most found now same low before other is taken = grind (arith, taken_more, one_more)

  pub next_same : (ns all : List ℕ) (i most : ℕ) → ns ≡ all → i < length ns → most ≡ most_of (besides home (take i all)) f →
      (get_or ns i 0 == home) ≡ true → most ≡ most_of (besides home (take (i + 1) all)) f
  next_same ns all i most same low before is = grind (arith, taken_more, no_more)

-- ---- the order in which full nodes are listed doesn't matter

-- what is left passed
passes : (p : ℕ → Bool) (ns : List ℕ) (n : ℕ) → contains (filter p ns) n ≡ true → p n ≡ true
passes p [] n h = absurd (false≢true h)
passes p (m ∷ ns) n h = grind (arith, cases_Bool, cases_eq, ne_eqb, (passes p ns n))

no_less : (home : ℕ) (ns ms : List ℕ) (f g : ℕ → ℕ) → ((n : ℕ) → contains ns n ≡ true → contains ms n ≡ true) → ((n : ℕ) → contains ns n ≡ true → f n ≡ g n) →
    most_of (besides home ns) f ≤ most_of (besides home ms) g
no_less home ns ms f g there same = most-below (besides home ns) f (most_of (besides home ms) g) (λ n listed.
    let known : contains ns n ≡ true = contains-filter (λ m. not (m == home)) ns n listed in
    let away : not (n == home) ≡ true = passes (λ m. not (m == home)) ns n listed in
    let low : g n ≤ most_of (besides home ms) g = most-above (besides home ms) g n (filter-contains (λ m. not (m == home)) ms n away (there n known)) in
    omega (arith, same n known, low))

module _ (s : StateValue) (c : ℕ) (shape : ShapeInvariant s) (client : IsNumber s.clients c) where
  abbrev received_in : ℕ → ℕ
  received_in n = log_end (log_in s.nodes n c).log

  most_besides : most_of (besides (client_in s.clients c).home (full_nodes (standings s))) received_in ≡ most_of (full_elsewhere (world_of s) c)
      (λ n. (world_of s).received n c)
  unfolding world_of
  most_besides = grind (arith, no_less, full_is, listed_is_full, is_listed)

  pub coalesced_place : (goal acked most : ℕ) → goal ≡ (client_in s.clients c).goal → acked ≡ received_by_all (world_of s) c →
      most ≡ most_of (besides (client_in s.clients c).home (full_nodes (standings s))) received_in → max (max goal acked) most ≡ coalesced_from (world_of s) c
  unfolding world_of
  coalesced_place goal acked most goal_is acked_is most_is = grind (arith, most_besides)
