-- Logs of a failed node's clients that are cut, one client after another.
use Rattle.assise_machine_failures.proofs.Common.{◌≡◌, ◌≢◌, ℕ, zero, suc, ◌-◌, ◌<◌, ◌≤◌, ◌==◌, List, [], ◌∷◌, length, slice_index_or, inl, inr, refl, ap, sym}
use Rattle.assise_machine_failures.proofs.Common.{subst, ◌∙◌, arith, eq-eqb, cases_Bool, ne_eqb, length-map, HasClient, RegionValue, log_of, with_clients_cut}
use Rattle.assise_machine_failures.proofs.Common.{with_clients_failed, ClientValue, client_in, failed_at, with_client, AreUndigested, HasLog, IsUndigestedFrom}
use Rattle.assise_machine_failures.proofs.Common.{log_in, no_region, region_in, with_tails_cut, IsNumber, item_at, count_over, beside_seen, count_seen}
use Rattle.assise_machine_failures.proofs.Common.{log_found, client_else, less_one}

each_undigested : (rs : List RegionValue) (c from : ℕ) →
    ((k : ℕ) → k < length rs → HasClient (slice_index_or rs k no_region) c → IsUndigestedFrom (log_of (slice_index_or rs k no_region) c) from) →
    AreUndigested rs c from
each_undigested [] c from each = tt
each_undigested (r ∷ rs) c from each = (each 0 (omega arith), each_undigested rs c from (λ k low. each (suc k) (omega (arith, low))))

pub all_undigested : (rs : List RegionValue) (c from : ℕ) → ((k : ℕ) → HasLog rs k c → IsUndigestedFrom (log_in rs k c) from) → AreUndigested rs c from
unfolding region_in item_at
all_undigested rs c from each = each_undigested rs c from (λ k low client.
    let has : HasLog rs (suc k) c = record { node = record { some = omega arith; there = omega (arith, low) }; client = client } in
    subst (λ l. IsUndigestedFrom l from) (sym (log_found rs (suc k) c has refl)) (each (suc k) has))

-- ---- what is cut of clients 1 to m leaves the logs of others

module _ (n : ℕ) (cs : List ClientValue) (kept : ℕ → ℕ) (rs : List RegionValue) where
  abbrev cut : ℕ → List RegionValue
  cut m = with_clients_cut n cs kept m rs

  count_then : (m : ℕ) → length (cut m) ≡ length rs
  count_then zero = refl
  count_then (suc m) = grind (arith, count_then m, length-map)

  number_then : (m k : ℕ) → IsNumber (cut m) k → IsNumber rs k
  number_then m k there = record { some = there.some; there = subst (λ j. k ≤ j) (count_then m) there.there }

  logs_then : (m k : ℕ) → length (region_in (cut m) k).logs ≡ length (region_in rs k).logs
  logs_then zero k = refl
  logs_then (suc m) k = grind (arith, logs_then m k, count_seen)

  log_then : (m k d : ℕ) → m < d → log_in (cut m) k d ≡ log_in rs k d
  log_then zero k d past = refl
  log_then (suc m) k d past = grind (arith, log_then m k d (omega (arith, past)), beside_seen)

  has_then : (m k d : ℕ) → m < d → HasLog (cut m) k d → HasLog rs k d
  has_then m k d past has = search (number_then, logs_then, arith) parts 3

  pub undigested_then : (m d from : ℕ) → m < d → ((k : ℕ) → HasLog rs k d → IsUndigestedFrom (log_in rs k d) from) → (k : ℕ) → HasLog (cut m) k d →
      IsUndigestedFrom (log_in (cut m) k d) from
  undigested_then m d from past each k has = grind (arith, has_then m k d past has, log_then m k d past)

  -- the next client of the node, and one of another
  pub next_cut : (last : ℕ) → last ≢ 0 → (client_in cs last).home ≡ n → with_tails_cut (cut (last - 1)) last (kept last) ≡ cut last
  next_cut last some here = grind (arith, eq-eqb, less_one)

  pub next_stays : (last : ℕ) → last ≢ 0 → (client_in cs last).home ≢ n → cut (last - 1) ≡ cut last
  next_stays last some other = grind (arith, ne_eqb, less_one)

-- ---- and so are the clients

module _ (n : ℕ) (kept : ℕ → ℕ) (cs : List ClientValue) where
  abbrev over : ℕ → List ClientValue
  over m = with_clients_failed n kept m cs

  pub number_over : (m d : ℕ) → IsNumber cs d → IsNumber (over m) d
  number_over m d there = record { some = there.some; there = subst (λ j. d ≤ j) (sym (count_over n kept cs m)) there.there }

  client_then : (m d : ℕ) → m < d → d ≤ length cs → client_in (over m) d ≡ client_in cs d
  client_then zero d past few = refl
  client_then (suc m) d past few =
      elim (cases_Bool ((client_in cs (suc m)).home == n)) [
        | inl here ↦
            rw here
            (client_else (over m) (suc m) (failed_at (kept (suc m)) (client_in cs (suc m)))
            (number_over m (suc m) record { some = omega arith; there = omega (arith, past, few) }) d (λ same. absurd (omega (arith, past, same)))
            ∙ client_then m d (omega (arith, past)) few)
        | inr other ↦ rw other (client_then m d (omega (arith, past)) few)
      ]

  pub known_then : (m d : ℕ) → m < d → IsNumber cs d → client_in (over m) d ≡ client_in cs d
  known_then m d past there = client_then m d past there.there

  pub seen_known : (m d : ℕ) → m < d → IsNumber cs d → (client_in (over m) d).home ≡ (client_in cs d).home
  seen_known m d past there = ap (λ x. x.home) (known_then m d past there)

  pub next_fails : (last : ℕ) → IsNumber cs last → (client_in cs last).home ≡ n →
      with_client (over (last - 1)) last (failed_at (kept last) (client_in (over (last - 1)) last)) ≡ over last
  next_fails zero there here = absurd (omega (arith, there.some))
  next_fails (suc m) there here = grind (arith, known_then)

  pub next_lives : (last : ℕ) → last ≢ 0 → (client_in cs last).home ≢ n → over (last - 1) ≡ over last
  next_lives last some other = grind (arith, ne_eqb, less_one)

  -- the home that is found of it
  pub home_found : (last : ℕ) {home : ℕ} {known : ClientValue} {now : List ClientValue} → IsNumber cs last → now ≡ over (last - 1) →
      known ≡ client_in now last → home ≡ known.home → home ≡ (client_in cs last).home
  home_found last there is got found = grind (arith, seen_known)

  pub number_found : (last : ℕ) {now : List ClientValue} → IsNumber cs last → now ≡ over (last - 1) → IsNumber now last
  number_found last there is = subst (λ xs. IsNumber xs last) (sym is) (number_over (last - 1) last there)
