-- What is seen of nodes and clients once a node's logs are gone, and those of its clients are cut.
use Rattle.assise_machine_state.proofs.Common.{◌≡◌, ◌≢◌, ℕ, zero, suc, ◌-◌, ◌<◌, ◌≤◌, true, false, ◌==◌, List, [], length, inl, inr, refl, ap, sym, subst, ◌∙◌}
use Rattle.assise_machine_state.proofs.Common.{arith, eq-eqb, cases_eq, cond_both, eqb-true, length-map, take_all, ReceivedLog, RegionValue, no_log}
use Rattle.assise_machine_state.proofs.Common.{up_to_number, with_clients_cut, with_clients_failed, ClientValue, client_in, failed_at, with_client, log_in}
use Rattle.assise_machine_state.proofs.Common.{region_in, with_tails_cut, without_logs, IsNumber}
use Rattle.assise_machine_state.proofs.Shared.LogChanges.{beside_seen, count_seen, inodes_seen, log_away}
use Rattle.assise_machine_state.proofs.Shared.LogChanges.{own_changes_all, region_else, region_here, region_kept}
use Rattle.assise_machine_state.proofs.Shared.ItemSeen.{client_else, client_here, length-with, seen_number}

-- ---- clients whose node failed

-- the nobody of no number has no home
pub home_number : (cs : List ClientValue) (c : ℕ) → 0 < (client_in cs c).home → IsNumber cs c
unfolding client_in
home_number cs c some = grind (arith, seen_number)

module _ (n : ℕ) (kept : ℕ → ℕ) (cs : List ClientValue) where
  abbrev over : ℕ → List ClientValue
  over m = with_clients_failed n kept m cs

  -- and the next one too
  abbrev one_over : ℕ → List ClientValue
  one_over m = with_client (over m) (suc m) (failed_at (kept (suc m)) (client_in cs (suc m)))

  pub count_over : (m : ℕ) → length (over m) ≡ length cs
  count_over zero = refl
  count_over (suc m) =
      cond_both ((client_in cs (suc m)).home == n) (one_over m) (over m) (λ xs. length xs ≡ length cs)
      (λ _. length-with (over m) (suc m) (failed_at (kept (suc m)) (client_in cs (suc m))) ∙ count_over m) (λ _. count_over m)

  number_over : (m : ℕ) → suc m ≤ length cs → IsNumber (over m) (suc m)
  number_over m few = record { some = omega arith; there = subst (λ k. suc m ≤ k) (sym (count_over m)) few }

  -- one of another node stays
  pub client_stays : (m c : ℕ) → m ≤ length cs → (client_in cs c).home ≢ n → client_in (over m) c ≡ client_in cs c
  client_stays zero c few other = refl
  client_stays (suc m) c few other =
      let rest : client_in (over m) c ≡ client_in cs c = client_stays m c (omega (arith, few)) other in
      let differs : ((client_in cs (suc m)).home == n) ≡ true → c ≢ suc m =
      λ here same. other (ap (λ d. (client_in cs d).home) same ∙ eqb-true (client_in cs (suc m)).home n here) in
      cond_both ((client_in cs (suc m)).home == n) (one_over m) (over m) (λ xs. client_in xs c ≡ client_in cs c)
      (λ here. client_else (over m) (suc m) (failed_at (kept (suc m)) (client_in cs (suc m))) (number_over m few) c (differs here) ∙ rest) (λ _. rest)

  failed_last : (m : ℕ) → suc m ≤ length cs → (client_in cs (suc m)).home ≡ n →
      client_in (over (suc m)) (suc m) ≡ failed_at (kept (suc m)) (client_in cs (suc m))
  failed_last m few here =
      rw (eq-eqb (client_in cs (suc m)).home n here) (client_here (over m) (suc m) (failed_at (kept (suc m)) (client_in cs (suc m))) (number_over m few))

  -- one of this node is over
  pub client_fails : (m c : ℕ) → m ≤ length cs → 0 < c → c ≤ m → (client_in cs c).home ≡ n → client_in (over m) c ≡ failed_at (kept c) (client_in cs c)
  client_fails zero c few some low here = absurd (omega (arith, some, low))
  client_fails (suc m) c few some low here =
      elim (cases_eq c (suc m)) [
        | inl last ↦
            subst (λ d. client_in (over (suc m)) d ≡ failed_at (kept d) (client_in cs d)) (sym last)
            (failed_last m few (subst (λ d. (client_in cs d).home ≡ n) last here))
        | inr differs ↦
            let rest : client_in (over m) c ≡ failed_at (kept c) (client_in cs c) =
            client_fails m c (omega (arith, few)) some (omega (arith, low, differs)) here in
            cond_both ((client_in cs (suc m)).home == n) (one_over m) (over m) (λ xs. client_in xs c ≡ failed_at (kept c) (client_in cs c))
            (λ _. client_else (over m) (suc m) (failed_at (kept (suc m)) (client_in cs (suc m))) (number_over m few) c differs ∙ rest) (λ _. rest)
      ]

-- ---- one client's logs that are cut at all nodes

cut_none : (from : ℕ) → up_to_number no_log from ≡ no_log
cut_none from = grind (arith, take_all)

abbrev cut_to : ℕ → ReceivedLog → ReceivedLog
cut_to from l = up_to_number l from

-- ---- the logs of a node's clients

module _ (n : ℕ) (cs : List ClientValue) (kept : ℕ → ℕ) (rs : List RegionValue) where
  abbrev cut : ℕ → List RegionValue
  cut m = with_clients_cut n cs kept m rs

  -- where one more is cut if its node is this one
  one_more : (m : ℕ) (P : List RegionValue → Type 0) → (((client_in cs (suc m)).home == n) ≡ true → P (with_tails_cut (cut m) (suc m) (kept (suc m)))) →
      (((client_in cs (suc m)).home == n) ≡ false → P (cut m)) → P (cut (suc m))
  one_more m P here away = cond_both ((client_in cs (suc m)).home == n) (with_tails_cut (cut m) (suc m) (kept (suc m))) (cut m) P here away

  count_cut : (m : ℕ) → length (cut m) ≡ length rs
  count_cut zero = refl
  count_cut (suc m) = grind (arith, one_more, length-map, (count_cut m))

  -- what each cut leaves of a node they all leave
  all_cut : {A : Type 0} (f : RegionValue → A) →
      ((c from : ℕ) (xs : List RegionValue) (k : ℕ) → f (region_in (with_tails_cut xs c from) k) ≡ f (region_in xs k)) →
      (m k : ℕ) → f (region_in (cut m) k) ≡ f (region_in rs k)
  all_cut f one zero k = refl
  all_cut f one (suc m) k = grind (arith, one_more, (all_cut f one m k))

  inodes_cut : (m k : ℕ) → (region_in (cut m) k).inodes ≡ (region_in rs k).inodes
  inodes_cut = all_cut (λ r. r.inodes) (λ c from xs k. inodes_seen c (cut_to from) xs k)

  logs_cut : (m k : ℕ) → length (region_in (cut m) k).logs ≡ length (region_in rs k).logs
  logs_cut = all_cut (λ r. length r.logs) (λ c from xs k. count_seen c (cut_to from) xs k)

  -- a log stays of which no client up to here has the number
  stays_below : (m k d : ℕ) → ((c : ℕ) → c ≤ m → (client_in cs c).home ≡ n → d ≢ c) → log_in (cut m) k d ≡ log_in rs k d
  stays_below zero k d other = refl
  stays_below (suc m) k d other = grind (arith, eqb-true, one_more, beside_seen, (stays_below m k d))

  -- that of a client of another node stays
  log_stays : (m k d : ℕ) → (client_in cs d).home ≢ n → log_in (cut m) k d ≡ log_in rs k d
  log_stays m k d other = stays_below m k d (λ c low here same. other (ap (λ e. (client_in cs e).home) same ∙ here))

  cut_last : (m k : ℕ) → (client_in cs (suc m)).home ≡ n → log_in (cut (suc m)) k (suc m) ≡ up_to_number (log_in rs k (suc m)) (kept (suc m))
  cut_last m k here = grind (arith, eq-eqb, own_changes_all, cut_none, stays_below)

  -- that of a client of this node is cut
  log_is_cut : (m k d : ℕ) → 0 < d → d ≤ m → (client_in cs d).home ≡ n → log_in (cut m) k d ≡ up_to_number (log_in rs k d) (kept d)
  log_is_cut zero k d some low here = absurd (omega (arith, some, low))
  log_is_cut (suc m) k d some low here = grind (arith, cases_eq, cut_last, one_more, beside_seen, (log_is_cut m k d some))

-- ---- a node fails: its logs are gone, and its clients' logs are cut elsewhere

module _ (rs : List RegionValue) (n : ℕ) (cs : List ClientValue) (kept : ℕ → ℕ) where
  abbrev emptied : RegionValue
  emptied = record (region_in rs n) { logs = [] }

  abbrev left : List RegionValue
  left = with_clients_cut n cs kept (length cs) (without_logs rs n)

  pub count_left : length left ≡ length rs
  count_left = count_cut n cs kept (without_logs rs n) (length cs) ∙ length-with rs n emptied

  pub inodes_left : (k : ℕ) → (region_in left k).inodes ≡ (region_in rs k).inodes
  inodes_left k = inodes_cut n cs kept (without_logs rs n) (length cs) k ∙ region_kept rs n emptied (λ r. r.inodes) refl k

  pub logs_left : (k : ℕ) → IsNumber rs n → k ≢ n → length (region_in left k).logs ≡ length (region_in rs k).logs
  logs_left k there other = logs_cut n cs kept (without_logs rs n) (length cs) k ∙ ap (λ r. length r.logs) (region_else rs n emptied there k other)

  pub logs_gone : IsNumber rs n → length (region_in left n).logs ≡ 0
  logs_gone there = logs_cut n cs kept (without_logs rs n) (length cs) n ∙ ap (λ r. length r.logs) (region_here rs n emptied there)

  pub log_left : (k c : ℕ) → IsNumber rs n → k ≢ n → (client_in cs c).home ≢ n → log_in left k c ≡ log_in rs k c
  log_left k c there differs other = log_stays n cs kept (without_logs rs n) (length cs) k c other ∙ log_away rs n emptied there k c differs

  pub log_cut_left : (k c : ℕ) → IsNumber rs n → k ≢ n → (client_in cs c).home ≡ n → log_in left k c ≡ up_to_number (log_in rs k c) (kept c)
  log_cut_left k c there differs here = grind (arith, home_number, log_is_cut, log_away)
