-- What the laws observe of a full node that fails, where another is left.
use Rattle.assise_machine_state.proofs.Common.{◌≡◌, ◌≢◌, ◌⊎◌, ℕ, ◌-◌, ◌<◌, ◌≤◌, min, true, false, not, List, length, take, filter, Some, None, inl, inr, refl}
use Rattle.assise_machine_state.proofs.Common.{ap, sym, subst, ◌∙◌, arith, true≢false, [], nat_cmp, ∥∥₁_elim, props, and-false, cases_Bool, cases_eq, cases_lt}
use Rattle.assise_machine_state.proofs.Common.{ne_eqb, length-take, nil_from_length, take_all, fails, durability-still, values, NumberedCall, below}
use Rattle.assise_machine_state.proofs.Common.{NumberedLog, log_end, is_border, without_tail, border_end, border_first, ReceivedLog, up_to_number, Asked}
use Rattle.assise_machine_state.proofs.Common.{revoke, lives, TwoLevels, failure_fault, lowest_full, full, standing_of, Fails, kept_at_failure, WorldInvariant}
use Rattle.assise_machine_state.proofs.Common.{KeepsLeases, Full, World, call_at, end_of_log, kept_border, kept_high, FailsWithLeases, AreLeases, kept_fail}
use Rattle.assise_machine_state.proofs.Common.{after_failure, ClientValue, client_in, cut_of, failed_at, log_in, region_in, is_full_in, own_seen, world_of}
use Rattle.assise_machine_state.proofs.Common.{IsNumber, AreLeft, IsMarked, ShapeInvariant, StateValue, leases_of, standings}
use Rattle.std.specs.FinSet as set
use Rattle.assise_lease_table.specs.LeaseMaps.{SameLeases as SameLeasesOf}
use Rattle.assise_model_history.specs.Lost.{losses_of}
use Rattle.assise_model_history.proofs.Shared.FailureKeeps.{failure_takes}
use Rattle.assise_machine_state.proofs.Shared.CutSeen.{client_fails, client_stays, count_over, home_number}
use Rattle.assise_machine_state.proofs.Shared.CutSeen.{inodes_left, log_cut_left, log_left, count_left, logs_gone}
use Rattle.assise_machine_state.proofs.Shared.CutSeen.{logs_left}
use Rattle.assise_machine_state.proofs.Shared.Fullness.{full_seen, node_number, same_first, seen_full, no_log_in}
use Rattle.assise_machine_state.proofs.Shared.Kept.{kept_elsewhere, kept_from_first, kept_received, part_first, prefix_kept, all_kept, end_cut}
use Rattle.assise_machine_state.proofs.Shared.Marks.{border_inside, marked_as, marked_tail, so_many_marks, tail_border}
use Rattle.assise_machine_state.proofs.Shared.Noted.{failed_over, left_else, lives_elsewhere, unasked_cut}
use Rattle.assise_machine_state.proofs.Shared.ShapeKept.{AreMarked, KnowsHome, limit_seen, limits_all}
use Rattle.assise_machine_state.proofs.Shared.Standings.{else_then, full_as, gone_then, lowest_is_full, survivor_left, count_then}
use Rattle.assise_machine_state.proofs.SameObserved.{leases_revoked}

-- the cut of a client whose node failed
cut_once_failed : (asked : List Asked) (c k : ℕ) (x : ClientValue) (i : ℕ) → cut_of asked c (failed_at k x) i ≡ k
cut_once_failed asked c k x i = rw (failed_over k x) refl

-- a log that ends before a place is all that there is up to it
up_to_all : (l : ReceivedLog) (k : ℕ) → length l.log.begins ≡ length l.log.records → log_end l.log ≤ k → up_to_number l k ≡ l
up_to_all l k marks past = grind (arith, take_all)

-- ---- what is seen of nodes and clients

pub failure_areas : (s : StateValue) (n k i : ℕ) (inodes : set.FinSet nat_cmp) (levels : TwoLevels) (asked : List Asked) →
    (world_of (after_failure s n inodes levels asked)).area k i ≡ (world_of s).area k i
unfolding world_of
failure_areas s n k i inodes levels asked = ap (λ m. values m i) (inodes_left s.nodes n s.clients (kept_at_failure (world_of s) n) k)

module _ (s : StateValue) (n : ℕ) (inodes : set.FinSet nat_cmp) (levels : TwoLevels) (asked : List Asked) (shape : ShapeInvariant s)
    (stands : standing_of (standings s) n ≡ Some full) where
  abbrev w : World
  w = world_of s

  abbrev t : StateValue
  t = after_failure s n inodes levels asked

  abbrev w' : World
  w' = world_of t

  abbrev kept : ℕ → ℕ
  kept = kept_at_failure w n

  failed_there : IsNumber s.nodes n
  failed_there = node_number s n full shape stands

  gone : is_full_in (standings t) n ≡ false
  gone = gone_then s.members n inodes stands

  else_stands : (k : ℕ) → k ≢ n → is_full_in (standings t) k ≡ is_full_in (standings s) k
  else_stands k other = else_then s.members n inodes stands k other

  not_failed : (k : ℕ) → is_full_in (standings t) k ≡ true → k ≢ n
  not_failed k f same = true≢false (sym f ∙ ap (is_full_in (standings t)) same ∙ gone)

  was_full : (k : ℕ) → is_full_in (standings t) k ≡ true → Full w k
  was_full k f = seen_full s k (sym (else_stands k (not_failed k f)) ∙ f)

  -- clients
  client_same : (c : ℕ) → (client_in s.clients c).home ≢ n → client_in t.clients c ≡ client_in s.clients c
  client_same c other = client_stays n kept s.clients (length s.clients) c (omega arith) other

  client_over : (c : ℕ) → (client_in s.clients c).home ≡ n → client_in t.clients c ≡ failed_at (kept c) (client_in s.clients c)
  client_over c here = grind (arith, home_number, failed_there, client_fails)

  client_keeps : {A : Type 0} (f : ClientValue → A) → ((k : ℕ) (x : ClientValue) → f (failed_at k x) ≡ f x) → (c : ℕ) →
      f (client_in t.clients c) ≡ f (client_in s.clients c)
  client_keeps f same c = grind (arith, cases_eq, client_over, client_same)

  -- logs of the nodes that are left
  log_there : (m c : ℕ) → m ≢ n → (client_in s.clients c).home ≡ n → log_in t.nodes m c ≡ up_to_number (log_in s.nodes m c) (kept c)
  log_there m c differs here = log_cut_left s.nodes n s.clients kept m c failed_there differs here

  log_same : (m c : ℕ) → m ≢ n → (client_in s.clients c).home ≢ n → log_in t.nodes m c ≡ log_in s.nodes m c
  log_same m c differs other = log_left s.nodes n s.clients kept m c failed_there differs other

  -- ---- parts of its shape

  clients_left : length t.clients ≡ length s.clients
  clients_left = count_over n kept s.clients (length s.clients)

  emptied : (region_in t.nodes n).logs ≡ []
  emptied = nil_from_length (region_in t.nodes n).logs (logs_gone s.nodes n s.clients kept failed_there)

  left_logs : (k : ℕ) → is_full_in (standings t) k ≡ true → length (region_in t.nodes k).logs ≡ length t.clients
  left_logs k f = grind (arith, not_failed, logs_left, failed_there, else_stands, clients_left)

  left_none : (k : ℕ) → is_full_in (standings t) k ≡ false → (region_in t.nodes k).logs ≡ []
  left_none k away = grind (arith, cases_eq, emptied, nil_from_length, logs_left, failed_there, else_stands)

  -- no client lives at the node, and the others live where they did
  gone_home : (c : ℕ) → KnowsHome t n c
  gone_home c = grind (arith, no_log_in, emptied, cases_eq, client_over, and-false, client_same, ne_eqb)

  left_home : (k c : ℕ) → k ≢ n → KnowsHome t k c
  left_home k c differs = grind (arith, cases_eq, ne_eqb, log_there, client_over, log_same, client_same)

  -- what a cut leaves of a log stays
  log_keeps : {A : Type 0} (f : ReceivedLog → A) → ((l : ReceivedLog) (k : ℕ) → f (up_to_number l k) ≡ f l) → (m c : ℕ) → m ≢ n →
      f (log_in t.nodes m c) ≡ f (log_in s.nodes m c)
  log_keeps f same m c differs = grind (arith, cases_eq, log_there, log_same)

  left_limit : (k c : ℕ) → is_full_in (standings t) k ≡ true → IsNumber t.clients c → (log_in t.nodes k c).log.limit ≡ s.limit
  left_limit k c f client =
      let other : k ≢ n = not_failed k f in
      log_keeps (λ l. l.log.limit) (λ l j. refl) k c other
      ∙ limit_seen s k c shape (sym (else_stands k other) ∙ f) record { some = client.some; there = subst (λ m. c ≤ m) clients_left client.there }

  -- ---- what the laws observe

  module _ (sound : WorldInvariant w) where
    -- where a client's node stays, all of its logs is kept
    cut_log : (m c : ℕ) → is_full_in (standings t) m ≡ true → log_in t.nodes m c ≡ up_to_number (log_in s.nodes m c) (kept c)
    unfolding world_of
    cut_log m c f = grind (arith, cases_eq, log_there, not_failed, kept_elsewhere, was_full, so_many_marks, log_same, up_to_all)

    cut_records : (m c : ℕ) → is_full_in (standings t) m ≡ true → w'.log m c ≡ take (kept c - w.first c) (w.log m c)
    unfolding world_of
    cut_records m c f = grind (arith, cut_log, same_first, was_full)

    cut_first : (m c : ℕ) → is_full_in (standings t) m ≡ true → (log_in t.nodes m c).log.first ≡ w.first c
    cut_first m c f = log_keeps (λ l. l.log.first) (λ l k. refl) m c (not_failed m f) ∙ same_first s m c sound (was_full m f)

    cut_received : (m c : ℕ) → is_full_in (standings t) m ≡ true → w'.received m c ≡ min (w.received m c) (kept c)
    unfolding world_of
    cut_received m c f = grind (arith, same_first, was_full, kept_from_first, cut_log, end_cut)

    -- clients
    goals : (c : ℕ) → w'.goal c ≡ min (w.goal c) (kept c)
    unfolding world_of
    goals c = grind (arith, cases_eq, client_over, kept_elsewhere, client_same)

    lives_there : (c : ℕ) → w.home c ≡ n → w'.lives c ≡ false
    unfolding world_of
    lives_there c here = ap (λ x. not x.failed) (client_over c here)

    lives_else : (c : ℕ) → w.home c ≢ n → w'.lives c ≡ w.lives c
    unfolding world_of
    lives_else c other = ap (λ x. not x.failed) (client_same c other)

    -- the own log of a client whose node failed, or failed before
    module _ (fine : failure_fault s.members n ≡ None) where
      abbrev low : ℕ
      low = lowest_full (standings t)

      low_stands : is_full_in (standings t) low ≡ true
      low_stands =
          let k : (m : ℕ) × ((m ≢ n) × (is_full_in (standings s) m ≡ true)) = survivor_left s.members n stands fine in
          lowest_is_full (standings t) k.0 (else_stands k.0 k.1.0 ∙ k.1.1)

      has_ended : (c : ℕ) → (client_in t.clients c).failed ≡ true → (w.lives c ≡ false) ⊎ (w.home c ≡ n)
      unfolding world_of
      has_ended c over = grind (arith, cases_eq, client_same)

      own_once_over : (c : ℕ) → (client_in t.clients c).failed ≡ true → own_seen t c ≡ log_in t.nodes low c
      unfolding own_seen
      own_once_over c over = rw over refl

      low_records : (c : ℕ) → (client_in t.clients c).failed ≡ true → w'.log low c ≡ take (kept c - w.first c) (w.records c)
      low_records c over = grind (arith, cut_records, low_stands, prefix_kept, was_full, kept_received, not_failed, has_ended)

      -- and of one that lives on
      home_differs : (c : ℕ) → (client_in t.clients c).failed ≡ false → (client_in s.clients c).home ≢ n
      home_differs c unfailed here = true≢false (ap (λ x. x.failed) (sym (client_over c here)) ∙ unfailed)

      own_while_lives : (c : ℕ) → (client_in t.clients c).failed ≡ false → own_seen t c ≡ own_seen s c
      unfolding own_seen
      own_while_lives c unfailed = grind (arith, home_differs, client_same, log_same)

      own_records : (c : ℕ) → w'.records c ≡ take (kept c - w.first c) (w.records c)
      unfolding world_of
      own_records c =
          elim (cases_Bool (client_in t.clients c).failed) [
            | inl over ↦ ap (λ l. l.log.records) (own_once_over c over) ∙ low_records c over
            | inr unfailed ↦ ap (λ l. l.log.records) (own_while_lives c unfailed) ∙ sym (all_kept w n c (kept_elsewhere w n c (home_differs c unfailed)))
          ]

      own_first : (c : ℕ) → w'.first c ≡ w.first c
      unfolding world_of
      own_first c = grind (arith, cases_Bool, own_once_over, cut_first, low_stands, own_while_lives)

      own_end : (c : ℕ) → end_of_log w' c ≡ kept c
      unfolding end_of_log
      own_end c = grind (arith, kept_from_first, kept_high, own_records, length-take, own_first)

      -- ---- groups

      abbrev own : ℕ → NumberedLog
      own c = (own_seen s c).log

      abbrev lowest : ℕ → NumberedLog
      lowest c = (log_in s.nodes low c).log

      lowest_first : (c : ℕ) → (lowest c).first ≡ (own c).first
      unfolding world_of
      lowest_first c = same_first s low c sound (was_full low low_stands)

      -- below what is kept the borders of the lowest node's log are those of the own one
      lowest_border : (c k : ℕ) → (client_in t.clients c).failed ≡ true → k < kept c → is_border (lowest c) k ≡ is_border (own c) k
      unfolding world_of
      lowest_border c k over below =
          elim (cases_lt (lowest c).first k) [
            | inl inside ↦
                let there : kept c ≤ w.received low c = kept_received w n low c sound (was_full low low_stands) (not_failed low low_stands) (has_ended c over)
                in
                border_inside (is_border (own c)) (lowest c) k (shape.marked low c) inside (omega (arith, below, there))
            | inr before ↦ border_first (lowest c) k before ∙ sym (border_first (own c) k (omega (arith, before, lowest_first c)))
          ]

      -- and so are those of the own log then
      cut_border : (c k : ℕ) → (client_in t.clients c).failed ≡ true → k ≤ kept c → is_border (own_seen t c).log k ≡ is_border (own c) k
      unfolding world_of
      cut_border c k over high =
          let cut : NumberedLog = without_tail (lowest c) (kept c) in
          ap (λ l. is_border l.log k) (own_once_over c over ∙ cut_log low c low_stands)
          ∙ elim (cases_eq k (kept c)) [
            | inl last ↦
                let from : (lowest c).first ≤ kept c = omega (arith, kept_from_first w n c sound, lowest_first c) in
                let ends : log_end cut ≤ k = omega (arith, end_cut (lowest c) (kept c) from, last) in
                border_end cut k (so_many_marks (is_border (own c)) cut (marked_tail (is_border (own c)) (lowest c) (kept c) (shape.marked low c))) ends
                ∙ sym (ap (is_border (own c)) last ∙ kept_border w n c sound.coherent)
            | inr before ↦
                let below : k < kept c = omega (arith, high, before) in
                tail_border (lowest c) (kept c) k below ∙ lowest_border c k over below
          ]

      own_border : (c k : ℕ) → k ≤ kept c → is_border (own_seen t c).log k ≡ is_border (own c) k
      own_border c k high = grind (arith, cases_Bool, cut_border, own_while_lives)

      -- a log that is cut has the groups that are left
      marked_cut : (k c : ℕ) → is_full_in (standings t) k ≡ true → IsMarked (is_border (own_seen t c).log) (log_in t.nodes k c).log
      marked_cut k c f =
          let l : NumberedLog = (log_in s.nodes k c).log in
          subst (λ x. IsMarked (is_border (own_seen t c).log) x.log) (sym (cut_log k c f))
          (marked_as (is_border (own c)) (is_border (own_seen t c).log) (without_tail l (kept c))
          (λ j low high. sym (own_border c j (omega (arith, low, high, length-take (kept c - l.first) l.records))))
          (marked_tail (is_border (own c)) l (kept c) (shape.marked k c)))

      left_marked : (k c : ℕ) → IsMarked (is_border (own_seen t c).log) (log_in t.nodes k c).log
      left_marked k c = grind (arith, cases_Bool, marked_cut, no_log_in, left_none)

      -- ---- the failure

      survivor : (m : ℕ) × ((m ≢ n) × Full w m)
      survivor = (let k : (m : ℕ) × ((m ≢ n) × (is_full_in (standings s) m ≡ true)) = survivor_left s.members n stands fine in
          (k.0, (k.1.0, seen_full s k.0 k.1.1)))

      module _ (revoked : (i : ℕ) → levels.clients i ≡ revoke (λ a. lives s.levels.home a.holder n) (s.levels.clients i)) where
        held : KeepsLeases w w'
        held = leases_revoked s t (λ a. lives s.levels.home a.holder n) revoked

        -- where the calls are those that are kept
        with_calls : (xs : List NumberedCall) → xs ≡ filter (below (λ c. call_at w c (kept c))) w.calls → Fails w n (record w' { calls = xs })
        unfolding world_of
        with_calls xs same = record {
          full_node = seen_full s n (full_as (standings s) n full stands);
          survivor = survivor;
          gone = λ f. true≢false (sym (full_seen t n f) ∙ gone);
          only = λ m f. was_full m (full_seen t m f);
          others = λ m f other. seen_full t m (else_stands m other ∙ full_seen s m f);
          calls = same;
          records = λ c. own_records c ∙ sym (part_first w c (kept c));
          first = own_first;
          border = own_border;
          next = client_keeps (λ x. x.next) (λ k x. refl);
          made = client_keeps (λ x. x.made) (λ k x. refl);
          goals = goals;
          clients = count_over n kept s.clients (length s.clients);
          home = client_keeps (λ x. x.home) (λ k x. refl);
          lives_there = lives_there;
          lives_else = lives_else;
          crashed = client_keeps (λ x. x.crashed) (λ k x. refl);
          leases = record { holds = held.holds; writes = held.writes };
          log = λ m c f. cut_records m c (full_seen t m f);
          received = λ m c f. cut_received m c (full_seen t m f);
          digested = λ m c f. log_keeps (λ l. l.digested) (λ l k. refl) m c (not_failed m (full_seen t m f));
          area = λ m i f. failure_areas s n m i inodes levels asked;
        }

        -- and they are: a failure in the history takes those that are listed
        calls_kept : w'.calls ≡ filter (below (λ c. call_at w c (kept c))) w.calls
        unfolding world_of
        calls_kept =
            kept_fail s.history n (losses_of w n)
            ∙ sym (failure_takes w (record w' { calls = filter (below (λ c. call_at w c (kept c))) w.calls }) n sound
            (with_calls (filter (below (λ c. call_at w c (kept c))) w.calls) refl))

        pub failure_seen : ((c : ℕ) → levels.home c ≡ s.levels.home c) → SameLeasesOf s.levels.nodes levels.nodes →
            AreLeft s (λ c. lives s.levels.home c n) asked → AreLeases w (leases_of s) →
            FailsWithLeases w (leases_of s) n w' (leases_of t)
        unfolding world_of leases_of
        failure_seen homes nodes left leases = record {
          fails = with_calls w'.calls calls_kept;
          home = homes;
          clients = revoked;
          nodes = nodes;
          cut_here =
              λ c i here. ap (λ x. cut_of t.cuts c x i) (client_over c here) ∙ cut_once_failed t.cuts c (kept c) (client_in s.clients c) i ∙ sym (own_end c);
          cut_else = λ c i other.
              ap (λ x. cut_of t.cuts c x i) (client_same c other)
              ∙ unasked_cut s.cuts asked c (client_in s.clients c) i
              (left_else s (λ d. lives s.levels.home d n) asked left c i (lives_elsewhere s n c leases other));
        }

  -- ---- its shape is one

  pub failure_shaped : ∥ WorldInvariant w ∥₁ → failure_fault s.members n ≡ None → ShapeInvariant t
  failure_shaped sound fine =
      let all = limits_all t left_logs left_none left_limit in
      let durability = client_keeps (λ x. x.durability) (λ k x. refl) in
      let marked : AreMarked t = λ k c. ∥∥₁_elim sound (search props) (λ h. left_marked h fine k c) in
      grind (arith, count_left, count_then, cases_eq, left_logs, left_none, gone_home, left_home, durability-still)
