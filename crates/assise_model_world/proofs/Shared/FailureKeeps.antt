-- A failure of a node takes only records that some full node lacks.
use Rattle.assise_model_world.proofs.Common.{◌≡◌, ℕ, zero, suc, ◌-◌, ◌<◌, ◌≤◌, ◌≢◌, inl, inr, min, Bool, true, false, not, List, [], ◌∷◌, if◌then◌else◌, refl}
use Rattle.assise_model_world.proofs.Common.{ap, sym, ◌∙◌, subst, ◌&&◌, ◌||◌, ◌==◌, arith, take, length-take, filter, and_from, and_right, both_ways}
use Rattle.assise_model_world.proofs.Common.{cases_Bool, cases_eq, cases_lt, eq-eqb, eqb-true, ne_eqb, or_cases, or_left, or_right, nat_tests, opening_tree}
use Rattle.assise_model_world.proofs.Common.{AreAnswered, tree_after_calls, LogRecord, all_effects, call_of, value_after, touched, contains, late_value, Spells}
use Rattle.assise_model_world.proofs.Common.{NumberedCall, trace, values_after_calls, AllMakeNew, exchanges, ops, Each, NumbersAscend, below, window, Unseen}
use Rattle.assise_model_world.proofs.Common.{kept_at_failure, Fails, NoneFalls, StayReplicated, StandFor, Stands, Counted, Numbered, Guarded, IsOrdered, Areas}
use Rattle.assise_model_world.proofs.Common.{CallsInvariant, WorldInvariant, World, Full, opening_values, end_of_log, digested_by_all, received_by_all}
use Rattle.assise_model_world.proofs.Common.{records_between, call_at, first_undigested_at, first_undigested, first_unreplicated, steps, now, tree, value_below}
use Rattle.assise_model_world.proofs.Common.{calls_replicated, each-map, each-always}
use Rattle.assise_model_world.proofs.Lists.{each-filter, each-filter_if, pairs-filter, unseen-raise, value-cong, value-filter}
use Rattle.assise_model_world.proofs.Shared.Logs.{ascending-take, take-of_take, contains-take, at-take, at-take_past, inside, at_cut, nothing}
use Rattle.assise_model_world.proofs.Shared.WorldObserved.{least_of-below, least_of-above, least_of-end}
use Rattle.assise_model_world.proofs.Shared.WorldObserved.{least_of-is, call_at-mono, next-top, digested_by_all-first}
use Rattle.assise_model_world.proofs.Shared.WorldObserved.{received_by_all-below, received_by_all-end, first-received_by_all, IsCounted, area_at}
use Rattle.assise_model_world.proofs.Between.{digested_by_all-received_by_all}
use Rattle.assise_model_world.proofs.Shared.QuietSteps.{made_by_more, compatible-same, held-same}
use Rattle.assise_model_world.proofs.Shared.RegionAlone.{tails_at, spelled_at, answered_at, new_at}
use Rattle.assise_model_world.proofs.InodeNumbers.{there_was_made}

-- ---- the other full nodes

abbrev survivors : World → ℕ → List ℕ
survivors w n = filter (λ m. not (m == n)) w.full

pub contains-filter : (p : ℕ → Bool) (ns : List ℕ) (m : ℕ) → contains (filter p ns) m ≡ true → contains ns m ≡ true
contains-filter p [] m h = h
contains-filter p (k ∷ ns) m h =
    (elim (p k) as (λ b. contains (if b then k ∷ filter p ns else filter p ns) m ≡ true → ((k == m) || contains ns m) ≡ true) [
      | true ↦ λ h. elim (or_cases (k == m) (contains (filter p ns) m) h) [
        | inl here ↦ or_left (k == m) (contains ns m) here
        | inr later ↦ or_right (k == m) (contains ns m) (contains-filter p ns m later)
      ]
      | false ↦ λ h. or_right (k == m) (contains ns m) (contains-filter p ns m h)
    ]) h

pub filter-contains : (p : ℕ → Bool) (ns : List ℕ) (m : ℕ) → p m ≡ true → contains ns m ≡ true → contains (filter p ns) m ≡ true
filter-contains p [] m t h = h
filter-contains p (k ∷ ns) m t h =
    elim (cases_Bool (k == m)) [
      | inl is ↦ (let passes : p k ≡ true = subst (λ j. p j ≡ true) (sym (eqb-true k m is)) t in rw passes (or_left (k == m) (contains (filter p ns) m) is))
      | inr other ↦
          grind (arith, filter-contains p ns m t (rw other at h))
    ]

is_survivor : (w : World) (n m : ℕ) → Full w m → m ≢ n → contains (survivors w n) m ≡ true
is_survivor w n m h other = filter-contains (λ m. not (m == n)) w.full m (ap not (ne_eqb m n other)) h

was_full : (w : World) (n m : ℕ) → contains (survivors w n) m ≡ true → Full w m
was_full w n m h = contains-filter (λ m. not (m == n)) w.full m h

-- ---- places up to which logs are kept

either : (P : ℕ → Type 0) (b : Bool) (x y : ℕ) → P x → P y → P (if b then x else y)
either P true x y p q = p
either P false x y p q = q

-- what all full nodes have is kept
pub kept_low : (w : World) (n c : ℕ) → received_by_all w c ≤ kept_at_failure w n c
unfolding kept_at_failure
kept_low w n c = grind (arith, either, least_of-above, received_by_all-end, received_by_all-below, was_full)

pub kept_high : (w : World) (n c : ℕ) → kept_at_failure w n c ≤ end_of_log w c
unfolding kept_at_failure
kept_high w n c = either (λ k. k ≤ end_of_log w c) (w.lives c && (w.home c == n)) _ _ (least_of-end (survivors w n) _ (end_of_log w c)) (omega arith)

pub kept_border : (w : World) (n c : ℕ) → CallsInvariant w → w.border c (kept_at_failure w n c) ≡ true
unfolding kept_at_failure
kept_border w n c s =
    either (λ k. w.border c k ≡ true) (w.lives c && (w.home c == n)) _ _
    (least_of-is (λ k. w.border c k ≡ true) (survivors w n) _ (end_of_log w c) (s.end_border c) (λ m h. (s.order m c (was_full w n m h)).received_border))
    (s.end_border c)

-- of a client that lives elsewhere all is kept
kept_elsewhere : (w : World) (n c : ℕ) → w.home c ≢ n → kept_at_failure w n c ≡ end_of_log w c
unfolding kept_at_failure
kept_elsewhere w n c other = rw (and_right (w.lives c) (w.home c == n) (ne_eqb (w.home c) n other)) refl

-- of one that lives there, no more than each other full node has
kept_there : (w : World) (n m c : ℕ) → w.lives c ≡ true → w.home c ≡ n → contains (survivors w n) m ≡ true → kept_at_failure w n c ≤ w.received m c
unfolding kept_at_failure
kept_there w n m c lives here h = grind (arith, and_from, eq-eqb, least_of-below)

-- ---- the calls and the logs after a failure

min_below : (a b d : ℕ → ℕ) (x : NumberedCall) → ((c : ℕ) → min (a c) (b c) ≡ d c) → (below a x && below b x) ≡ below d x
min_below a b d x h = grind (arith, nat_tests)

part_first : (w : World) (c k : ℕ) → records_between w c (w.first c) k ≡ take (k - w.first c) (w.records c)
unfolding records_between
part_first w c k = (let z : w.first c - w.first c ≡ 0 = omega arith in rw z)

module _ (w w' : World) (n : ℕ) (s : CallsInvariant w) (f : Fails w n w') where
  -- the place up to which a client's log is kept, and the first call from there on
  abbrev cut : ℕ → ℕ
  cut c = kept_at_failure w n c

  abbrev lost : ℕ → ℕ
  lost c = call_at w c (cut c)

  above-first : (c : ℕ) → w.first c ≤ cut c
  above-first c = omega (arith, first-received_by_all w s c, kept_low w n c)

  cut-records : (c : ℕ) → w'.records c ≡ take (cut c - w.first c) (w.records c)
  cut-records c = f.records c ∙ part_first w c (cut c)

  end-cut : (c : ℕ) → end_of_log w' c ≡ cut c
  unfolding end_of_log
  end-cut c = grind (arith, kept_high, length-take, cut-records, above-first)

  call_at-as : (c k : ℕ) → call_at w' c k ≡ call_of (take (cut c - w.first c) (w.records c)) (k - w.first c) (w.next c)
  unfolding call_at
  call_at-as c k = rw (f.first c, f.next c, cut-records c)

  call_at-kept : (c k : ℕ) → w.first c ≤ k → k < cut c → call_at w' c k ≡ call_at w c k
  unfolding call_at
  call_at-kept c k low high = call_at-as c k ∙ at-take (w.records c) (cut c - w.first c) (k - w.first c) (w.next c) (omega (arith, low, high))

  call_at-lost : (c k : ℕ) → cut c ≤ k → call_at w' c k ≡ w.next c
  call_at-lost c k high = call_at-as c k ∙ at-take_past (w.records c) (cut c - w.first c) (k - w.first c) (w.next c) (omega (arith, high))

  -- call numbers of places don't fall
  call_at-ascends : (c k : ℕ) → w.first c ≤ k → call_at w c k ≤ call_at w' c k
  call_at-ascends c k low = grind (arith, cases_lt, call_at-kept, call_at-lost, next-top)

  -- no call goes that all full nodes have digested
  reach : (c : ℕ) → first_undigested w c ≤ lost c
  unfolding first_undigested
  reach c = call_at-mono w c (digested_by_all w c) (cut c) s (omega (arith, digested_by_all-received_by_all w s c, kept_low w n c))

  steps-fail : steps w' ≡ filter (λ x. below lost x.0) (steps w)
  unfolding steps
  steps-fail = ap (trace opening_values) f.calls ∙ tails_at w lost s reach

  counted-fail : Counted w'
  unfolding Counted
  counted-fail = grind (arith, IsCounted, each-filter, each-map)

  numbered-fail : Numbered w'
  unfolding Numbered
  numbered-fail = grind (arith, steps-fail, each-filter, each-map, made_by_more)

  spelled-fail : Spells (now w') (tree w')
  unfolding now tree
  spelled-fail = subst (λ xs. Spells (values_after_calls opening_values xs) (tree_after_calls opening_tree (ops xs))) (sym f.calls) (spelled_at w lost s reach)

  part-cut : (c j k : ℕ) → w.first c ≤ j → j ≤ k → k ≤ cut c → records_between w' c j k ≡ records_between w c j k
  unfolding records_between
  part-cut c j k low le high = grind (arith, take-of_take)

  -- the kept calls between two places of the cut log
  kept_window : (c j k : ℕ) → w.first c ≤ j → j ≤ k → k ≤ cut c → (x : NumberedCall) →
      (below lost x && window c (call_at w' c j) (call_at w' c k) x) ≡ window c (call_at w c j) (call_at w c k) x
  kept_window c j k low le high x = grind (arith, cases_lt, call_at-kept, inside, call_at-mono, call_at-lost, at_cut, next-top, nothing)

  stands-fail : (c : ℕ) → Stands w' c
  unfolding Stands
  stands-fail c j k bj bk low le high =
      let low_w : w.first c ≤ j = rw (f.first c) at low in
      let high_w : k ≤ cut c = rw (end-cut c) at high in
      let t : StandFor w c j k = grind (arith, kept_high) in
      let part : records_between w' c j k ≡ records_between w c j k = part-cut c j k low_w le high_w in
      record {
        value = λ i v.
            ap (λ rs. value_after i v (all_effects rs)) part ∙ t.value i v
            ∙ sym (grind (arith, kept_window))
            ∙ sym (value-filter (window c (call_at w' c j) (call_at w' c k)) (below lost) i v (steps w))
            ∙ ap (λ xs. late_value (window c (call_at w' c j) (call_at w' c k)) i v xs) (sym steps-fail);
        touch = λ i q.
            subst (λ xs. Each (λ x. window c (call_at w' c j) (call_at w' c k) x.0 ≡ true → contains (touched x.1.effects) i ≡ false) xs) (sym steps-fail)
            (each-filter_if (λ x. window c (call_at w' c j) (call_at w' c k) x.0 ≡ true → contains (touched x.1.effects) i ≡ false) (λ x. below lost x.0)
            (steps w)
            (grind (arith, each-map, kept_window)));
      }

  guarded-fail : Guarded w'
  unfolding Guarded
  guarded-fail c i h = grind (arith, contains-take, cut-records)

  -- ---- what the other nodes have

  digested_by_all-fail : (c : ℕ) → digested_by_all w c ≤ digested_by_all w' c
  unfolding digested_by_all
  digested_by_all-fail c = grind (arith, digested_by_all-received_by_all, least_of-above, end-cut, kept_low, least_of-below)

  received_by_all-fail : (c : ℕ) → received_by_all w c ≤ received_by_all w' c
  unfolding received_by_all
  received_by_all-fail c = grind (arith, kept_low, least_of-above, end-cut, least_of-below)

  first_undigested-fail : (c : ℕ) → first_undigested w c ≤ first_undigested w' c
  unfolding first_undigested
  first_undigested-fail c = grind (
    arith,
    call_at-mono w c (digested_by_all w c) (digested_by_all w' c) s (digested_by_all-fail c),
    call_at-ascends c (digested_by_all w' c)
        (omega (arith, digested_by_all-first w s c, digested_by_all-fail c)),
  )

  first_unreplicated-fail : (c : ℕ) → first_unreplicated w c ≤ first_unreplicated w' c
  unfolding first_unreplicated
  first_unreplicated-fail c = grind (
    arith,
    call_at-mono w c (received_by_all w c) (received_by_all w' c) s (received_by_all-fail c),
    call_at-ascends c (received_by_all w' c)
        (omega (arith, first-received_by_all w s c, received_by_all-fail c)),
  )

  unseen-fail : Unseen (first_undigested w') (steps w')
  unseen-fail = grind (arith, steps-fail, unseen-raise, first_undigested-fail, pairs-filter)

  order-fail : (m c : ℕ) → Full w' m → IsOrdered w' m c
  order-fail m c h = grind (arith, received_by_all-fail, end-cut, kept_low, kept_border)

  -- of the kept calls a node that stays has digested those that it had
  same-digested : (m : ℕ) → Full w' m → (c : ℕ) → min (lost c) (first_undigested_at w' m c) ≡ first_undigested_at w m c
  unfolding first_undigested_at
  same-digested m h c = grind (arith, cases_lt, call_at-mono, call_at-kept, kept_low, next-top, call_at-lost)

  areas-fail : Areas w'
  unfolding Areas value_below
  areas-fail m h i =
      f.area m i h ∙ area_at w m i s (f.only m h)
      ∙ sym (value-cong (λ x. below lost x && below (first_undigested_at w' m) x) (below (first_undigested_at w m)) i (opening_values i) (steps w)
      (each-always _ (steps w) (λ x. min_below lost (first_undigested_at w' m) (first_undigested_at w m) x.0 (same-digested m h))))
      ∙ sym (value-filter (below (first_undigested_at w' m)) (below lost) i (opening_values i) (steps w))
      ∙ ap (λ xs. late_value (below (first_undigested_at w' m)) i (opening_values i) xs) (sym steps-fail)

  pub fail_coherent : CallsInvariant w'
  fail_coherent = record {
    answered = subst (λ xs. AreAnswered opening_tree (exchanges xs)) (sym f.calls) (answered_at w lost s reach);
    make_new = subst (AllMakeNew opening_values) (sym f.calls) (new_at w lost s reach);
    spelled = spelled-fail;
    fresh_numbers = there_was_made w' counted-fail numbered-fail;
    fresh_calls = numbered-fail;
    fewer = λ c. rw (f.made c) (s.fewer c);
    counted = counted-fail;
    ascends = subst NumbersAscend (sym f.calls) (pairs-filter (λ x y. y.client ≡ x.client → x.number < y.number) (below lost) w.calls s.ascends);
    stands = stands-fail;
    ascending = λ c. rw (cut-records c, f.next c) (ascending-take (w.records c) (cut c - w.first c) (w.next c) (s.ascending c));
    first_border = λ c. f.border c (w'.first c) (rw (f.first c) (above-first c)) ∙ ap (λ k. w.border c k) (f.first c) ∙ s.first_border c;
    end_border = λ c. f.border c (end_of_log w' c) (rw (end-cut c) (omega arith)) ∙ ap (λ k. w.border c k) (end-cut c) ∙ kept_border w n c s;
    order = order-fail;
    areas = areas-fail;
    guarded = guarded-fail;
    compatible = compatible-same w w' s f.leases;
    unseen = unseen-fail;
  }

-- ---- clients, and the nodes that stay

-- a list cut at two places, one after the other, is cut at the lesser
take_least : (rs : List LogRecord) (j k : ℕ) → take j (take k rs) ≡ take (min j k) rs
take_least rs zero k = (let e : min 0 k ≡ 0 = omega arith in rw e refl)
take_least rs (suc j) zero = (let e : min (suc j) 0 ≡ 0 = omega arith in rw e refl)
take_least [] (suc j) (suc k) = (let e : min (suc j) (suc k) ≡ suc (min j k) = omega arith in rw e refl)
take_least (r ∷ rs) (suc j) (suc k) = (let e : min (suc j) (suc k) ≡ suc (min j k) = omega arith in rw e (ap (λ l. r ∷ l) (take_least rs j k)))

-- thresholds twice, the lower ones after the higher
pub filter-lower : (a b : ℕ → ℕ) (xs : List NumberedCall) → ((c : ℕ) → a c ≤ b c) → filter (below a) (filter (below b) xs) ≡ filter (below a) xs
filter-lower a b [] le = refl
filter-lower a b (x ∷ xs) le = grind (arith, filter-lower a b xs le)

module _ (w w' : World) (n : ℕ) (s : WorldInvariant w) (f : Fails w n w') where
  end-fail : (c : ℕ) → end_of_log w' c ≡ kept_at_failure w n c
  end-fail c = end-cut w w' n s.coherent f c

  stays_other : (m : ℕ) → Full w' m → m ≢ n
  stays_other m h is = f.gone (subst (Full w') is h)

  -- a client that lives afterwards lived before, on another node
  lived : (c : ℕ) → w'.lives c ≡ true → (w.home c ≢ n) × (w.lives c ≡ true)
  lived c t = grind (arith, cases_eq, both_ways)

  -- of one that doesn't, each node that stays has all that is kept
  had_kept : (m c : ℕ) → w'.lives c ≡ false → Full w' m → kept_at_failure w n c ≤ w.received m c
  had_kept m c t h = grind (arith, cases_Bool, cases_eq, kept_there, is_survivor, stays_other, both_ways, kept_high)

  prefixes-fail : (m c : ℕ) → Full w' m → w'.log m c ≡ take (w'.received m c - w'.first c) (w'.records c)
  prefixes-fail m c h =
      let k : ℕ = kept_at_failure w n c in
      let e : min (k - w.first c) (w.received m c - w.first c) ≡ min (min (w.received m c) k - w.first c) (k - w.first c) = omega arith in
      rw (f.received m c h, f.first c, cut-records w w' n s.coherent f c)
      (search (take_least, arith) parts 3)

  pub fail_sound : WorldInvariant w'
  fail_sound = record {
    coherent = fail_coherent w w' n s.coherent f;
    few_records = λ c. rw (end-fail c, f.next c) (omega (arith, kept_high w n c, s.few_records c));
    goals = λ c. rw (end-fail c, f.goals c) (omega arith);
    single = λ c k t low from to.
        (grind (arith, kept_elsewhere w n c (lived c t).0, end-fail c));
    unused = λ c h. f.next c ∙ s.unused c (omega (arith, f.clients, h));
    held = held-same w w' s f.leases;
    prefixes = prefixes-fail;
    opened = λ c t. rw f.clients (s.opened c (lived c t).1);
    homes = λ c t. rw (f.home c) (f.others (w.home c) (s.homes c (lived c t).1) (lived c t).0);
    whole = λ c t. (let h : Full w' (w.home c) = f.others (w.home c) (s.homes c (lived c t).1) (lived c t).0 in
        rw (f.home c, end-fail c, f.received (w.home c) c h) (omega (arith, kept_elsewhere w n c (lived c t).0, s.whole c (lived c t).1)));
    left = λ m c t h. rw (end-fail c, f.received m c h) (omega (arith, had_kept m c t h));
  }

  pub fail_falls : NoneFalls w w'
  fail_falls = record { unreplicated = first_unreplicated-fail w w' n s.coherent f; undigested = first_undigested-fail w w' n s.coherent f }

  pub fail_stays : StayReplicated w w'
  unfolding StayReplicated calls_replicated first_unreplicated
  fail_stays = grind (arith, filter-lower, call_at-mono, kept_low)
