-- A call keeps the invariant.
use Rattle.assise_model_world.proofs.Common.{◌≡◌, ℕ, suc, ◌+◌, ◌-◌, ◌<◌, ◌≤◌, ◌≢◌, inl, inr, Bool, true, false, List, [], ◌∷◌, ◌++◌, if◌then◌else◌, Option}
use Rattle.assise_model_world.proofs.Common.{Some, None, IsSome, refl, ap, sym, ◌∙◌, subst, ◌||◌, nat_lt, nat_le, arith, take, length, list_any, le-ltb}
use Rattle.assise_model_world.proofs.Common.{cases_Bool, ltb-true, lt-ltb, ne_eqb, cases_eq, or_cases, false_from_ne_true, cases_lt, nat_tests, opening_tree}
use Rattle.assise_model_world.proofs.Common.{answer, AreAnswered, tree_after_calls, Effect, LogRecord, all_effects, has_some, record_of, Ascending}
use Rattle.assise_model_world.proofs.Common.{all_effects-append, all_effects-one, ascending-append, Content, value_after, touched, contains, after, makes, Step}
use Rattle.assise_model_world.proofs.Common.{late_value, Spells, NumberedCall, trace, step_of, values_after_calls, AllMakeNew, exchanges, ops, Each}
use Rattle.assise_model_world.proofs.Common.{NumbersAscend, below, window, Clear, Unseen, NoneFalls, StayReplicated, WorldInvariant, AreDropped, IsMadeBy}
use Rattle.assise_model_world.proofs.Common.{IsMade, StandFor, Stands, Counted, Numbered, AreMade, Guarded, Compatible, IsOrdered, Areas, CallsInvariant}
use Rattle.assise_model_world.proofs.Common.{MakesCall, IsClient, calls_replicated, step_at_home, World, Full, opening_values, least_of, end_of_log}
use Rattle.assise_model_world.proofs.Common.{digested_by_all, received_by_all, records_between, call_at, first_undigested_at, first_undigested}
use Rattle.assise_model_world.proofs.Common.{first_unreplicated, steps, now, tree, value_below, in_window, value_after-append, contains-both, each-map}
use Rattle.assise_model_world.proofs.Common.{each-both, step_replies, step_spells, contains-append, append-nil, take_all, take-append-le}
use Rattle.assise_model_world.proofs.Lists.{each-snoc, pairs-snoc, unseen-raise, value-cong, value-snoc, trace-snoc, values-snoc, answered-snoc, tree-snoc}
use Rattle.assise_model_world.proofs.Lists.{new-snoc}
use Rattle.assise_model_world.proofs.Shared.Logs.{in_window_from, take-of_append, at-grows, at-same, at-push, of_fresh, length-both, drop-prefix}
use Rattle.assise_model_world.proofs.Shared.WorldObserved.{least_of-same, least_of-most, least_of-below, least_of-above}
use Rattle.assise_model_world.proofs.Shared.WorldObserved.{least_of-end, call_at-mono, next-top, part_of}
use Rattle.assise_model_world.proofs.Shared.WorldObserved.{call_at-end, received_by_all-end, IsCounted, all_counted}
use Rattle.assise_model_world.proofs.Shared.WorldObserved.{guarded_all, part-append, part_none, end-else}
use Rattle.assise_model_world.proofs.Shared.WorldObserved.{part-else, area_at, disjoint}
use Rattle.assise_model_world.proofs.Shared.Views.{clear_from, true_step}
use Rattle.assise_model_world.proofs.Shared.QuietSteps.{held-same, made_more}
use Rattle.assise_model_world.proofs.InodeNumbers.{made_here}
use Rattle.assise_model_world.proofs.Shared.Replicated.{log_of_home}
use Rattle.std.proofs.lemmas.List.Elements.{filter-append}

module _ (w w' : World) (y : NumberedCall) (sound : WorldInvariant w) (e : MakesCall w y w') where
  abbrev s : CallsInvariant w
  s = sound.coherent

  client : IsClient w y.client
  client = sound.opened y.client e.lives

  abbrev planned : Step
  planned = step_of (now w) y

  -- the step over what the client reads is that
  is_planned : step_at_home w y ≡ planned
  is_planned = true_step w y sound e.lives
      (λ i t. e.held i (grind (arith, contains-append)))

  held : (i : ℕ) → contains (planned.visits ++ touched planned.effects) i ≡ true → w.holds y.client i ≡ true
  held = subst (λ t. (i : ℕ) → contains (t.visits ++ touched t.effects) i ≡ true → w.holds y.client i ≡ true) is_planned e.held

  written : (i : ℕ) → contains (touched planned.effects) i ≡ true → w.writes y.client i ≡ true
  written = subst (λ t. (i : ℕ) → contains (touched t.effects) i ≡ true → w.writes y.client i ≡ true) is_planned e.written

  records_own : w'.records y.client ≡ w.records y.client ++ record_of y.number planned.effects
  records_own = subst (λ t. w'.records y.client ≡ w.records y.client ++ record_of y.number t.effects) is_planned e.records_own

  made_own : w'.made y.client ≡ (if list_any (makes y.fresh) planned.effects then suc (w.made y.client) else w.made y.client)
  made_own = subst (λ t. w'.made y.client ≡ (if list_any (makes y.fresh) t.effects then suc (w.made y.client) else w.made y.client)) is_planned e.made_own

  steps-commit : steps w' ≡ steps w ++ (y, planned) ∷ []
  unfolding steps now
  steps-commit = ap (λ xs. trace opening_values xs) e.calls ∙ trace-snoc opening_values w.calls y

  -- ---- the run

  -- the reply is that of the tree of all calls
  pub call_reply : y.reply ≡ (answer (tree w) y.op).0
  call_reply = e.reply ∙ ap (λ t. t.reply) is_planned ∙ step_replies (now w) (tree w) y.op y.fresh s.spelled

  answered-commit : AreAnswered opening_tree (exchanges w'.calls)
  unfolding tree
  answered-commit = subst (λ xs. AreAnswered opening_tree (exchanges xs)) (sym e.calls) (answered-snoc opening_tree w.calls y s.answered call_reply)

  -- the next number of the client is that of no inode
  number_free : IsMade w y.fresh → ⊥
  number_free h = grind (arith, cases_eq)

  none_of : (o : Option Content) → (IsSome o → ⊥) → o ≡ None
  none_of None h = refl
  none_of (Some content) h = absurd (h refl)

  is_new : now w y.fresh ≡ None
  unfolding AreMade
  is_new = none_of (now w y.fresh) (λ there. number_free (s.fresh_numbers y.fresh there))

  new-commit : AllMakeNew opening_values w'.calls
  unfolding now
  new-commit = subst (AllMakeNew opening_values) (sym e.calls) (new-snoc opening_values w.calls y s.make_new (λ _. is_new))

  spelled-commit : Spells (now w') (tree w')
  unfolding now tree
  spelled-commit =
      subst (λ xs. Spells (values_after_calls opening_values xs) (tree_after_calls opening_tree (ops xs))) (sym e.calls)
      (subst (λ v. Spells v (tree_after_calls opening_tree (ops (w.calls ++ y ∷ [])))) (sym (values-snoc opening_values w.calls y))
      (subst (Spells (after (now w) planned.effects)) (sym (tree-snoc opening_tree w.calls y))
      (step_spells (now w) (tree w) y.op y.fresh s.spelled (λ _. is_new))))

  -- ---- numbers of inodes

  made-up : (c : ℕ) → w.made c ≤ w'.made c
  made-up c = grind (arith, cases_eq, made_own)

  made_now : list_any (makes y.fresh) planned.effects ≡ true → IsMadeBy w' y.client y.fresh
  made_now t = (w.made y.client, (rw (made_own, t) (omega arith), e.fresh))

  fewer-commit : (c : ℕ) → w'.made c ≤ 1048576
  fewer-commit c = grind (arith, cases_eq)

  numbered-commit : Numbered w'
  unfolding Numbered
  numbered-commit =
      subst (Each (λ x. list_any (makes x.0.fresh) x.1.effects ≡ true → IsMadeBy w' x.0.client x.0.fresh)) (sym steps-commit)
      (each-snoc (λ x. list_any (makes x.0.fresh) x.1.effects ≡ true → IsMadeBy w' x.0.client x.0.fresh) (steps w) (y, planned)
      (grind (arith, each-map))
      made_now)

  are_made-commit : AreMade w'
  unfolding AreMade now
  are_made-commit i h =
      made_here w' (now w) y (client.0, rw e.clients.clients client.1) made_now
      (λ j there. made_more w w' j made-up (rw e.clients.clients (omega arith)) (s.fresh_numbers j there)) i
      (subst (λ v. IsSome (v i)) (ap (λ xs. values_after_calls opening_values xs) e.calls ∙ values-snoc opening_values w.calls y) h)

  -- ---- the logs

  next-up : (d : ℕ) → w.next d ≤ w'.next d
  next-up d = grind (arith, cases_eq)

  counted-commit : Counted w'
  unfolding Counted
  counted-commit = grind (arith, IsCounted, each-snoc, each-map, next-up)

  counted_calls : Each (IsCounted w) w.calls
  unfolding Counted
  counted_calls = s.counted

  ascends-commit : NumbersAscend w'.calls
  ascends-commit = grind (arith, pairs-snoc, each-map, IsCounted, counted_calls)

  guarded-commit : Guarded w'
  unfolding Guarded
  guarded-commit d i h = grind (arith, cases_eq, contains-both, all_effects-append, records_own, or_cases, written, of_fresh)

  compatible-commit : Compatible w'
  unfolding Compatible
  compatible-commit c d i other wr ho = s.compatible c d i other (sym (e.leases.writes c i) ∙ wr) (sym (e.leases.holds d i) ∙ ho)

  full-commit : (n : ℕ) → Full w' n → Full w n
  full-commit n h = subst (λ ns. contains ns n ≡ true) e.full h

  end-commit : (d : ℕ) → end_of_log w d ≤ end_of_log w' d
  unfolding end_of_log
  end-commit d =
      elim (cases_eq d y.client) [
        | inl own ↦ subst (λ d. w.first d + length (w.records d) ≤ w'.first d + length (w'.records d)) (sym own)
            (rw (e.first y.client, records_own) (let l : length (w.records y.client) ≤ length (w.records y.client ++ record_of y.number planned.effects) =
            longer (w.records y.client) (record_of y.number planned.effects) in omega (arith, l)))
        | inr other ↦ rw (e.first d, e.records_else d other) (omega arith)
      ]
    where
      longer : (rs zs : List LogRecord) → length rs ≤ length (rs ++ zs)
      longer [] zs = omega arith
      longer (r ∷ rs) zs = (let l : length rs ≤ length (rs ++ zs) = longer rs zs in omega (arith, l))

  -- what full nodes received: at home all, elsewhere what they had
  received-is : (P : ℕ → ℕ → ℕ → Type 0) → P (w.home y.client) y.client (end_of_log w' y.client) → ((n d : ℕ) → Full w n → P n d (w.received n d)) → (n d : ℕ) →
      Full w n → P n d (w'.received n d)
  received-is P here others n d f = grind (arith, cases_eq)

  known-commit : (n d : ℕ) → Full w n → w'.received n d ≤ end_of_log w' d
  known-commit = received-is (λ n d k. k ≤ end_of_log w' d) (omega arith) (λ n d f. omega (arith, (s.order n d f).known, end-commit d))

  border-commit : (n d : ℕ) → Full w n → w'.border d (w'.received n d) ≡ true
  border-commit = grind arith

  received-up : (n d : ℕ) → Full w n → w.received n d ≤ w'.received n d
  received-up n d f = grind (arith, cases_eq, end-commit)

  received_by_all-commit : (d : ℕ) → received_by_all w d ≤ received_by_all w' d
  unfolding received_by_all
  received_by_all-commit d = grind (arith, least_of-above, least_of-end, end-commit, least_of-below, full-commit, received-up)

  digested_by_all-commit : (d : ℕ) → digested_by_all w d ≤ digested_by_all w' d
  unfolding digested_by_all
  digested_by_all-commit d = grind (arith, least_of-above, least_of-end, end-commit, full-commit, least_of-below)

  order-commit : (n d : ℕ) → Full w' n → IsOrdered w' n d
  order-commit n d full = grind (arith, full-commit, known-commit, border-commit, received_by_all-commit, received_by_all-end)

  call_at-commit : (d k : ℕ) → call_at w d k ≤ call_at w' d k
  unfolding call_at
  call_at-commit d k = grind (arith, cases_eq, records_own, at-grows)

  -- the first call that some node has not digested doesn't fall
  first_undigested-commit : (d : ℕ) → first_undigested w d ≤ first_undigested w' d
  unfolding first_undigested
  first_undigested-commit d = grind
      (arith, call_at-mono w d (digested_by_all w d) (digested_by_all w' d) s (digested_by_all-commit d), call_at-commit d (digested_by_all w' d))

  first_unreplicated-commit : (d : ℕ) → first_unreplicated w d ≤ first_unreplicated w' d
  unfolding first_unreplicated
  first_unreplicated-commit d = grind
      (arith, call_at-mono w d (received_by_all w d) (received_by_all w' d) s (received_by_all-commit d), call_at-commit d (received_by_all w' d))

  before-same : (d k n : ℕ) → n < w.next d → nat_lt n (call_at w' d k) ≡ nat_lt n (call_at w d k)
  unfolding call_at
  before-same d k n h = grind (arith, cases_eq, records_own, at-same)

  -- the new call is digested nowhere, unless it changes nothing
  new_call : (k : ℕ) → k ≤ end_of_log w y.client →
      nat_lt y.number (call_at w' y.client k) ≡ true → has_some planned.effects ≡ false
  unfolding call_at end_of_log
  new_call k le h = grind (arith, false_from_ne_true, records_own, at-push, next-top, ltb-true)

  areas-commit : Areas w'
  unfolding Areas value_below first_undigested_at
  areas-commit m f i =
      let a : ℕ → ℕ = λ d. call_at w d (w.digested m d) in
      let b : ℕ → ℕ = λ d. call_at w' d (w'.digested m d) in
      let full : Full w m = full-commit m f in
      let xs : List (NumberedCall × Step) = steps w in
      let same : late_value (below b) i (opening_values i) xs ≡ late_value (below a) i (opening_values i) xs =
      value-cong (below b) (below a) i (opening_values i) xs
      (each-map (λ x. IsCounted w x.0) (λ x. below b x.0 ≡ below a x.0) xs
      (λ x h. grind (arith, before-same)) (all_counted w s)) in
      let v : Option Content = late_value (below b) i (opening_values i) xs in
      let o : IsOrdered w m y.client = s.order m y.client full in
      e.area m i full ∙ area_at w m i s full ∙ sym same
      ∙ (grind (arith, new_call, received_by_all-end))
      ∙ sym (value-snoc (below b) i (opening_values i) xs (y, planned))
      ∙ ap (λ l. late_value (below b) i (opening_values i) l) (sym steps-commit)

  -- the number is before the one place as before the other
  after-same : (d k n : ℕ) → n < w.next d → nat_le (call_at w' d k) n ≡ nat_le (call_at w d k) n
  after-same d k n h = (let t : nat_lt n (call_at w' d k) ≡ nat_lt n (call_at w d k) = before-same d k n h in turn n (call_at w' d k) (call_at w d k) t)
    where
      turn : (n a b : ℕ) → nat_lt n a ≡ nat_lt n b → nat_le a n ≡ nat_le b n
      turn n a b t = grind (arith, nat_tests)

  old_window : (c j k : ℕ) (x : NumberedCall) → x.number < w.next x.client → window c (call_at w' c j) (call_at w' c k) x ≡ window c (call_at w c j)
      (call_at w c k) x
  old_window c j k x h = grind (arith, cases_eq, after-same, before-same, ne_eqb)

  part-commit : (j k : ℕ) → w.first y.client ≤ j → j ≤ k → k ≤ end_of_log w y.client → records_between w' y.client j k ≡ records_between w y.client j k
  unfolding records_between end_of_log
  part-commit j k low le high = grind (arith, take-of_append)

  -- a records_between that stood before
  part_stays : (d j k : ℕ) → records_between w' d j k ≡ records_between w d j k →
      (window d (call_at w' d j) (call_at w' d k) y ≡ true → has_some planned.effects ≡ false) → StandFor w d j k → StandFor w' d j k
  part_stays d j k same quiet t =
      let u : NumberedCall → Bool = window d (call_at w' d j) (call_at w' d k) in
      record {
        value = λ i v.
            ap (λ rs. value_after i v (all_effects rs)) same ∙ t.value i v
            ∙ sym (value-cong u (window d (call_at w d j) (call_at w d k)) i v (steps w)
            (each-map (λ x. IsCounted w x.0) (λ x. u x.0 ≡ window d (call_at w d j) (call_at w d k) x.0) (steps w)
            (λ x h. old_window d j k x.0 h.1) (all_counted w s)))
            ∙ (grind arith)
            ∙ sym (value-snoc u i v (steps w) (y, planned))
            ∙ ap (λ l. late_value u i v l) (sym steps-commit);
        touch = λ i q.
            subst (λ l. Each (λ x. u x.0 ≡ true → contains (touched x.1.effects) i ≡ false) l) (sym steps-commit)
            (each-snoc (λ x. u x.0 ≡ true → contains (touched x.1.effects) i ≡ false) (steps w) (y, planned)
            (each-both (λ x. window d (call_at w d j) (call_at w d k) x.0 ≡ true → contains (touched x.1.effects) i ≡ false)
            (λ x. IsCounted w x.0)
            (λ x. u x.0 ≡ true → contains (touched x.1.effects) i ≡ false) (steps w)
            (λ x g h m. g (sym (old_window d j k x.0 h.1) ∙ m)) (t.touch i (rw same at q)) (all_counted w s))
            (λ m. none_in planned.effects i (quiet m)));
      }
    where
      none_in : (es : List Effect) (i : ℕ) → has_some es ≡ false → contains (touched es) i ≡ false
      none_in [] i h = refl
      none_in (f ∷ fs) i h = cc

  end-grown : has_some planned.effects ≡ true → end_of_log w' y.client ≡ suc (end_of_log w y.client)
  unfolding end_of_log
  end-grown has = grind (arith, records_own, length-both)

  end-stays : has_some planned.effects ≡ false → end_of_log w' y.client ≡ end_of_log w y.client
  unfolding end_of_log
  end-stays none = grind (arith, records_own, length-both)

  part-last : has_some planned.effects ≡ true →
      records_between w' y.client (end_of_log w y.client) (suc (end_of_log w y.client)) ≡ record { call = y.number; effects = planned.effects } ∷ []
  unfolding records_between end_of_log
  part-last has =
      let c : ℕ = y.client in
      let r : LogRecord = record { call = y.number; effects = planned.effects } in
      let n : (w.first c + length (w.records c)) - w.first c ≡ length (w.records c) = omega arith in
      let m : suc (w.first c + length (w.records c)) - (w.first c + length (w.records c)) ≡ 1 = omega arith in
      rw (e.first c, records_own, has, n, m) (ap (λ l. take 1 l) (drop-prefix (w.records c) (r ∷ [])))

  first-last : (c : ℕ) → w.first c ≤ end_of_log w c
  unfolding end_of_log
  first-last c = omega arith

  -- at a place of the old log the new call is not before
  at_most_new : has_some planned.effects ≡ true → (k : ℕ) → k ≤ end_of_log w y.client → call_at w' y.client k ≤ y.number
  at_most_new has k le =
      elim (cases_lt y.number (call_at w' y.client k)) [
        | inl h ↦ (let t : has_some planned.effects ≡ false = new_call k le (lt-ltb y.number (call_at w' y.client k) h) in absurd (Prim.cc (sym has ∙ t)))
        | inr h ↦ h
      ]

  -- from a border of the old log to the new end
  part_over : has_some planned.effects ≡ true → (j : ℕ) → w.border y.client j ≡ true → w.first y.client ≤ j → j ≤ end_of_log w y.client →
      StandFor w' y.client j (end_of_log w' y.client)
  part_over has j bj low le =
      let c : ℕ = y.client in
      let r : LogRecord = record { call = y.number; effects = planned.effects } in
      let E : ℕ = end_of_log w c in
      let grown : end_of_log w' c ≡ suc E = end-grown has in
      let t : StandFor w c j E = part_of w c j E s bj (s.end_border c) low le (omega arith) in
      let now_is : records_between w' c j (end_of_log w' c) ≡ records_between w c j E ++ r ∷ [] =
      grind (arith, part-append w' c j E (suc E) (rw (e.first c) low) le (omega arith), part-commit j E low le (omega arith), part-last has) in
      let K : call_at w' c (end_of_log w' c) ≡ suc y.number = call_at-end w' c (end_of_log w' c) (omega arith) ∙ e.next_own in
      let N : call_at w c E ≡ y.number = call_at-end w c E (omega arith) ∙ sym e.number in
      let J : call_at w' c j ≤ y.number = at_most_new has j le in
      let u : NumberedCall → Bool = window c (call_at w' c j) (call_at w' c (end_of_log w' c)) in
      let in_it : u y ≡ true = in_window_from c (call_at w' c j) (call_at w' c (end_of_log w' c)) y refl J (omega (arith, K)) in
      let old : Each (λ x. u x.0 ≡ window c (call_at w c j) (call_at w c E) x.0) (steps w) =
      each-map (λ x. IsCounted w x.0) (λ x. u x.0 ≡ window c (call_at w c j) (call_at w c E) x.0) (steps w)
      (λ x h. grind (arith, after-same)) (all_counted w s) in
      record {
        value = search (all_effects-append, value_after-append, value-cong, value-snoc, steps-commit, arith) parts 3;
        touch = λ i q.
            (let split : (contains (touched (all_effects (records_between w c j E))) i || contains (touched (all_effects (r ∷ []))) i) ≡ false =
            grind (arith, contains-both, all_effects-append) in
            let parts : (contains (touched (all_effects (records_between w c j E))) i ≡ false) × (contains (touched (all_effects (r ∷ []))) i ≡ false) =
            grind arith in
            subst (λ l. Each (λ x. u x.0 ≡ true → contains (touched x.1.effects) i ≡ false) l) (sym steps-commit)
            (each-snoc (λ x. u x.0 ≡ true → contains (touched x.1.effects) i ≡ false) (steps w) (y, planned)
            (each-both (λ x. window c (call_at w c j) (call_at w c E) x.0 ≡ true → contains (touched x.1.effects) i ≡ false)
            (λ x. u x.0 ≡ window c (call_at w c j) (call_at w c E) x.0)
            (λ x. u x.0 ≡ true → contains (touched x.1.effects) i ≡ false) (steps w)
            (λ x g h m. g (sym h ∙ m)) (t.touch i parts.0) old)
            (λ m. ap (λ es. contains (touched es) i) (sym (all_effects-one y.number planned.effects)) ∙ parts.1)));
      }

  stands-own : (j k : ℕ) → j ≤ k →
      w'.border y.client j ≡ true → w'.border y.client k ≡ true → w'.first y.client ≤ j → k ≤ end_of_log w' y.client → StandFor w' y.client j k
  stands-own j k le bj bk low high =
      let c : ℕ = y.client in
      let low_w : w.first c ≤ j = rw (e.first c) at low in
      elim (cases_lt (end_of_log w c) k) [
        | inr within ↦
            part_stays c j k (part-commit j k low_w le within)
            (λ m. new_call k within (lt-ltb y.number (call_at w' c k) (in_window c (call_at w' c j) (call_at w' c k) y m).2))
            (part_of w c j k s (sym (e.border_old c j (omega arith)) ∙ bj) (sym (e.border_old c k within) ∙ bk) low_w le within)
        | inl past ↦
            elim (cases_Bool (has_some planned.effects)) [
              | inr none ↦ absurd (omega (arith, high, past, end-stays none))
              | inl has ↦
                  let is : end_of_log w' c ≡ k = omega (arith, end-grown has) in
                  subst (λ k. StandFor w' c j k) is
                  (elim (cases_lt (end_of_log w c) j) [
                    | inr before ↦ part_over has j (sym (e.border_old c j before) ∙ bj) low_w before
                    | inl beyond ↦ grind (arith, end-grown has, part_none w' c (end_of_log w' c) (omega arith))
                  ])
            ]
      ]

  stands-commit : (d : ℕ) → Stands w' d
  unfolding Stands
  stands-commit d j k bj bk low le high =
      elim (cases_eq d y.client) [
        | inl own ↦ grind (arith, stands-own)
        | inr other ↦
            let high_w : k ≤ end_of_log w d = rw (end-else w w' d (e.first d) (e.records_else d other)) at high in
            part_stays d j k (part-else w w' d j k (e.first d) (e.records_else d other))
            (λ m. absurd (other (sym (in_window d (call_at w' d j) (call_at w' d k) y m).0)))
            (part_of w d j k s (sym (e.border_old d j (omega arith)) ∙ bj) (sym (e.border_old d k high_w) ∙ bk) (rw (e.first d) at low) le high_w)
      ]

  ascending-commit : (d : ℕ) → Ascending (w'.records d) (w'.next d)
  ascending-commit d =
      elim (cases_eq d y.client) [
        | inl own ↦ subst (λ d. Ascending (w'.records d) (w'.next d)) (sym own)
            (rw (records_own, e.next_own)
            (elim (cases_Bool (has_some planned.effects)) [
              | inl has ↦ grind (arith, ascending-append)
              | inr none ↦ rw none (ascending-append (w.records y.client) [] (suc y.number)
                  (ascending-up (w.records y.client) (w.next y.client) (suc y.number) (omega (arith, e.number)) (s.ascending y.client)) tt)
            ]))
        | inr other ↦ rw (e.records_else d other, e.next_else d other) (s.ascending d)
      ]
    where
      ascending-up : (rs : List LogRecord) (a b : ℕ) → a ≤ b → Ascending rs a → Ascending rs b
      ascending-up [] a b h r = tt
      ascending-up (q ∷ []) a b h r = (omega (arith, r.0), tt)
      ascending-up (q ∷ (q' ∷ qs)) a b h r = (r.0, ascending-up (q' ∷ qs) a b h r.1)

  end_good : (d : ℕ) → w'.border d (end_of_log w' d) ≡ true
  end_good d = grind (arith, cases_eq, end-else)

  unseen-commit : Unseen (first_undigested w') (steps w')
  unseen-commit =
      subst (λ xs. Unseen (first_undigested w') xs) (sym steps-commit)
      (unseen-raise (first_undigested w) (first_undigested w') (steps w ++ (y, planned) ∷ []) first_undigested-commit
      (pairs-snoc (λ x z. first_undigested w x.0.client ≤ x.0.number → z.0.client ≢ x.0.client →
      Clear (touched x.1.effects) (z.1.visits ++ touched z.1.effects))
      (steps w) (y, planned) s.unseen
      (each-map (λ x. (i : ℕ) → first_undigested w x.0.client ≤ x.0.number → w.writes x.0.client i ≡ false → contains (touched x.1.effects) i ≡ false)
      (λ x. first_undigested w x.0.client ≤ x.0.number → y.client ≢ x.0.client → Clear (touched x.1.effects) (planned.visits ++ touched planned.effects))
      (steps w)
      (λ x guarded late other. clear_from (touched x.1.effects) (planned.visits ++ touched planned.effects)
      (λ i t. guarded i late (grind (arith, disjoint, held i t))))
      (guarded_all w s))))

  pub call_coherent : CallsInvariant w'
  call_coherent = record {
    answered = answered-commit;
    make_new = new-commit;
    spelled = spelled-commit;
    fresh_numbers = are_made-commit;
    fresh_calls = numbered-commit;
    fewer = fewer-commit;
    counted = counted-commit;
    ascends = ascends-commit;
    stands = stands-commit;
    ascending = ascending-commit;
    first_border = λ d. ap (λ k. w'.border d k) (e.first d) ∙ e.border_old d (w.first d) (first-last d) ∙ s.first_border d;
    end_border = end_good;
    order = order-commit;
    areas = areas-commit;
    guarded = guarded-commit;
    compatible = compatible-commit;
    unseen = unseen-commit;
  }

  pub call_falls : NoneFalls w w'
  call_falls = record { unreplicated = first_unreplicated-commit; undigested = first_undigested-commit }

  -- the calls that were replicated are replicated, and the new one is not among those before their thresholds
  pub call_stays : StayReplicated w w'
  unfolding StayReplicated calls_replicated first_unreplicated
  call_stays = grind (arith, next-top, le-ltb, filter-append, append-nil)

  -- ---- nodes' logs

  -- one record for a call, or none
  few-commit : (d : ℕ) → end_of_log w' d ≤ w'.next d
  few-commit d = grind (arith, cases_eq, cases_Bool, end-grown, end-stays, end-else)

  log_now : w'.log (w.home y.client) y.client ≡ w'.records y.client
  log_now = e.log_home ∙ ap (λ l. l ++ record_of y.number (step_at_home w y).effects) (sym (log_of_home w y.client sound e.lives)) ∙ sym e.records_own

  whole-prefix : take (end_of_log w' y.client - w'.first y.client) (w'.records y.client) ≡ w'.records y.client
  unfolding end_of_log
  whole-prefix = take_all ((w'.first y.client + length (w'.records y.client)) - w'.first y.client) (w'.records y.client) (omega arith)

  prefix_else : (n : ℕ) → Full w n → n ≢ w.home y.client → w'.log n y.client ≡ take (w'.received n y.client - w'.first y.client) (w'.records y.client)
  unfolding end_of_log
  prefix_else n f a = grind (arith, records_own, take-append-le)

  prefix_now : (n d : ℕ) → Full w n → w'.log n d ≡ take (w'.received n d - w'.first d) (w'.records d)
  prefix_now n d f = grind (arith, cases_eq, log_now, whole-prefix, prefix_else)

  one_more : end_of_log w' y.client ≤ suc (end_of_log w y.client)
  unfolding end_of_log
  one_more = rw (e.first y.client, records_own) (omega (arith, few_more (w.records y.client) planned.effects))
    where
      few_more : (rs : List LogRecord) (es : List Effect) → length (rs ++ record_of y.number es) ≤ suc (length rs)
      few_more [] [] = omega arith
      few_more [] (x ∷ es) = omega arith
      few_more (r ∷ rs) es = (let l : length (rs ++ record_of y.number es) ≤ suc (length rs) = few_more rs es in omega (arith, l))

  pub call_sound : WorldInvariant w'
  call_sound = search (call_coherent, end-commit, one_more, end-else, held-same, prefix_now, arith) parts 3

  -- the home has digested no more than there was, so a longer log changes nothing
  pub call_dropped : AreDropped w → AreDropped w'
  unfolding AreDropped digested_by_all
  call_dropped d c =
      e.first c ∙ d c
      ∙ least_of-same w.full (λ n. w.digested n c) (λ n. w'.digested n c) (end_of_log w c) (λ n h. sym (e.digested n c h))
      ∙ elim (cases_eq c y.client) [
        | inl own ↦ subst (λ c. least_of w.full (λ n. w'.digested n c) (end_of_log w c) ≡ least_of w'.full (λ n. w'.digested n c) (end_of_log w' c)) (sym own)
            (longer y.client)
        | inr other ↦ search (end-else, arith) parts 3
      ]
    where
      home : Full w (w.home y.client)
      home = sound.homes y.client e.lives

      longer : (c : ℕ) → least_of w.full (λ n. w'.digested n c) (end_of_log w c) ≡ least_of w'.full (λ n. w'.digested n c) (end_of_log w' c)
      longer c =
          let o : IsOrdered w (w.home y.client) c = s.order (w.home y.client) c home in
          let low : w'.digested (w.home y.client) c ≤ end_of_log w c = rw (e.digested (w.home y.client) c home)
          (omega (arith, o.replicated, received_by_all-end w c)) in
          least_of-most w.full (λ n. w'.digested n c) (end_of_log w c) (end_of_log w' c) (w.home y.client) home low (end-commit c)
          ∙ ap (λ ns. least_of ns (λ n. w'.digested n c) (end_of_log w' c)) (sym e.full)
