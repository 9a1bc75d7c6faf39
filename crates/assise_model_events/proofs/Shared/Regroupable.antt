-- A dsync can coalesce.
use Rattle.assise_model_events.proofs.Common.{◌≡◌, ◌≢◌, ℕ, ◌+◌, ◌-◌, ◌<◌, ◌≤◌, ◌==◌, ◌&&◌, ◌||◌, not, nat_le, if◌then◌else◌, Bool, true, false, List, [], ◌∷◌}
use Rattle.assise_model_events.proofs.Common.{◌++◌, None, length, take, drop, refl, ap, sym, ◌∙◌, inl, inr, arith, append-nil, false≢true, cases_eq, cond-true}
use Rattle.assise_model_events.proofs.Common.{cond-false, ne_eqb, le-leb, lt-leb, and_from, and_left, and_right, or_right, length-take, AllHaveEffects}
use Rattle.assise_model_events.proofs.Common.{all_coalesced, are_whole, LogRecord, contains, GetsAll, HasNone, WorldInvariant, World, Full, end_of_log}
use Rattle.assise_model_events.proofs.Common.{received_by_all, records_between, contains-filter, filter-contains, end_is, first-received_by_all}
use Rattle.assise_model_events.proofs.Common.{received_by_all-end, Dsync, Pessimistic, Done, Syncing, is_refused, is_replicating, is_synced, lacks_memory}
use Rattle.assise_model_events.proofs.Common.{Coalescing, IsCoalescing, coalesced_from, full_elsewhere, most_of, new_groups, not_yet, replied, client_fault}
use Rattle.assise_model_events.proofs.Common.{MachineInvariant, Machine}
use Rattle.std.proofs.lemmas.Bool.{eq-eqb}
use Rattle.assise_record.proofs.Shared.GroupMarks.{groups-all, groups-are}
use Rattle.assise_record.proofs.Shared.WholeGroups.{whole_none}
use Rattle.assise_model_world.specs.Regrouped.{Regroups}
use Rattle.assise_model_world.proofs.Shared.Logs.{length-both}
use Rattle.assise_model_events.specs.Dsyncs.{is_synced}
use Rattle.assise_model_events.proofs.Shared.Answerable.{synced_can}
use Rattle.assise_model_events.proofs.Shared.Faultless.{client_runs}

pub between_length : (w : World) (c s : ℕ) → w.first c ≤ s → s ≤ end_of_log w c → length (records_between w c s (end_of_log w c)) ≤ end_of_log w c
unfolding records_between
between_length w c s low high = omega (arith, length-take (end_of_log w c - s) (drop (s - w.first c) (w.records c)))

pub most-above : (ns : List ℕ) (f : ℕ → ℕ) (n : ℕ) → contains ns n ≡ true → f n ≤ most_of ns f
most-above [] f n h = absurd (false≢true h)
most-above (m ∷ ns) f n h =
    elim (cases_eq m n) [
      | inl is ↦ (let t : f m ≡ f n = ap f is in omega (arith, t))
      | inr other ↦ (let rest : contains ns n ≡ true = sym (ap (λ b. b || contains ns n) (ne_eqb m n other)) ∙ h in omega (arith, most-above ns f n rest))
    ]

pub most-below : (ns : List ℕ) (f : ℕ → ℕ) (top : ℕ) → ((n : ℕ) → contains ns n ≡ true → f n ≤ top) → most_of ns f ≤ top
most-below [] f top h = omega arith
most-below (m ∷ ns) f top h =
    omega (arith, h m (ap (λ b. b || contains ns m) (eq-eqb m m refl)), most-below ns f top (λ n t. h n (or_right (m == n) (contains ns n) t)))

-- a dsync begins to coalesce at a place of the log that no other full node has passed
module _ (w : World) (c : ℕ) (h : WorldInvariant w) where
  pub coalesced_elsewhere : (n : ℕ) → Full w n → n ≢ w.home c → w.received n c ≤ coalesced_from w c
  coalesced_elsewhere n f other =
      (let kept : contains (full_elsewhere w c) n ≡ true = filter-contains (λ m. not (m == w.home c)) w.full n (ap not (ne_eqb n (w.home c) other)) f in
      let t : w.received n c ≤ most_of (full_elsewhere w c) (λ m. w.received m c) = most-above (full_elsewhere w c) (λ m. w.received m c) n kept in
      omega (arith, t))

  pub coalesced_high : coalesced_from w c ≤ end_of_log w c
  coalesced_high =
      (let t : most_of (full_elsewhere w c) (λ m. w.received m c) ≤ end_of_log w c =
      grind (arith, most-below, full_elsewhere, end_of_log, contains-filter) in
      omega (arith, t, h.goals c, received_by_all-end w c))

  pub coalesced_low : received_by_all w c ≤ coalesced_from w c
  coalesced_low = omega arith

  pub coalesced_first : w.first c ≤ coalesced_from w c
  coalesced_first = omega (arith, first-received_by_all w h.coherent c, coalesced_low)

module _ (w : World) (c : ℕ) (h : WorldInvariant w) (lives : w.lives c ≡ true)
    (some : AllHaveEffects (records_between w c (coalesced_from w c) (end_of_log w c))) where
  abbrev s : ℕ
  s = coalesced_from w c

  abbrev gs : List (List LogRecord)
  gs = new_groups w c

  abbrev records_now : List LogRecord
  records_now = take (s - w.first c) (w.records c) ++ all_coalesced gs

  abbrev here : ℕ → ℕ → Bool
  here n d = (d == c) && (n == w.home c)

  abbrev u : World
  u = record w {
    records = λ d. if d == c then records_now else w.records d;
    border = λ d k. if d == c then (if nat_le k s then w.border c k else are_whole gs (k - s)) else w.border d k;
    received = λ n d. if here n d then s + length (all_coalesced gs) else w.received n d;
    log = λ n d. if here n d then records_now else w.log n d;
    goal = λ d. if d == c then s + length (all_coalesced gs) else w.goal d;
  }

  high : s ≤ end_of_log w c
  high = coalesced_high w c h

  first_low : w.first c ≤ s
  first_low = coalesced_first w c h

  own : (c == c) ≡ true
  own = eq-eqb c c refl

  records_are : u.records c ≡ records_now
  records_are = cond-true (c == c) records_now (w.records c) own

  end_now : end_of_log u c ≡ s + length (all_coalesced gs)
  end_now = grind (arith, end_is, records_are, length-both, length-take, first_low, high)

  border_then : (k : ℕ) → (b : Bool) → nat_le (s + k) s ≡ b → b ≡ false → u.border c (s + k) ≡ are_whole gs k
  border_then k b is off = grind (arith, cond-true, own, cond-false)

  border_first : (k : ℕ) → k ≡ 0 → u.border c (s + k) ≡ are_whole gs k
  border_first k none = grind (arith, cond-true, own, le-leb, first_low, high, whole_none)

  at_home : GetsAll (w.home c) c u
  at_home = grind (arith, cond-true, and_from, own, eq-eqb, end_now, records_are)

  else_here : (n d : ℕ) → d ≢ c → here n d ≡ false
  else_here n d other = and_left (d == c) (n == w.home c) (ne_eqb d c other)

  elsewhere : (n : ℕ) → Full w n → n ≢ w.home c → HasNone w n c s u
  elsewhere n f other = grind (arith, coalesced_elsewhere, cond-false, and_right, ne_eqb)

  regroups : Regroups w c (coalesced_from w c) (new_groups w c) u
  regroups = record {
    tail = record {
      lives = lives;
      low = coalesced_low w c h;
      high = high;
      records_own = records_are;
      records_else = λ d other. cond-false (d == c) _ _ (ne_eqb d c other);
      border_old = λ k old. cond-true (c == c) _ _ own ∙ cond-true (nat_le k s) _ _ (le-leb k s old);
      border_else = λ d k other. cond-false (d == c) _ _ (ne_eqb d c other);
      here = grind (arith, cases_eq, at_home, elsewhere);
      at_home = at_home;
      received_else = λ n d f other. cond-false (here n d) _ _ (else_here n d other);
      log_else = λ n d f other. cond-false (here n d) _ _ (else_here n d other);
      full = refl;
      area = λ n i f. refl;
      digested = λ n d f. refl;
      calls = refl;
      first = λ d. refl;
      next = λ d. refl;
      made = λ d. refl;
      clients = record { clients = refl; home = λ d. refl; lives = λ d. refl; crashed = λ d. refl };
      goal_here = cond-true (c == c) _ _ own ∙ sym end_now;
      goal_else = λ d other. cond-false (d == c) _ _ (ne_eqb d c other);
      leases = record { holds = λ d i. refl; writes = λ d i. refl };
    };
    groups = groups-are (end_of_log w c) (records_between w c s (end_of_log w c)) some;
    cut = groups-all (end_of_log w c) (records_between w c s (end_of_log w c)) (between_length w c s first_low high);
    border_new = grind (arith, cases_eq, border_first, border_then, nat_le, lt-leb);
    goal = omega arith;
  }

  -- areas stay, those of nodes that aren't full too, and no other full node gets a record
  pub can_regroup : (v : World)
      × (Regroups w c (coalesced_from w c) (new_groups w c) v
      × (((n i : ℕ) → v.area n i ≡ w.area n i) × ((n : ℕ) → Full w n → n ≢ w.home c → HasNone w n c (coalesced_from w c) v)))
  can_regroup = (u, (regroups, (λ n i. refl, elsewhere)))

can_coalesce : (m : Machine) (c : ℕ) → MachineInvariant m → m.world.lives c ≡ true → received_by_all m.world c < end_of_log m.world c →
    AllHaveEffects (records_between m.world c (coalesced_from m.world c) (end_of_log m.world c)) → (m' : Machine) × IsCoalescing m c m'
can_coalesce m c h lives lacking some =
    let (v, t) = can_regroup m.world c h.sound lives some in (
      record m { world = v },
      record {
        lacking = lacking;
        regroups = t.0;
        elsewhere = t.1.1;
        leases = refl;
        adds = record { history = sym (append-nil m.history); limit = refl; hot = refl };
        keeps = record { members = refl; others = λ n i other. t.1.0 n i };
      },
    )

pub coalesced_can : (m : Machine) (c : ℕ) → MachineInvariant m → client_fault m c ≡ None → received_by_all m.world c < end_of_log m.world c →
    AllHaveEffects (records_between m.world c (coalesced_from m.world c) (end_of_log m.world c)) → (m' : Machine) × Coalescing m c not_yet m'
coalesced_can m c h fine lacking some = grind (arith, can_coalesce, client_runs)

as_coalescing : (m m' : Machine) (c : ℕ) → Syncing m c Dsync (replied Done) m' → Coalescing m c (replied Done) m'
as_coalescing m m' c (is_synced reply fine is e) = is_synced reply fine is e
as_coalescing m m' c (is_replicating fine is e) = cc
as_coalescing m m' c (lacks_memory fine all is same) = cc
as_coalescing m m' c (is_refused r fault is same) = cc

pub coalescing_synced : (m : Machine) (c : ℕ) → MachineInvariant m → client_fault m c ≡ None → received_by_all m.world c ≡ end_of_log m.world c →
    (m' : Machine) × Coalescing m c (replied Done) m'
coalescing_synced m c h fine all =
    let (m', e) = synced_can m c Dsync Pessimistic refl h fine all in
    (m', as_coalescing m m' c e)
