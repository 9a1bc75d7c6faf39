-- What the laws observe of prefixes that are dropped at all nodes.
use Rattle.assise_machine_state.proofs.Common.{◌≡◌, ◌≢◌, ℕ, ◌+◌, ◌-◌, ◌≤◌, true, List, length, drop, refl, ap, sym, subst, ◌∙◌, arith, eq-eqb, cases_Bool}
use Rattle.assise_machine_state.proofs.Common.{cases_eq, ne_eqb, length-drop, nil_from_length, LogRecord, values, NumberedLog, log_end, is_border, border_first}
use Rattle.assise_machine_state.proofs.Common.{from_number, no_log, Drops, WorldInvariant, Full, World, digested_by_all, end_of_log, drop-of_drop}
use Rattle.assise_machine_state.proofs.Common.{digested_by_all-below, digested_by_all-first, least_of-end, least_of-same, received_by_all-below, after_drop}
use Rattle.assise_machine_state.proofs.Common.{first_but, client_in, log_in, is_full_in, own_node, own_seen, world_of, IsNumber, IsMarked, ShapeInvariant}
use Rattle.assise_machine_state.proofs.Common.{StateValue, standings}
use Rattle.assise_model_events.proofs.Shared.LeaseSteps.{clients_after, full_after}
use Rattle.assise_machine_state.proofs.Shared.Fullness.{full_seen, has_log, no_log_in, no_log_there, same_first, seen_full}
use Rattle.assise_machine_state.proofs.Shared.ItemSeen.{each_number}
use Rattle.assise_machine_state.proofs.Shared.LogChanges.{beside_seen, count_seen, inodes_seen, own_changes, own_changes_all, part_seen}
use Rattle.assise_machine_state.proofs.Shared.Marks.{prefix_border, marked_prefix}
use Rattle.assise_machine_state.proofs.Shared.ShapeKept.{AreMarked, kept_marks, shaped_all}
use Rattle.assise_machine_state.proofs.SameObserved.{clients_as, goals_as, leases_as}

-- ---- prefixes are dropped

pub drop_areas : (s : StateValue) (c to n i : ℕ) → (world_of (after_drop s c to)).area n i ≡ (world_of s).area n i
unfolding world_of
drop_areas s c to n i = ap (λ v. values v i) (inodes_seen c (λ l. from_number l to) s.nodes n)

pub none_dropped : (k : ℕ) (rs : List LogRecord) → rs ≡ drop (k - k) rs
none_dropped k rs = (let none : k - k ≡ 0 = omega arith in ap (λ j. drop j rs) (sym none))

digested_by_all-end : (w : World) (c : ℕ) → digested_by_all w c ≤ end_of_log w c
unfolding digested_by_all
digested_by_all-end w c = least_of-end w.full (λ m. w.digested m c) (end_of_log w c)

-- full nodes' logs of a client begin where its own does, they digested only what they received, and each log begins where all
-- digested what went
pub record HasPrefixes (s : StateValue) (c : ℕ) : Type 0 where
  pub first : (n : ℕ) → Full (world_of s) n → (log_in s.nodes n c).log.first ≡ (world_of s).first c
  pub known : (n : ℕ) → Full (world_of s) n → (world_of s).digested n c ≤ (world_of s).received n c
  pub begun : (d : ℕ) → (world_of s).first d ≤ digested_by_all (world_of s) d

pub has_prefixes : (s : StateValue) (c : ℕ) → WorldInvariant (world_of s) → HasPrefixes s c
has_prefixes s c sound = grind (arith, same_first, received_by_all-below, digested_by_all-first)

module _ (s : StateValue) (c to : ℕ) (shape : ShapeInvariant s) (prefixes : HasPrefixes s c) (client : IsNumber s.clients c)
    (from_first : (world_of s).first c ≤ to) (all_digested : to ≤ digested_by_all (world_of s) c) (at_border : (world_of s).border c to ≡ true) where
  abbrev w : World
  w = world_of s

  abbrev w' : World
  w' = world_of (after_drop s c to)

  abbrev f : ℕ → ℕ
  f = first_but w c to

  -- a full node's log of the client begins there, and so does the client's own

  begins : (n : ℕ) → is_full_in (standings s) n ≡ true → log_in (after_drop s c to).nodes n c ≡ from_number (log_in s.nodes n c) to
  begins n full = own_changes c (λ l. from_number l to) s.nodes n (has_log s n c shape full client)

  -- where no node has it, there is nothing to drop
  nowhere : log_in s.nodes (own_node (standings s) (client_in s.clients c)) c ≡ no_log → to ≡ 0
  unfolding end_of_log world_of own_seen
  nowhere none = grind (arith, digested_by_all-end)

  own_begins : own_seen (after_drop s c to) c ≡ from_number (own_seen s c) to
  unfolding own_seen
  own_begins = grind (arith, cases_Bool, begins, no_log_there, own_changes_all, nowhere)

  beside : (n d : ℕ) → d ≢ c → log_in (after_drop s c to).nodes n d ≡ log_in s.nodes n d
  beside n d other = beside_seen c (λ l. from_number l to) s.nodes n d client.some other

  own_beside : (d : ℕ) → d ≢ c → own_seen (after_drop s c to) d ≡ own_seen s d
  unfolding own_seen
  own_beside d other = beside (own_node (standings s) (client_in s.clients d)) d other

  -- ---- its shape

  -- all logs of the client begin there then, in its groups
  marked_here : AreMarked s → (n : ℕ) → IsMarked (is_border (own_seen (after_drop s c to) c).log) (log_in (after_drop s c to).nodes n c).log
  unfolding world_of
  marked_here all n = grind (arith, own_begins, cases_Bool, seen_full, begins, marked_prefix, no_log_in, nil_from_length, count_seen)

  marked_now : AreMarked s → AreMarked (after_drop s c to)
  marked_now all n d = grind (arith, each_number, marked_here, kept_marks, own_beside, beside)

  pub drop_shaped : ShapeInvariant (after_drop s c to)
  drop_shaped = shaped_all s c (λ l. from_number l to) shape (λ l. refl) (λ l. refl) marked_now

  -- ---- of all clients

  f_here : f c ≡ to
  f_here = rw (eq-eqb c c refl) refl

  f_else : (d : ℕ) → d ≢ c → f d ≡ w.first d
  f_else d other = rw (ne_eqb d c other) refl

  -- a statement of each client holds where it holds of this one and of the others
  each : (P : ℕ → ℕ → Type 0) → P c to → ((d : ℕ) → d ≢ c → P d (w.first d)) → (d : ℕ) → P d (f d)
  each P here else d = each_number (λ e. P e (f e)) c d (subst (P c) (sym f_here) here) (λ other. subst (P d) (sym (f_else d other)) (else d other))

  records_now : (d : ℕ) → w'.records d ≡ drop (f d - w.first d) (w.records d)
  unfolding world_of
  records_now = each (λ d k. w'.records d ≡ drop (k - w.first d) (w.records d))
      (ap (λ x. x.log.records) own_begins)
      (λ d other. ap (λ x. x.log.records) (own_beside d other) ∙ none_dropped (w.first d) (w.records d))

  log_now : (n d : ℕ) → Full w n → w'.log n d ≡ drop (f d - w.first d) (w.log n d)
  unfolding world_of
  log_now n d full = grind (arith, each, begins, full_seen, beside, none_dropped)

  -- a prefix that goes leaves the end
  ends : (first cut : ℕ) (rs : List LogRecord) → first ≤ cut → cut ≤ first + length rs → cut + length (drop (cut - first) rs) ≡ first + length rs
  ends first cut rs low high =
      (let left : length (drop (cut - first) rs) ≡ length rs - (cut - first) = length-drop (cut - first) rs in omega (arith, low, high, left))

  received_now : (n d : ℕ) → Full w n → w'.received n d ≡ w.received n d
  unfolding world_of
  received_now n d full =
      let l : NumberedLog = (log_in s.nodes n c).log in
      let low : l.first ≤ to = subst (λ k. k ≤ to) (sym (prefixes.first n full)) from_first in
      let high : to ≤ log_end l = omega (arith, all_digested, digested_by_all-below w n c full, prefixes.known n full) in
      each_number (λ e. w'.received n e ≡ w.received n e) c d
      (ap (λ x. log_end x.log) (begins n (full_seen s n full)) ∙ ends l.first to l.records low high) (λ other. ap (λ x. log_end x.log) (beside n d other))

  border_now : (d k : ℕ) → f d ≤ k → w'.border d k ≡ w.border d k
  unfolding world_of
  border_now d k low = grind (arith, cases_eq, own_begins, prefix_border, f_here, own_beside)

  pub dropped_prefixes : Drops w f w'
  unfolding world_of
  dropped_prefixes =
      let low : (d : ℕ) → w.first d ≤ f d = each (λ d k. w.first d ≤ k) from_first (λ d other. omega arith) in
      let high : (d : ℕ) → f d ≤ digested_by_all w d = each (λ d k. k ≤ digested_by_all w d) all_digested (λ d other. prefixes.begun d) in
      let border_at : (d : ℕ) → w.border d (f d) ≡ true =
      each (λ d k. w.border d k ≡ true) at_border (λ d other. border_first (own_seen s d).log (own_seen s d).log.first (omega arith)) in
      let first : (d : ℕ) → w'.first d ≡ f d =
      each (λ d k. w'.first d ≡ k) (ap (λ x. x.log.first) own_begins) (λ d other. ap (λ x. x.log.first) (own_beside d other)) in
      let digested = part_seen c (λ l. from_number l to) (λ x. x.digested) in
      search (records_now, border_now, log_now, received_now, digested, drop_areas, clients_as, goals_as, leases_as) parts 3

pub dropped : (s : StateValue) (c to : ℕ) → ShapeInvariant s → WorldInvariant (world_of s) → IsNumber s.clients c → (world_of s).first c ≤ to →
    to ≤ digested_by_all (world_of s) c → (world_of s).border c to ≡ true →
    Drops (world_of s) (first_but (world_of s) c to) (world_of (after_drop s c to))
dropped s c to shape sound client low high border = dropped_prefixes s c to shape (has_prefixes s c sound) client low high border

-- ---- one after another

-- where the places end, and what all full nodes have digested, stays

module _ (w v : World) (f : ℕ → ℕ) (prefix : Drops w f v) where
  same_end : (c : ℕ) → end_of_log v c ≡ end_of_log w c
  unfolding end_of_log
  same_end c = grind (arith, digested_by_all-end, length-drop)

  pub same_digested : (c : ℕ) → digested_by_all v c ≡ digested_by_all w c
  unfolding digested_by_all
  same_digested c = rw (same_end c, prefix.full)
      (least_of-same w.full (λ m. v.digested m c) (λ m. w.digested m c) (end_of_log w c) (λ m full. prefix.digested m c full))

module _ (w v u : World) (f g : ℕ → ℕ) (prefix : Drops w f v) (next : Drops v g u) where
  still_full : (n : ℕ) → Full w n → Full v n
  still_full n full = full_after w v n prefix.full full

  low_both : (c : ℕ) → f c ≤ g c
  low_both c = subst (λ k. k ≤ g c) (prefix.first c) (next.low c)

  both_dropped : (c : ℕ) (rs : List LogRecord) → drop (g c - v.first c) (drop (f c - w.first c) rs) ≡ drop (g c - w.first c) rs
  both_dropped c rs = grind (arith, low_both, drop-of_drop)

  pub dropped_twice : Drops w g u
  dropped_twice =
      let high : (c : ℕ) → g c ≤ digested_by_all w c = λ c. subst (λ k. g c ≤ k) (same_digested w v f prefix c) (next.high c) in
      let border_at : (c : ℕ) → w.border c (g c) ≡ true = λ c. sym (prefix.border c (g c) (low_both c)) ∙ next.border_at c in
      search (still_full, low_both, both_dropped, clients_after, arith) parts 3
