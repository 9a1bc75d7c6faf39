-- Last records give way to others with the same net effect.
use Rattle.assise_model_world.proofs.Common.{◌≡◌, ℕ, zero, suc, ◌+◌, ◌-◌, ◌<◌, ◌≤◌, inl, inr, true, List, [], ◌∷◌, ◌++◌, refl, ap, sym, ◌∙◌, subst, ◌||◌, arith}
use Rattle.assise_model_world.proofs.Common.{take, length, take_all, take-append-le, take-take, cases_eq, or_cases, cases_lt, opening_tree, AreAnswered}
use Rattle.assise_model_world.proofs.Common.{LogRecord, all_effects, call_of, Ascending, all_effects-append, ascending-append, touched, contains, SameNetEffect}
use Rattle.assise_model_world.proofs.Common.{late_value, AllMakeNew, exchanges, NumbersAscend, below, Unseen, Coalesces, NoneFalls, WorldInvariant, AreDropped}
use Rattle.assise_model_world.proofs.Common.{StandFor, Stands, Guarded, Compatible, IsOrdered, Areas, CallsInvariant, KeepsLeases, World, Full, opening_values}
use Rattle.assise_model_world.proofs.Common.{least_of, end_of_log, digested_by_all, received_by_all, records_between, call_at, first_undigested_at}
use Rattle.assise_model_world.proofs.Common.{first_undigested, first_unreplicated, steps, value_below, value_after-append, contains-both}
use Rattle.assise_model_world.proofs.Lists.{unseen-raise, below-same}
use Rattle.assise_model_world.proofs.Shared.Logs.{at_mono, take-of_take, take-of_append, length-both, drop-prefix, contains-take, at-take}
use Rattle.assise_model_world.proofs.Shared.WorldObserved.{least_of-same, least_of-most, least_of-below}
use Rattle.assise_model_world.proofs.Shared.WorldObserved.{least_of-above, least_of-end, part_of, digested_by_all-first}
use Rattle.assise_model_world.proofs.Shared.WorldObserved.{first-received_by_all, part-whole, part-append, part_moves}
use Rattle.assise_model_world.proofs.Shared.WorldObserved.{call_at-same, steps-same, end-else, part-else}
use Rattle.assise_model_world.proofs.Shared.WorldObserved.{area_at}
use Rattle.assise_model_world.proofs.Between.{digested_by_all-received_by_all}
use Rattle.assise_model_world.proofs.Shared.QuietSteps.{held-same, spelled-same, are_made-same, numbered-same, counted-same}
use Rattle.assise_model_world.proofs.Shared.Logs.{take-all, at-before, at-seam}

length-prefix : (k : ℕ) (rs : List LogRecord) → k ≤ length rs → length (take k rs) ≡ k
length-prefix zero rs h = refl
length-prefix (suc k) [] h = absurd (omega arith)
length-prefix (suc k) (r ∷ rs) h = ap suc (length-prefix k rs (omega arith))

ascending-cut : (rs : List LogRecord) (n d : ℕ) → Ascending rs d → Ascending (take n rs) (call_of rs n d)
ascending-cut [] n d h = elim n as (λ n. Ascending (take {A = LogRecord} n []) d) [ zero ↦ tt | suc n ↦ tt ]
ascending-cut (r ∷ rs) zero d h = tt
ascending-cut (r ∷ []) (suc n) d h = (elim n as (λ n. r.call < call_of (take {A = LogRecord} n []) 0 d) [ zero ↦ h.0 | suc n ↦ h.0 ], ascending-cut [] n d tt)
ascending-cut (r ∷ (q ∷ rs)) (suc n) d h =
    (elim n as (λ n. r.call < call_of (take n (q ∷ rs)) 0 (call_of (q ∷ rs) n d)) [ zero ↦ h.0 | suc n ↦ h.0 ], ascending-cut (q ∷ rs) n d h.1)

in_end : (w : World) (c s : ℕ) → s ≤ end_of_log w c → s - w.first c ≤ length (w.records c)
unfolding end_of_log
in_end w c s h = omega arith

prefix-length : (w w' : World) (c s : ℕ) (new : List LogRecord) (was : ℕ → ℕ) → CallsInvariant w → Coalesces w c s new was w' →
    length (take (s - w.first c) (w.records c)) ≡ s - w.first c
prefix-length w w' c s new was so e = grind (arith, length-prefix, in_end)

end-coalesce : (w w' : World) (c s : ℕ) (new : List LogRecord) (was : ℕ → ℕ) → CallsInvariant w → Coalesces w c s new was w' → end_of_log w' c ≡ s + length new
unfolding end_of_log
end-coalesce w w' c s new was so e = grind
    (arith, length-both (take (s - w.first c) (w.records c)) new, prefix-length w w' c s new was so e, first-received_by_all w so c)

call_at-coalesce : (w w' : World) (c s : ℕ) (new : List LogRecord) (was : ℕ → ℕ) → CallsInvariant w → Coalesces w c s new was w' → (k : ℕ) → w.first c ≤ k →
    k ≤ s → call_at w' c k ≡ call_at w c k
unfolding call_at
call_at-coalesce w w' c s new was so e k low high =
    let n : ℕ = s - w.first c in
    let len : length (take n (w.records c)) ≡ n = prefix-length w w' c s new was so e in
    rw (e.tail.first c, e.tail.records_own, e.tail.next c)
    (elim (cases_lt k s) [
      | inl h ↦ at-before (take n (w.records c)) new (k - w.first c) (w.next c) (omega (arith, len)) ∙ at-take (w.records c) n (k - w.first c) (w.next c)
          (omega arith)
      | inr h ↦
          let is : k - w.first c ≡ length (take n (w.records c)) = omega (arith, len) in
          let ks : k ≡ s = omega arith in
          ap (λ j. call_of (take n (w.records c) ++ new) j (w.next c)) is ∙ at-seam (take n (w.records c)) new (w.next c) ∙ e.begins
          ∙ ap (λ j. call_of (w.records c) (j - w.first c) (w.next c)) (sym ks)
    ])

part-before : (w w' : World) (c s : ℕ) (new : List LogRecord) (was : ℕ → ℕ) → CallsInvariant w → Coalesces w c s new was w' → (j k : ℕ) → w.first c ≤ j →
    j ≤ k → k ≤ s → records_between w' c j k ≡ records_between w c j k
unfolding records_between
part-before w w' c s new was so e j k low le high = grind (arith, prefix-length w w' c s new was so e, take-of_append, take-of_take)

part-new : (w w' : World) (c s : ℕ) (new : List LogRecord) (was : ℕ → ℕ) → CallsInvariant w → Coalesces w c s new was w' → (k : ℕ) → k ≡ s + length new →
    records_between w' c s k ≡ new
unfolding records_between
part-new w w' c s new was so e k is = grind (arith, prefix-length w w' c s new was so e, drop-prefix, take-all new (k - s) (omega arith))

-- what is between two places behind s, and what a border was
was_low : (w w' : World) (c s : ℕ) (new : List LogRecord) (was : ℕ → ℕ) → Coalesces w c s new was w' → (k : ℕ) → s ≤ k → s ≤ was k
was_low w w' c s new was e k h = omega (arith, e.was_here, e.was_ascends s k h)

was_high : (w w' : World) (c s : ℕ) (new : List LogRecord) (was : ℕ → ℕ) → Coalesces w c s new was w' → (k : ℕ) → k ≤ end_of_log w' c → was k ≤ end_of_log w c
was_high w w' c s new was e k h = omega (arith, e.was_end, e.was_ascends k (end_of_log w' c) h)

s_border : (w w' : World) (c s : ℕ) (new : List LogRecord) (was : ℕ → ℕ) → Coalesces w c s new was w' → w'.border c s ≡ true
s_border w w' c s new was e = e.tail.border_old s (omega arith) ∙ e.at_border

-- a part that stands for the same calls as another, which has the same net effect and touches the same
record Becomes (w w' : World) (c j k j' k' : ℕ) : Type 0 where
  net : SameNetEffect (all_effects (records_between w' c j k)) (all_effects (records_between w c j' k'))
  touch : (i : ℕ) → contains (touched (all_effects (records_between w' c j k))) i ≡ contains (touched (all_effects (records_between w c j' k'))) i
  from : call_at w' c j ≡ call_at w c j'
  to : call_at w' c k ≡ call_at w c k'
  same : steps w' ≡ steps w

part_becomes : (w w' : World) (c j k j' k' : ℕ) → Becomes w w' c j k j' k' → StandFor w c j' k' → StandFor w' c j k
part_becomes w w' c j k j' k' b t = record {
  value = grind arith;
  touch = λ i q. rw (b.from, b.to, b.same) (t.touch i (sym (b.touch i) ∙ q));
}

-- behind s
stands-behind : (w w' : World) (c s : ℕ) (new : List LogRecord) (was : ℕ → ℕ) → CallsInvariant w → Coalesces w c s new was w' → (j k : ℕ) →
    w'.border c j ≡ true → w'.border c k ≡ true →
    s ≤ j → j ≤ k → k ≤ end_of_log w' c → StandFor w' c j k
stands-behind w w' c s new was so e j k bj bk low le high =
    part_becomes w w' c j k (was j) (was k)
    (search (e.net j k bj bk low le high, e.same_call j low (omega arith) bj, e.same_call k (omega arith) high bk, steps-same w w' e.tail.calls, low, arith)
    parts 3)
    (part_of w c (was j) (was k) so (e.was_border j low (omega arith) bj) (e.was_border k (omega arith) high bk)
    (omega (arith, first-received_by_all w so c, e.tail.low, was_low w w' c s new was e j low)) (e.was_ascends j k le) (was_high w w' c s new was e k high))

-- from a border before s to one behind it
stands-over : (w w' : World) (c s : ℕ) (new : List LogRecord) (was : ℕ → ℕ) → CallsInvariant w → Coalesces w c s new was w' → (j k : ℕ) → w.border c j ≡ true →
    w'.border c k ≡ true →
    w.first c ≤ j → j ≤ s → s ≤ k → k ≤ end_of_log w' c → StandFor w' c j k
stands-over w w' c s new was so e j k bj bk low le past high =
    let bs : w'.border c s ≡ true = s_border w w' c s new was e in
    let low' : w'.first c ≤ j = rw (e.tail.first c) low in
    let K : ℕ = was k in
    let past_old : s ≤ K = was_low w w' c s new was e k past in
    let now_is : records_between w' c j k ≡ records_between w c j s ++ records_between w' c s k =
    part-append w' c j s k low' le past ∙ ap (λ l. l ++ records_between w' c s k) (part-before w w' c s new was so e j s low le (omega arith)) in
    let was_is : records_between w c j K ≡ records_between w c j s ++ records_between w c s K = part-append w c j s K low le past_old in
    let net : SameNetEffect (all_effects (records_between w' c s k)) (all_effects (records_between w c s K)) =
    grind arith in
    let touch : (i : ℕ) → contains (touched (all_effects (records_between w' c s k))) i ≡ contains (touched (all_effects (records_between w c s K))) i =
    grind arith in
    part_becomes w w' c j k j K (record {
      net = grind (arith, all_effects-append, value_after-append);
      touch = grind (arith, all_effects-append, contains-both);
      from = call_at-coalesce w w' c s new was so e j low le;
      to = e.same_call k past high bk;
      same = steps-same w w' e.tail.calls;
    })
    (part_of w c j K so bj (e.was_border k past high bk) low (omega (arith, past_old)) (was_high w w' c s new was e k high))

of_own : (w w' : World) (c s : ℕ) (new : List LogRecord) (was : ℕ → ℕ) → CallsInvariant w → Coalesces w c s new was w' → (j k : ℕ) → j ≤ k →
    w'.border c j ≡ true → w'.border c k ≡ true → w'.first c ≤ j → k ≤ end_of_log w' c → StandFor w' c j k
of_own w w' c s new was so e j k le bj bk low high =
    let low_w : w.first c ≤ j = rw (e.tail.first c) at low in
    elim (cases_lt s k) [
      | inl after_s ↦
          elim (cases_lt s j) [
            | inl past ↦ stands-behind w w' c s new was so e j k bj bk (omega arith) le high
            | inr before ↦ stands-over w w' c s new was so e j k (sym (e.tail.border_old j before) ∙ bj) bk low_w before (omega arith) high
          ]
      | inr before ↦
          grind (
            arith,
            part_moves w w' c j k (part-before w w' c s new was so e j k low_w le before)
                (call_at-coalesce w w' c s new was so e j low_w (omega arith)) (call_at-coalesce w w' c s new was so e k (omega arith) before)
                (steps-same w w' e.tail.calls)
                (part_of w c j k so (sym (e.tail.border_old j (omega arith)) ∙ bj) (sym (e.tail.border_old k before) ∙ bk) low_w le
                (omega (arith, before, e.tail.high))),
          )
    ]

-- what is touched from s on stays
pub touch_all : (w w' : World) (c s : ℕ) (new : List LogRecord) (was : ℕ → ℕ) → CallsInvariant w → Coalesces w c s new was w' → (i : ℕ) →
    contains (touched (all_effects new)) i ≡ contains (touched (all_effects (records_between w c s (end_of_log w c)))) i
touch_all w w' c s new was so e i =
    let z : end_of_log w' c ≡ s + length new = end-coalesce w w' c s new was so e in
    ap (λ rs. contains (touched (all_effects rs)) i) (sym (part-new w w' c s new was so e (end_of_log w' c) z))
    ∙ e.touch i s (end_of_log w' c) (s_border w w' c s new was e) e.border_end (omega arith) (omega (arith, z)) (omega arith)
    ∙ ap (λ x. contains (touched (all_effects (records_between w c x (was (end_of_log w' c))))) i) e.was_here
    ∙ ap (λ x. contains (touched (all_effects (records_between w c s x))) i) e.was_end

stands-coalesce : (w w' : World) (c s : ℕ) (new : List LogRecord) (was : ℕ → ℕ) → CallsInvariant w → Coalesces w c s new was w' → (d : ℕ) → Stands w' d
unfolding Stands
stands-coalesce w w' c s new was so e d j k bj bk low le high =
    elim (cases_eq d c) [
      | inl own ↦
          grind (arith, of_own w w' c s new was so e j k le)
      | inr other ↦
          let same : end_of_log w' d ≡ end_of_log w d = end-else w w' d (e.tail.first d) (e.tail.records_else d other) in
          part_moves w w' d j k
          (part-else w w' d j k (e.tail.first d) (e.tail.records_else d other))
          (call_at-same w w' d j (e.tail.records_else d other) (e.tail.first d) (e.tail.next d))
          (call_at-same w w' d k (e.tail.records_else d other) (e.tail.first d) (e.tail.next d))
          (steps-same w w' e.tail.calls)
          (part_of w d j k so (sym (e.tail.border_else d j other) ∙ bj) (sym (e.tail.border_else d k other) ∙ bk) (rw (e.tail.first d) at low) le
          (rw same at high))
    ]

received_by_all-coalesce : (w w' : World) (c s : ℕ) (new : List LogRecord) (was : ℕ → ℕ) → CallsInvariant w → Coalesces w c s new was w' → (d : ℕ) →
    received_by_all w d ≤ received_by_all w' d
unfolding received_by_all
received_by_all-coalesce w w' c s new was so e d =
    elim (cases_eq d c) [
      | inl own ↦ subst (λ d. least_of w.full (λ n. w.received n d) (end_of_log w d) ≤ least_of w'.full (λ n. w'.received n d) (end_of_log w' d)) (sym own)
          (let a : least_of w.full (λ n. w.received n c) (end_of_log w c) ≤ s = low_of w c s e.tail.low in
          let z : end_of_log w' c ≡ s + length new = end-coalesce w w' c s new was so e in
          least_of-above w'.full (λ n. w'.received n c) (end_of_log w' c) (least_of w.full (λ n. w.received n c) (end_of_log w c)) (omega (arith, a, z))
          (grind (arith, least_of-below)))
      | inr other ↦
          search (least_of-above, end-else, least_of-end, least_of-below, arith) parts 3
    ]
  where
    low_of : (w : World) (c s : ℕ) → received_by_all w c ≤ s → least_of w.full (λ n. w.received n c) (end_of_log w c) ≤ s
    low_of w c s h = h

digested_by_all-coalesce : (w w' : World) (c s : ℕ) (new : List LogRecord) (was : ℕ → ℕ) → CallsInvariant w → Coalesces w c s new was w' → (d : ℕ) →
    digested_by_all w d ≤ digested_by_all w' d
unfolding digested_by_all
digested_by_all-coalesce w w' c s new was so e d =
    least_of-above w'.full (λ n. w'.digested n d) (end_of_log w' d) (least_of w.full (λ n. w.digested n d) (end_of_log w d))
    (elim (cases_eq d c) [
      | inl own ↦ subst (λ d. least_of w.full (λ n. w.digested n d) (end_of_log w d) ≤ end_of_log w' d) (sym own)
          (omega (arith, digested_by_all-received_by_all w so c, e.tail.low, end-coalesce w w' c s new was so e))
      | inr other ↦ rw (end-else w w' d (e.tail.first d) (e.tail.records_else d other)) (least_of-end w.full (λ n. w.digested n d) (end_of_log w d))
    ])
    (grind (arith, least_of-below))

-- call numbers up to what all have, stay
call_at-stays : (w w' : World) (c s : ℕ) (new : List LogRecord) (was : ℕ → ℕ) → CallsInvariant w → Coalesces w c s new was w' → (d k : ℕ) → w.first d ≤ k →
    k ≤ received_by_all w d → call_at w' d k ≡ call_at w d k
call_at-stays w w' c s new was so e d k low high =
    elim (cases_eq d c) [
      | inl own ↦ subst (λ d. w.first d ≤ k → k ≤ received_by_all w d → call_at w' d k ≡ call_at w d k) (sym own)
          (λ l h. call_at-coalesce w w' c s new was so e k l (omega (arith, h, e.tail.low))) low high
      | inr other ↦ call_at-same w w' d k (e.tail.records_else d other) (e.tail.first d) (e.tail.next d)
    ]

ascending-coalesce : (w w' : World) (c s : ℕ) (new : List LogRecord) (was : ℕ → ℕ) → CallsInvariant w → Coalesces w c s new was w' → (d : ℕ) →
    Ascending (w'.records d) (w'.next d)
unfolding call_at
ascending-coalesce w w' c s new was so e d = grind (arith, cases_eq, ascending-append, ascending-cut)

places : (w : World) (c j k : ℕ) → Ascending (w.records c) (w.next c) → j ≤ k → call_at w c j ≤ call_at w c k
unfolding call_at
places w c j k r le = at_mono (w.records c) (j - w.first c) (k - w.first c) (w.next c) r (omega arith)

first_undigested-coalesce : (w w' : World) (c s : ℕ) (new : List LogRecord) (was : ℕ → ℕ) → CallsInvariant w → Coalesces w c s new was w' → (d : ℕ) →
    first_undigested w d ≤ first_undigested w' d
unfolding first_undigested
first_undigested-coalesce w w' c s new was so e d = grind (
  arith,
  places w' d (digested_by_all w d) (digested_by_all w' d) (ascending-coalesce w w' c s new was so e d)
      (digested_by_all-coalesce w w' c s new was so e d),
  call_at-stays w w' c s new was so e d (digested_by_all w d) (digested_by_all-first w so d)
      (digested_by_all-received_by_all w so d),
)

of_part : (w : World) (c s i : ℕ) → w.first c ≤ s → s ≤ end_of_log w c → contains (touched (all_effects (records_between w c s (end_of_log w c)))) i ≡ true →
    contains (touched (all_effects (w.records c))) i ≡ true
of_part w c s i low high h = grind (
  arith,
  part-whole w c,
  part-append w c (w.first c) s (end_of_log w c) (omega arith) low high,
  all_effects-append (records_between w c (w.first c) s)
      (records_between w c s (end_of_log w c)),
  contains-both (all_effects (records_between w c (w.first c) s))
      (all_effects (records_between w c s (end_of_log w c))) i,
)

guarded-coalesce : (w w' : World) (c s : ℕ) (new : List LogRecord) (was : ℕ → ℕ) → CallsInvariant w → Coalesces w c s new was w' → Guarded w'
unfolding Guarded
guarded-coalesce w w' c s new was so e d i h =
    elim (cases_eq d c) [
      | inl own ↦ subst (λ d. contains (touched (all_effects (w'.records d))) i ≡ true → w'.writes d i ≡ true) (sym own)
          (λ h. e.tail.leases.writes c i ∙ so.guarded c i
          (let n : ℕ = s - w.first c in
          let split : (contains (touched (all_effects (take n (w.records c)))) i || contains (touched (all_effects new)) i) ≡ true =
          grind (arith, contains-both, all_effects-append) in
          elim (or_cases (contains (touched (all_effects (take n (w.records c)))) i) (contains (touched (all_effects new)) i) split) [
            | inl t ↦ contains-take (w.records c) n i t
            | inr t ↦ of_part w c s i (omega (arith, first-received_by_all w so c, e.tail.low)) e.tail.high (sym (touch_all w w' c s new was so e i) ∙ t)
          ])) h
      | inr other ↦ e.tail.leases.writes d i ∙ so.guarded d i (rw (e.tail.records_else d other) at h)
    ]

compatible-coalesce : (w w' : World) → CallsInvariant w → KeepsLeases w w' → Compatible w'
unfolding Compatible
compatible-coalesce w w' s e c d i other wr ho = s.compatible c d i other (sym (e.writes c i) ∙ wr) (sym (e.holds d i) ∙ ho)

areas-coalesce : (w w' : World) (c s : ℕ) (new : List LogRecord) (was : ℕ → ℕ) → CallsInvariant w → Coalesces w c s new was w' → Areas w'
unfolding Areas value_below first_undigested_at
areas-coalesce w w' c s new was so e m h i =
    let full : Full w m = subst (λ ns. contains ns m ≡ true) e.tail.full h in
    e.tail.area m i full ∙ area_at w m i so full
    ∙ below-same (first_undigested_at w m) (λ d. call_at w' d (w'.digested m d)) i (opening_values i) (steps w)
    (λ d. sym (ap (λ k. call_at w' d k) (e.tail.digested m d full) ∙ call_at-stays w w' c s new was so e d (w.digested m d) (so.order m d full).begun
    (so.order m d full).replicated))
    ∙ ap (λ xs. late_value (below (λ d. call_at w' d (w'.digested m d))) i (opening_values i) xs) (sym (steps-same w w' e.tail.calls))

-- a border among what all have, or of another client, stays one
border-stays : (w w' : World) (c s : ℕ) (new : List LogRecord) (was : ℕ → ℕ) → CallsInvariant w → Coalesces w c s new was w' → (d k : ℕ) →
    k ≤ received_by_all w d → w'.border d k ≡ w.border d k
border-stays w w' c s new was so e d k high = grind (arith, cases_eq)

received_good : (w w' : World) (c s : ℕ) (new : List LogRecord) (was : ℕ → ℕ) → CallsInvariant w → Coalesces w c s new was w' → (m d : ℕ) → Full w m →
    (w'.received m d ≤ end_of_log w' d) × (w'.border d (w'.received m d) ≡ true)
received_good w w' c s new was so e m d full =
    elim (cases_eq d c) [
      | inl own ↦ grind (arith, end-coalesce w w' c s new was so e)
      | inr other ↦ search (end-else, arith) parts 3
    ]

end_good : (w w' : World) (c s : ℕ) (new : List LogRecord) (was : ℕ → ℕ) → CallsInvariant w → Coalesces w c s new was w' → (d : ℕ) →
    w'.border d (end_of_log w' d) ≡ true
end_good w w' c s new was so e d =
    elim (cases_eq d c) [
      | inl own ↦ subst (λ d. w'.border d (end_of_log w' d) ≡ true) (sym own) e.border_end
      | inr other ↦ e.tail.border_else d (end_of_log w' d) other
          ∙ ap (λ k. w.border d k) (end-else w w' d (e.tail.first d) (e.tail.records_else d other)) ∙ so.end_border d
    ]

order-coalesce : (w w' : World) (c s : ℕ) (new : List LogRecord) (was : ℕ → ℕ) → CallsInvariant w → Coalesces w c s new was w' → (m d : ℕ) → Full w' m →
    IsOrdered w' m d
order-coalesce w w' c s new was so e m d h =
    let full : Full w m = subst (λ ns. contains ns m ≡ true) e.tail.full h in
    let o : IsOrdered w m d = so.order m d full in
    record {
      begun = rw (e.tail.first d, e.tail.digested m d full) o.begun;
      replicated = rw (e.tail.digested m d full) (omega (arith, o.replicated, received_by_all-coalesce w w' c s new was so e d));
      known = (received_good w w' c s new was so e m d full).0;
      digested_border = ap (λ k. w'.border d k) (e.tail.digested m d full)
          ∙ border-stays w w' c s new was so e d (w.digested m d) o.replicated ∙ o.digested_border;
      received_border = (received_good w w' c s new was so e m d full).1;
    }

coalesce_coherent : (w w' : World) (c s : ℕ) (new : List LogRecord) (was : ℕ → ℕ) → CallsInvariant w → Coalesces w c s new was w' → CallsInvariant w'
coalesce_coherent w w' c s new was so e = record {
  answered = subst (λ xs. AreAnswered opening_tree (exchanges xs)) (sym e.tail.calls) so.answered;
  make_new = subst (AllMakeNew opening_values) (sym e.tail.calls) so.make_new;
  spelled = spelled-same w w' e.tail.calls so;
  fresh_numbers = are_made-same w w' e.tail.calls e.tail.made (rw e.tail.clients.clients (omega arith)) so;
  fresh_calls = numbered-same w w' e.tail.calls e.tail.made so;
  fewer = λ c. rw (e.tail.made c) (so.fewer c);
  counted = counted-same w w' e.tail.calls e.tail.next (rw e.tail.clients.clients (omega arith)) so;
  ascends = subst NumbersAscend (sym e.tail.calls) so.ascends;
  stands = stands-coalesce w w' c s new was so e;
  ascending = ascending-coalesce w w' c s new was so e;
  first_border = λ d. ap (λ k. w'.border d k) (e.tail.first d)
      ∙ border-stays w w' c s new was so e d (w.first d) (first-received_by_all w so d) ∙ so.first_border d;
  end_border = end_good w w' c s new was so e;
  order = order-coalesce w w' c s new was so e;
  guarded = guarded-coalesce w w' c s new was so e;
  compatible = compatible-coalesce w w' so e.tail.leases;
  unseen = subst (λ xs. Unseen (first_undigested w') xs) (sym (steps-same w w' e.tail.calls))
      (unseen-raise (first_undigested w) (first_undigested w') (steps w) (first_undigested-coalesce w w' c s new was so e) so.unseen);
  areas = areas-coalesce w w' c s new was so e;
}

falls : (w w' : World) (c s : ℕ) (new : List LogRecord) (was : ℕ → ℕ) → CallsInvariant w → Coalesces w c s new was w' → NoneFalls w w'
unfolding first_unreplicated
falls w w' c s new was so e = record {
  unreplicated = λ d.
      let up : call_at w' d (received_by_all w d) ≤ call_at w' d (received_by_all w' d) = places w' d (received_by_all w d) (received_by_all w' d)
      (ascending-coalesce w w' c s new was so e d) (received_by_all-coalesce w w' c s new was so e d) in
      let is : call_at w' d (received_by_all w d) ≡ call_at w d (received_by_all w d) = call_at-stays w w' c s new was so e d (received_by_all w d)
      (first-received_by_all w so d) (omega arith) in
      omega (arith, up, is);
  undigested = first_undigested-coalesce w w' c s new was so e;
}

pub coalesce_falls : (w w' : World) (c s : ℕ) (new : List LogRecord) (was : ℕ → ℕ) → WorldInvariant w → Coalesces w c s new was w' → NoneFalls w w'
coalesce_falls w w' c s new was so e = falls w w' c s new was so.coherent e

-- ---- nodes' logs

-- of the client's log the prefix that a node has of the part that stays
prefix-stays : (w w' : World) (c s : ℕ) (new : List LogRecord) (was : ℕ → ℕ) → WorldInvariant w → Coalesces w c s new was w' → (n : ℕ) → Full w n →
    w.received n c ≤ s →
    take (w.received n c - w.first c) (w'.records c) ≡ w.log n c
prefix-stays w w' c s new was so e n f low = grind (arith, prefix-length w w' c s new was so.coherent e, take-append-le, take-take)

whole-prefix : (w' : World) (c : ℕ) → take (end_of_log w' c - w'.first c) (w'.records c) ≡ w'.records c
unfolding end_of_log
whole-prefix w' c = take_all ((w'.first c + length (w'.records c)) - w'.first c) (w'.records c) (omega arith)

prefix_now : (w w' : World) (c s : ℕ) (new : List LogRecord) (was : ℕ → ℕ) → WorldInvariant w → Coalesces w c s new was w' → (n d : ℕ) → Full w n →
    w'.log n d ≡ take (w'.received n d - w'.first d) (w'.records d)
prefix_now w w' c s new was so e n d f =
    elim (cases_eq d c) [
      | inr other ↦ rw (e.tail.log_else n d f other, e.tail.received_else n d f other, e.tail.first d, e.tail.records_else d other) (so.prefixes n d f)
      | inl own ↦ subst (λ d. w'.log n d ≡ take (w'.received n d - w'.first d) (w'.records d)) (sym own)
          (elim (e.tail.here n f) [
            | inl t ↦ grind (arith, prefix-stays w w' c s new was so e n f t.before)
            | inr t ↦ t.log ∙ sym (ap (λ k. take (k - w'.first c) (w'.records c)) t.received ∙ whole-prefix w' c)
          ])
    ]

pub coalesce_sound : (w w' : World) (c s : ℕ) (new : List LogRecord) (was : ℕ → ℕ) → WorldInvariant w → Coalesces w c s new was w' → WorldInvariant w'
coalesce_sound w w' c s new was so e = record {
  coherent = coalesce_coherent w w' c s new was so.coherent e;
  few_records = search (end-else, arith) parts 3;
  goals = search (end-else, arith) parts 3;
  single = search (end-else, arith) parts 3;
  unused = λ d h. e.tail.next d ∙ so.unused d (omega (arith, e.tail.clients.clients, h));
  held = held-same w w' so e.tail.leases;
  prefixes = λ n d h. prefix_now w w' c s new was so e n d (subst (λ ns. contains ns n ≡ true) e.tail.full h);
  opened = λ d t. rw e.tail.clients.clients (so.opened d (sym (e.tail.clients.lives d) ∙ t));
  homes = λ d t. rw (e.tail.clients.home d, e.tail.full) (so.homes d (sym (e.tail.clients.lives d) ∙ t));
  whole = search (end-else, arith) parts 3;
  left = search (end-else, arith) parts 3;
}

-- the home has digested no more than all have, which stays
pub coalesce_dropped : (w w' : World) (c s : ℕ) (new : List LogRecord) (was : ℕ → ℕ) → WorldInvariant w → AreDropped w → Coalesces w c s new was w' →
    AreDropped w'
unfolding AreDropped digested_by_all
coalesce_dropped w w' c s new was so dropped e d =
    e.tail.first d ∙ dropped d
    ∙ least_of-same w.full (λ n. w.digested n d) (λ n. w'.digested n d) (end_of_log w d) (λ n h. sym (e.tail.digested n d h))
    ∙ elim (cases_eq d c) [
      | inl own ↦ subst (λ d. least_of w.full (λ n. w'.digested n d) (end_of_log w d) ≡ least_of w'.full (λ n. w'.digested n d) (end_of_log w' d)) (sym own)
          shorter
      | inr other ↦ search (end-else, arith) parts 3
    ]
  where
    home : Full w (w.home c)
    home = so.homes c e.tail.lives

    low : w'.digested (w.home c) c ≤ end_of_log w' c
    low = rw (e.tail.digested (w.home c) c home)
        (omega (arith, (so.coherent.order (w.home c) c home).replicated, e.tail.low, end-coalesce w w' c s new was so.coherent e))

    shorter : least_of w.full (λ n. w'.digested n c) (end_of_log w c) ≡ least_of w'.full (λ n. w'.digested n c) (end_of_log w' c)
    shorter =
        sym (least_of-most w.full (λ n. w'.digested n c) (end_of_log w' c) (end_of_log w c) (w.home c) home low e.no_more)
        ∙ ap (λ ns. least_of ns (λ n. w'.digested n c) (end_of_log w' c)) (sym e.tail.full)
