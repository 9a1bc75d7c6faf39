-- What is observed of the machine.
use Rattle.assise_model_world.proofs.Common.{◌≡◌, ℕ, zero, suc, ◌+◌, ◌-◌, ◌<◌, ◌≤◌, ◌≢◌, ◌⊎◌, inl, inr, min, true, false, List, [], ◌∷◌, ◌++◌, Option, refl, ap}
use Rattle.assise_model_world.proofs.Common.{subst, ◌||◌, ◌==◌, arith, take, length, cases_Bool, eqb-true, eq-eqb, ne_eqb, both_ways, cases_lt, LogRecord}
use Rattle.assise_model_world.proofs.Common.{all_effects, call_of, Content, value_after, touched, contains, late_value, raised_at, NumberedCall, Each, below}
use Rattle.assise_model_world.proofs.Common.{window, StandFor, Stands, Counted, Guarded, Compatible, Areas, CallsInvariant, World, Full, IsClient}
use Rattle.assise_model_world.proofs.Common.{opening_values, least_of, end_of_log, digested_by_all, received_by_all, records_between, call_at}
use Rattle.assise_model_world.proofs.Common.{first_undigested_at, first_undigested, first_unreplicated, steps, value_below, late_client, each-always, each-both}
use Rattle.assise_model_world.proofs.Lists.{each-client, each-forall, each-along, value-none}
use Rattle.assise_model_world.proofs.Shared.Logs.{at_mono, at_top, take-sum}

-- the digested_by_all of some numbers

pub least_of-below : (ns : List ℕ) (f : ℕ → ℕ) (d n : ℕ) → contains ns n ≡ true → least_of ns f d ≤ f n
least_of-below [] f d n h = cc
least_of-below (m ∷ ns) f d n h =
    elim (cases_Bool (m == n)) [
      | inl e ↦ subst (λ k. min (f m) (least_of ns f d) ≤ f k) (eqb-true m n e) (omega arith)
      | inr e ↦ (let t : least_of ns f d ≤ f n = least_of-below ns f d n (rw e at h) in omega (arith, t))
    ]

pub least_of-above : (ns : List ℕ) (f : ℕ → ℕ) (d k : ℕ) → k ≤ d → ((n : ℕ) → contains ns n ≡ true → k ≤ f n) → k ≤ least_of ns f d
least_of-above [] f d k h g = h
least_of-above (m ∷ ns) f d k h g =
    let here : k ≤ f m = g m (rw (eq-eqb m m refl) refl) in
    let rest : k ≤ least_of ns f d =
    least_of-above ns f d k h (λ n e. g n (elim (m == n) as (λ b. (b || contains ns n) ≡ true) [ true ↦ refl | false ↦ e ])) in
    omega (arith, here, rest)

pub least_of-end : (ns : List ℕ) (f : ℕ → ℕ) (d : ℕ) → least_of ns f d ≤ d
least_of-end [] f d = omega arith
least_of-end (n ∷ ns) f d = (let t : least_of ns f d ≤ d = least_of-end ns f d in omega (arith, t))

pub least_of-is : (P : ℕ → Type 0) (ns : List ℕ) (f : ℕ → ℕ) (d : ℕ) → P d → ((n : ℕ) → contains ns n ≡ true → P (f n)) → P (least_of ns f d)
least_of-is P [] f d h g = h
least_of-is P (m ∷ ns) f d h g =
    let rest : P (least_of ns f d) = least_of-is P ns f d h (λ n e. g n (elim (m == n) as (λ b. (b || contains ns n) ≡ true) [ true ↦ refl | false ↦ e ])) in
    let here : P (f m) = g m (rw (eq-eqb m m refl) refl) in
    elim (cases_lt (f m) (least_of ns f d)) [
      | inl l ↦ (let e : f m ≡ min (f m) (least_of ns f d) = omega arith in subst P e here)
      | inr l ↦ (let e : least_of ns f d ≡ min (f m) (least_of ns f d) = omega arith in subst P e rest)
    ]

-- two functions that agree on the list have one least number
pub least_of-same : (ns : List ℕ) (f g : ℕ → ℕ) (d : ℕ) → ((n : ℕ) → contains ns n ≡ true → f n ≡ g n) → least_of ns f d ≡ least_of ns g d
least_of-same [] f g d h = refl
least_of-same (m ∷ ns) f g d h =
    let here : f m ≡ g m = h m (rw (eq-eqb m m refl) refl) in
    let rest : least_of ns f d ≡ least_of ns g d =
    least_of-same ns f g d (λ n e. h n (elim (m == n) as (λ b. (b || contains ns n) ≡ true) [ true ↦ refl | false ↦ e ])) in
    rw (here, rest) refl

-- with another end the least is the same, or both are past the lower end
least_of-or : (ns : List ℕ) (f : ℕ → ℕ) (d e : ℕ) → d ≤ e → (least_of ns f d ≡ least_of ns f e) ⊎ ((d ≤ least_of ns f d) × (d ≤ least_of ns f e))
least_of-or [] f d e le = inr (omega arith, le)
least_of-or (m ∷ ns) f d e le = grind (arith, least_of-or ns f d e le)

-- where a node's number is no more than either end, it doesn't matter which end is given
pub least_of-most : (ns : List ℕ) (f : ℕ → ℕ) (d e n : ℕ) → contains ns n ≡ true → f n ≤ d → d ≤ e → least_of ns f d ≡ least_of ns f e
least_of-most [] f d e n h low le = cc
least_of-most (m ∷ ns) f d e n h low le =
    elim (cases_Bool (m == n)) [
      | inl is ↦
          grind (arith, least_of-or)
      | inr other ↦ rw (least_of-most ns f d e n (rw other at h) low le) refl
    ]

-- call numbers ascend along a client's log
pub call_at-mono : (w : World) (c j k : ℕ) → CallsInvariant w → j ≤ k → call_at w c j ≤ call_at w c k
unfolding call_at
call_at-mono w c j k s le = at_mono (w.records c) (j - w.first c) (k - w.first c) (w.next c) (s.ascending c) (omega arith)

pub next-top : (w : World) (c k : ℕ) → CallsInvariant w → call_at w c k ≤ w.next c
unfolding call_at
next-top w c k s = at_top (w.records c) (k - w.first c) (w.next c) (s.ascending c)

pub part_of : (w : World) (c j k : ℕ) → CallsInvariant w → w.border c j ≡ true → w.border c k ≡ true → w.first c ≤ j → j ≤ k → k ≤ end_of_log w c →
    StandFor w c j k
unfolding Stands
part_of w c j k s = s.stands c j k

pub call_at-end : (w : World) (c k : ℕ) → end_of_log w c ≤ k → call_at w c k ≡ w.next c
unfolding call_at end_of_log
call_at-end w c k h = past (w.records c) (k - w.first c) (w.next c) (omega arith)
  where
    past : (rs : List LogRecord) (j d : ℕ) → length rs ≤ j → call_of rs j d ≡ d
    past [] j d h = refl
    past (r ∷ rs) zero d h = absurd (omega arith)
    past (r ∷ rs) (suc j) d h = past rs j d (omega arith)

pub end_is : (w : World) (c : ℕ) → end_of_log w c ≡ w.first c + length (w.records c)
unfolding end_of_log
end_is w c = refl

pub digested_by_all-below : (w : World) (n c : ℕ) → Full w n → digested_by_all w c ≤ w.digested n c
unfolding digested_by_all
digested_by_all-below w n c h = least_of-below w.full (λ m. w.digested m c) (end_of_log w c) n h

pub received_by_all-below : (w : World) (n c : ℕ) → Full w n → received_by_all w c ≤ w.received n c
unfolding received_by_all
received_by_all-below w n c h = least_of-below w.full (λ m. w.received m c) (end_of_log w c) n h

pub received_by_all-end : (w : World) (c : ℕ) → received_by_all w c ≤ end_of_log w c
unfolding received_by_all
received_by_all-end w c = least_of-end w.full (λ m. w.received m c) (end_of_log w c)

pub digested_by_all-first : (w : World) → CallsInvariant w → (c : ℕ) → w.first c ≤ digested_by_all w c
unfolding digested_by_all end_of_log
digested_by_all-first w s c = least_of-above w.full (λ m. w.digested m c) (end_of_log w c) (w.first c) (omega arith) (λ n f. (s.order n c f).begun)

pub first-received_by_all : (w : World) → CallsInvariant w → (c : ℕ) → w.first c ≤ received_by_all w c
unfolding received_by_all end_of_log
first-received_by_all w s c = grind (arith, least_of-above, least_of-below)

-- thresholds in order
pub first_undigested-low : (w : World) (n : ℕ) → CallsInvariant w → Full w n → (c : ℕ) → first_undigested w c ≤ first_undigested_at w n c
unfolding first_undigested first_undigested_at
first_undigested-low w n s f c = call_at-mono w c (digested_by_all w c) (w.digested n c) s (digested_by_all-below w n c f)

pub first_undigested-received_by_all : (w : World) (n : ℕ) → CallsInvariant w → Full w n → (c : ℕ) → first_undigested_at w n c ≤ first_unreplicated w c
unfolding first_unreplicated first_undigested_at
first_undigested-received_by_all w n s f c = call_at-mono w c (w.digested n c) (received_by_all w c) s (s.order n c f).replicated

pub oldest : (w : World) → CallsInvariant w → (c : ℕ) → call_at w c (w.first c) ≤ first_undigested w c
unfolding first_undigested
oldest w s c = call_at-mono w c (w.first c) (digested_by_all w c) s (digested_by_all-first w s c)

pub received_by_all-border : (w : World) → CallsInvariant w → (c : ℕ) → w.border c (received_by_all w c) ≡ true
unfolding received_by_all
received_by_all-border w s c =
    least_of-is (λ k. w.border c k ≡ true) w.full (λ n. w.received n c) (end_of_log w c) (s.end_border c) (λ n h. (s.order n c h).received_border)

first-end : (w : World) (c : ℕ) → w.first c ≤ end_of_log w c
unfolding end_of_log
first-end w c = omega arith

pub part-whole : (w : World) (c : ℕ) → records_between w c (w.first c) (end_of_log w c) ≡ w.records c
unfolding records_between end_of_log
part-whole w c =
    (let z : w.first c - w.first c ≡ 0 = omega arith in
    let n : (w.first c + length (w.records c)) - w.first c ≡ length (w.records c) = omega arith in
    rw (z, n) (all (w.records c)))
  where
    all : (rs : List LogRecord) → take (length rs) rs ≡ rs
    all [] = refl
    all (r ∷ rs) = ap (λ l. r ∷ l) (all rs)

abbrev pub IsCounted : World → NumberedCall → Type 0
IsCounted w x = IsClient w x.client × (x.number < w.next x.client)

pub all_counted : (w : World) → CallsInvariant w → Each (λ x. IsCounted w x.0) (steps w)
unfolding Counted steps
all_counted w s = each-along (IsCounted w) opening_values w.calls s.counted

guard : (w : World) → Guarded w → (c i : ℕ) → contains (touched (all_effects (w.records c))) i ≡ true → w.writes c i ≡ true
unfolding Guarded
guard w h = h

-- where its client doesn't hold the cell for writing, no step that some node has not digested touches it
guarded_of : (w : World) (i : ℕ) → CallsInvariant w → (c : ℕ) →
    Each (λ x. x.0.client ≡ c → first_undigested w c ≤ x.0.number → w.writes c i ≡ false → contains (touched x.1.effects) i ≡ false) (steps w)
guarded_of w i s c =
    elim (cases_Bool (contains (touched (all_effects (w.records c))) i)) [
      | inl e ↦ each-always _ (steps w) (λ x _ _ no. absurd (both_ways (w.writes c i) no (guard w s.guarded c i e)))
      | inr e ↦
          each-both (λ x. window c (call_at w c (w.first c)) (call_at w c (end_of_log w c)) x.0 ≡ true → contains (touched x.1.effects) i ≡ false)
          (λ x. IsCounted w x.0)
          (λ x. x.0.client ≡ c → first_undigested w c ≤ x.0.number → w.writes c i ≡ false → contains (touched x.1.effects) i ≡ false) (steps w)
          (grind (arith, oldest, call_at-end))
          ((part_of w c (w.first c) (end_of_log w c) s (s.first_border c) (s.end_border c) (omega arith) (first-end w c) (omega arith)).touch i
          (rw (part-whole w c) e))
          (all_counted w s)
    ]

-- each step that some node has not digested touches only what its client holds for writing
pub guarded_steps : (w : World) (i : ℕ) → CallsInvariant w →
    Each (λ x. first_undigested w x.0.client ≤ x.0.number → w.writes x.0.client i ≡ false → contains (touched x.1.effects) i ≡ false) (steps w)
guarded_steps w i s =
    each-client (λ c x. first_undigested w c ≤ x.0.number → w.writes c i ≡ false → contains (touched x.1.effects) i ≡ false) (steps w)
    (guarded_of w i s)

pub guarded_all : (w : World) → CallsInvariant w →
    Each (λ x. (i : ℕ) → first_undigested w x.0.client ≤ x.0.number → w.writes x.0.client i ≡ false → contains (touched x.1.effects) i ≡ false) (steps w)
guarded_all w s = each-forall (λ i x. first_undigested w x.0.client ≤ x.0.number → w.writes x.0.client i ≡ false → contains (touched x.1.effects) i ≡ false)
    (steps w) (λ i. guarded_steps w i s)

-- values over a records_between, after the node's own
pub part_value : (w : World) (c j k i : ℕ) (v : Option Content) → CallsInvariant w → w.border c j ≡ true → w.border c k ≡ true → w.first c ≤ j → j ≤ k →
    k ≤ end_of_log w c →
    value_after i v (all_effects (records_between w c j k)) ≡ late_value (window c (call_at w c j) (call_at w c k)) i v (steps w)
part_value w c j k i v s a b low le high = (part_of w c j k s a b low le high).value i v

pub part-append : (w : World) (c j m k : ℕ) → w.first c ≤ j → j ≤ m → m ≤ k → records_between w c j k ≡ records_between w c j m ++ records_between w c m k
unfolding records_between
part-append w c j m k low a b = grind (arith, take-sum (w.records c) (j - w.first c) (m - j) (k - m))

-- the same records_between, the same calls
pub part_moves : (w w' : World) (c j k : ℕ) → records_between w' c j k ≡ records_between w c j k → call_at w' c j ≡ call_at w c j →
    call_at w' c k ≡ call_at w c k → steps w' ≡ steps w →
    StandFor w c j k → StandFor w' c j k
part_moves w w' c j k e f g h t = record {
  value = λ i v. rw (e, f, g, h) (t.value i v);
  touch = λ i q. rw (f, g, h) (t.touch i (rw e at q));
}

-- ---- what observations depend on

pub call_at-same : (w w' : World) (c k : ℕ) → w'.records c ≡ w.records c → w'.first c ≡ w.first c → w'.next c ≡ w.next c → call_at w' c k ≡ call_at w c k
unfolding call_at
call_at-same w w' c k e f g = rw (e, f, g)

pub steps-same : (w w' : World) → w'.calls ≡ w.calls → steps w' ≡ steps w
unfolding steps
steps-same w w' e = rw e

pub part_none : (w : World) (c k : ℕ) → end_of_log w c ≤ k → StandFor w c k k
unfolding records_between
part_none w c k h = grind (arith, value-none, each-always)

pub end-else : (w w' : World) (d : ℕ) → w'.first d ≡ w.first d → w'.records d ≡ w.records d → end_of_log w' d ≡ end_of_log w d
unfolding end_of_log
end-else w w' d f r = rw (f, r)

pub part-else : (w w' : World) (d j k : ℕ) → w'.first d ≡ w.first d → w'.records d ≡ w.records d → records_between w' d j k ≡ records_between w d j k
unfolding records_between
part-else w w' d j k f r = rw (f, r)

-- ---- the next calls of one client, after all that a node has

pub raised_same : (b : ℕ → ℕ) (c k d : ℕ) → d ≡ c → raised_at b c k d ≡ k
raised_same b c k d e = rw (eq-eqb d c e) refl

pub raised_other : (b : ℕ → ℕ) (c k d : ℕ) → (d ≡ c → ⊥) → raised_at b c k d ≡ b d
raised_other b c k d e = rw (ne_eqb d c e) refl

pub later : (w : World) (b : ℕ → ℕ) (c k i : ℕ) (old : Option Content) → CallsInvariant w → first_undigested w c ≤ b c → b c ≤ k →
    late_value (below (raised_at b c k)) i old (steps w) ≡ late_value (window c (b c) k) i (late_value (below b) i old (steps w)) (steps w)
unfolding steps
later w b c k i old s le up = late_client opening_values (first_undigested w) b c k i old w.calls s.unseen s.ascends le up

pub area_at : (w : World) (n i : ℕ) → CallsInvariant w → Full w n → w.area n i ≡ late_value (below (first_undigested_at w n)) i (opening_values i) (steps w)
unfolding Areas value_below
area_at w n i s f = s.areas n f i

pub disjoint : (w : World) → Compatible w → (c d i : ℕ) → c ≢ d → w.writes c i ≡ true → w.holds d i ≡ true → ⊥
unfolding Compatible
disjoint w h = h
