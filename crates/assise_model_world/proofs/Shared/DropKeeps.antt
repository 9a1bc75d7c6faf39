-- Prefixes of logs are dropped.
use Rattle.assise_model_world.proofs.Common.{◌≡◌, ℕ, ◌-◌, ◌≤◌, true, ap, sym, ◌∙◌, subst, arith, take, length-drop, drop-take, opening_tree, AreAnswered}
use Rattle.assise_model_world.proofs.Common.{contains, late_value, AllMakeNew, exchanges, NumbersAscend, below, Unseen, Drops, NoneFalls, Stands, Guarded}
use Rattle.assise_model_world.proofs.Common.{IsOrdered, Areas, CallsInvariant, WorldInvariant, AreDropped, World, Full, opening_values, end_of_log}
use Rattle.assise_model_world.proofs.Common.{digested_by_all, received_by_all, records_between, call_at, first_undigested_at, first_undigested}
use Rattle.assise_model_world.proofs.Common.{first_unreplicated, steps, value_below}
use Rattle.assise_model_world.proofs.Lists.{unseen-raise, below-same}
use Rattle.assise_model_world.proofs.Shared.Logs.{at-drop, ascending-drop, drop-of_drop, contains-drop}
use Rattle.assise_model_world.proofs.Shared.WorldObserved.{least_of-end, least_of-same, part_of}
use Rattle.assise_model_world.proofs.Shared.WorldObserved.{digested_by_all-below, received_by_all-below, received_by_all-end}
use Rattle.assise_model_world.proofs.Shared.WorldObserved.{part_moves, steps-same, area_at}
use Rattle.assise_model_world.proofs.Between.{digested_by_all-received_by_all}
use Rattle.assise_model_world.proofs.Shared.QuietSteps.{spelled-same, are_made-same, numbered-same, counted-same, compatible-same, held-same}

-- ---- places keep their calls, and parts past the new prefixes their records

full_before : (w w' : World) (f : ℕ → ℕ) (m : ℕ) → Drops w f w' → Full w' m → Full w m
full_before w w' f m e h = subst (λ ns. contains ns m ≡ true) e.full h

call_at-drop : (w w' : World) (f : ℕ → ℕ) → Drops w f w' → (c k : ℕ) → f c ≤ k → call_at w' c k ≡ call_at w c k
unfolding call_at
call_at-drop w w' f e c k h = grind (arith, at-drop)

digested_by_all-end : (w : World) (c : ℕ) → digested_by_all w c ≤ end_of_log w c
unfolding digested_by_all
digested_by_all-end w c = least_of-end w.full (λ m. w.digested m c) (end_of_log w c)

end-drop : (w w' : World) (f : ℕ → ℕ) → Drops w f w' → (c : ℕ) → end_of_log w' c ≡ end_of_log w c
unfolding end_of_log
end-drop w w' f e c = grind (arith, digested_by_all-end, length-drop)

part-drop : (w w' : World) (f : ℕ → ℕ) → Drops w f w' → (c j k : ℕ) → f c ≤ j → records_between w' c j k ≡ records_between w c j k
unfolding records_between
part-drop w w' f e c j k low = grind (arith, drop-of_drop)

stands-drop : (w w' : World) (f : ℕ → ℕ) → CallsInvariant w → Drops w f w' → (c : ℕ) → Stands w' c
unfolding Stands
stands-drop w w' f s e c j k bj bk low le high =
    let low_f : f c ≤ j = rw (e.first c) at low in
    part_moves w w' c j k (part-drop w w' f e c j k low_f) (call_at-drop w w' f e c j low_f) (call_at-drop w w' f e c k (omega arith)) (steps-same w w' e.calls)
    (part_of w c j k s (sym (e.border c j low_f) ∙ bj) (sym (e.border c k (omega arith)) ∙ bk) (omega (arith, e.low c)) le (rw (end-drop w w' f e c) at high))

-- ---- what all full nodes have stays

digested_by_all-drop : (w w' : World) (f : ℕ → ℕ) → Drops w f w' → (c : ℕ) → digested_by_all w' c ≡ digested_by_all w c
unfolding digested_by_all
digested_by_all-drop w w' f e c = grind (arith, end-drop w w' f e c, least_of-same)

received_by_all-drop : (w w' : World) (f : ℕ → ℕ) → Drops w f w' → (c : ℕ) → received_by_all w' c ≡ received_by_all w c
unfolding received_by_all
received_by_all-drop w w' f e c = grind (arith, end-drop w w' f e c, least_of-same)

first_undigested-drop : (w w' : World) (f : ℕ → ℕ) → Drops w f w' → (c : ℕ) → first_undigested w' c ≡ first_undigested w c
unfolding first_undigested
first_undigested-drop w w' f e c = rw (digested_by_all-drop w w' f e c) (call_at-drop w w' f e c (digested_by_all w c) (e.high c))

first_unreplicated-drop : (w w' : World) (f : ℕ → ℕ) → CallsInvariant w → Drops w f w' → (c : ℕ) → first_unreplicated w' c ≡ first_unreplicated w c
unfolding first_unreplicated
first_unreplicated-drop w w' f s e c =
    rw (received_by_all-drop w w' f e c)
    (call_at-drop w w' f e c (received_by_all w c) (omega (arith, e.high c, digested_by_all-received_by_all w s c)))

-- a full node has digested more than is dropped
past_prefix : (w w' : World) (f : ℕ → ℕ) (m c : ℕ) → Drops w f w' → Full w m → f c ≤ w.digested m c
past_prefix w w' f m c e h = omega (arith, e.high c, digested_by_all-below w m c h)

-- ---- what holds stays

guarded-drop : (w w' : World) (f : ℕ → ℕ) → CallsInvariant w → Drops w f w' → Guarded w'
unfolding Guarded
guarded-drop w w' f s e c i h = e.leases.writes c i ∙ s.guarded c i (contains-drop (w.records c) (f c - w.first c) i (rw (e.records c) at h))

areas-drop : (w w' : World) (f : ℕ → ℕ) → CallsInvariant w → Drops w f w' → Areas w'
unfolding Areas value_below first_undigested_at
areas-drop w w' f s e m h i =
    let full : Full w m = full_before w w' f m e h in
    e.area m i full ∙ area_at w m i s full
    ∙ below-same (first_undigested_at w m) (λ d. call_at w' d (w'.digested m d)) i (opening_values i) (steps w)
    (λ d. sym (ap (λ k. call_at w' d k) (e.digested m d full) ∙ call_at-drop w w' f e d (w.digested m d) (past_prefix w w' f m d e full)))
    ∙ ap (λ xs. late_value (below (λ d. call_at w' d (w'.digested m d))) i (opening_values i) xs) (sym (steps-same w w' e.calls))

order-drop : (w w' : World) (f : ℕ → ℕ) → CallsInvariant w → Drops w f w' → (m c : ℕ) → Full w' m → IsOrdered w' m c
order-drop w w' f s e m c h =
    let full : Full w m = full_before w w' f m e h in
    let o : IsOrdered w m c = s.order m c full in
    record {
      begun = rw (e.first c, e.digested m c full) (past_prefix w w' f m c e full);
      replicated = rw (e.digested m c full, received_by_all-drop w w' f e c) o.replicated;
      known = rw (end-drop w w' f e c, e.received m c full) o.known;
      digested_border = grind (arith, past_prefix w w' f m c e full);
      received_border = grind (arith, past_prefix w w' f m c e full, received_by_all-below w m c full);
    }

pub drop_coherent : (w w' : World) (f : ℕ → ℕ) → CallsInvariant w → Drops w f w' → CallsInvariant w'
drop_coherent w w' f s e = record {
  answered = subst (λ xs. AreAnswered opening_tree (exchanges xs)) (sym e.calls) s.answered;
  make_new = subst (AllMakeNew opening_values) (sym e.calls) s.make_new;
  spelled = spelled-same w w' e.calls s;
  fresh_numbers = are_made-same w w' e.calls e.made (rw e.clients.clients (omega arith)) s;
  fresh_calls = numbered-same w w' e.calls e.made s;
  fewer = λ c. rw (e.made c) (s.fewer c);
  counted = counted-same w w' e.calls e.next (rw e.clients.clients (omega arith)) s;
  ascends = subst (λ xs. NumbersAscend xs) (sym e.calls) s.ascends;
  stands = stands-drop w w' f s e;
  ascending = λ c. rw (e.records c, e.next c) (ascending-drop (w.records c) (f c - w.first c) (w.next c) (s.ascending c));
  first_border = λ c. e.border c (w'.first c) (rw (e.first c) (omega arith)) ∙ ap (λ k. w.border c k) (e.first c) ∙ e.border_at c;
  end_border = λ c. e.border c (end_of_log w' c)
      (rw (end-drop w w' f e c) (omega (arith, e.high c, digested_by_all-received_by_all w s c, received_by_all-end w c)))
      ∙ ap (λ k. w.border c k) (end-drop w w' f e c) ∙ s.end_border c;
  order = order-drop w w' f s e;
  areas = areas-drop w w' f s e;
  guarded = guarded-drop w w' f s e;
  compatible = compatible-same w w' s e.leases;
  unseen = subst (λ xs. Unseen (first_undigested w') xs) (sym (steps-same w w' e.calls))
      (unseen-raise (first_undigested w) (first_undigested w') (steps w) (λ c. rw (first_undigested-drop w w' f e c) (omega arith)) s.unseen);
}

-- a full node's log is still the prefix of the client's own
prefixes-drop : (w w' : World) (f : ℕ → ℕ) (m c : ℕ) → WorldInvariant w → Drops w f w' → Full w m → w'.log m c ≡ take (w'.received m c - w'.first c)
    (w'.records c)
prefixes-drop w w' f m c s e h = grind
    (arith, past_prefix w w' f m c e h, received_by_all-below w m c h, drop-take (f c - w.first c) (w.received m c - f c) (w.records c))

pub drop_sound : (w w' : World) (f : ℕ → ℕ) → WorldInvariant w → Drops w f w' → WorldInvariant w'
drop_sound w w' f s e = record {
  coherent = drop_coherent w w' f s.coherent e;
  few_records = λ c. rw (end-drop w w' f e c, e.next c) (s.few_records c);
  goals = λ c. rw (end-drop w w' f e c, e.goals c) (s.goals c);
  single = λ c k t low from to.
      (let past : f c ≤ k = rw (e.first c) at low in
      e.border c k past ∙ s.single c k (sym (e.clients.lives c) ∙ t) (omega (arith, past, e.low c)) (rw (e.goals c) at from) (rw (end-drop w w' f e c) at to));
  unused = λ c h. e.next c ∙ s.unused c (omega (arith, e.clients.clients, h));
  held = held-same w w' s e.leases;
  prefixes = λ m c h. prefixes-drop w w' f m c s e (full_before w w' f m e h);
  opened = λ c t. rw e.clients.clients (s.opened c (sym (e.clients.lives c) ∙ t));
  homes = λ c t. rw (e.clients.home c, e.full) (s.homes c (sym (e.clients.lives c) ∙ t));
  whole = λ c t. (grind (arith, end-drop w w' f e c));
  left = λ m c t h. (grind (arith, end-drop w w' f e c));
}

pub drop_falls : (w w' : World) (f : ℕ → ℕ) → WorldInvariant w → Drops w f w' → NoneFalls w w'
drop_falls w w' f s e = record {
  unreplicated = λ c. rw (first_unreplicated-drop w w' f s.coherent e c) (omega arith);
  undigested = λ c. rw (first_undigested-drop w w' f e c) (omega arith);
}

-- once all that may go has gone, each log begins where some full node has not digested it
pub drop_dropped : (w w' : World) → Drops w (digested_by_all w) w' → AreDropped w'
unfolding AreDropped
drop_dropped w w' e c = e.first c ∙ sym (digested_by_all-drop w w' (digested_by_all w) e c)
