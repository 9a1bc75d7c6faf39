-- Steps that leave the calls and the logs.
use Rattle.assise_model_world.proofs.Common.{◌≡◌, ℕ, ◌≤◌, inl, inr, true, ap, sym, ◌∙◌, subst, arith, opening_tree, AreAnswered, tree_after_calls, Spells}
use Rattle.assise_model_world.proofs.Common.{values_after_calls, AllMakeNew, exchanges, ops, NumbersAscend, NoneFalls, IsMadeBy, IsMade, Stands, Counted}
use Rattle.assise_model_world.proofs.Common.{Numbered, AreMade, Guarded, Compatible, IsOrdered, Areas, CallsInvariant, WritesAreHeld, WorldInvariant}
use Rattle.assise_model_world.proofs.Common.{AreDropped, SameLogs, KeepsLeases, SameNodes, World, Full, opening_values, end_of_log, digested_by_all}
use Rattle.assise_model_world.proofs.Common.{received_by_all, records_between, first_undigested_at, first_undigested, first_unreplicated, now, tree}
use Rattle.assise_model_world.proofs.Common.{value_below, each-map}
use Rattle.assise_model_world.proofs.Lists.{unseen-raise, below-same}
use Rattle.assise_model_world.proofs.Shared.WorldObserved.{least_of-below, least_of-above, least_of-end, least_of-same, call_at-mono, part_of, part_moves}
use Rattle.assise_model_world.proofs.Shared.WorldObserved.{call_at-same, steps-same, area_at}

-- ---- the history stays

pub made_more : (w w' : World) (i : ℕ) → ((c : ℕ) → w.made c ≤ w'.made c) → w.clients ≤ w'.clients → IsMade w i → IsMade w' i
made_more w w' i up more (inl root) = inl root
made_more w w' i up more (inr (c, (client, (k, (low, is))))) = inr (c, ((client.0, omega (arith, client.1, more)), (k, (omega (arith, low, up c), is))))

pub made_by_more : (w w' : World) (c i : ℕ) → ((c : ℕ) → w.made c ≤ w'.made c) → IsMadeBy w c i → IsMadeBy w' c i
made_by_more w w' c i up (k, (low, is)) = (k, (omega (arith, low, up c), is))

pub spelled-same : (w w' : World) → w'.calls ≡ w.calls → CallsInvariant w → Spells (now w') (tree w')
unfolding now tree
spelled-same w w' e s = subst (λ xs. Spells (values_after_calls opening_values xs) (tree_after_calls opening_tree (ops xs))) (sym e) s.spelled

pub are_made-same : (w w' : World) → w'.calls ≡ w.calls → ((c : ℕ) → w'.made c ≡ w.made c) → w.clients ≤ w'.clients → CallsInvariant w → AreMade w'
unfolding AreMade now
are_made-same w w' e g more s i h = grind arith

pub numbered-same : (w w' : World) → w'.calls ≡ w.calls → ((c : ℕ) → w'.made c ≡ w.made c) → CallsInvariant w → Numbered w'
unfolding Numbered
numbered-same w w' e g s = grind (arith, steps-same, each-map, made_by_more)

pub counted-same : (w w' : World) → w'.calls ≡ w.calls → ((c : ℕ) → w'.next c ≡ w.next c) → w.clients ≤ w'.clients → CallsInvariant w → Counted w'
unfolding Counted
counted-same w w' e g more s = grind (arith, each-map)

-- ---- history and logs stay

pub end-same : (w w' : World) → SameLogs w w' → (c : ℕ) → end_of_log w' c ≡ end_of_log w c
unfolding end_of_log
end-same w w' l c = rw (l.first c, l.records c)

part-same : (w w' : World) → SameLogs w w' → (c j k : ℕ) → records_between w' c j k ≡ records_between w c j k
unfolding records_between
part-same w w' l c j k = rw (l.first c, l.records c)

stands-same : (w w' : World) → CallsInvariant w → SameLogs w w' → (c : ℕ) → Stands w' c
unfolding Stands
stands-same w w' s l c j k bj bk low le high =
    part_moves w w' c j k (part-same w w' l c j k)
    (call_at-same w w' c j (l.records c) (l.first c) (l.next c)) (call_at-same w w' c k (l.records c) (l.first c) (l.next c)) (steps-same w w' l.calls)
    (part_of w c j k s (sym (l.border c j) ∙ bj) (sym (l.border c k) ∙ bk) (rw (l.first c) at low) le (rw (end-same w w' l c) at high))

first_undigested-same : (w w' : World) → CallsInvariant w → SameLogs w w' → ((c : ℕ) → digested_by_all w c ≤ digested_by_all w' c) → (c : ℕ) →
    first_undigested w c ≤ first_undigested w' c
unfolding first_undigested
first_undigested-same w w' s l up c =
    rw (call_at-same w w' c (digested_by_all w' c) (l.records c) (l.first c) (l.next c))
    (call_at-mono w c (digested_by_all w c) (digested_by_all w' c) s (up c))

-- an event that leaves history and logs has these things to show
pub calm_coherent : (w w' : World) → CallsInvariant w → SameLogs w w' → w.clients ≤ w'.clients → ((c : ℕ) → digested_by_all w c ≤ digested_by_all w' c) →
    ((n c : ℕ) → Full w' n → IsOrdered w' n c) → Guarded w' → Compatible w' → Areas w' → CallsInvariant w'
calm_coherent w w' s l more up order guarded compatible areas = record {
  answered = subst (λ xs. AreAnswered opening_tree (exchanges xs)) (sym l.calls) s.answered;
  make_new = subst (AllMakeNew opening_values) (sym l.calls) s.make_new;
  spelled = spelled-same w w' l.calls s;
  fresh_numbers = are_made-same w w' l.calls l.made more s;
  fresh_calls = numbered-same w w' l.calls l.made s;
  fewer = λ c. rw (l.made c) (s.fewer c);
  counted = counted-same w w' l.calls l.next more s;
  ascends = subst (λ xs. NumbersAscend xs) (sym l.calls) s.ascends;
  stands = stands-same w w' s l;
  ascending = λ c. rw (l.records c, l.next c) (s.ascending c);
  first_border = λ c. l.border c (w'.first c) ∙ ap (λ k. w.border c k) (l.first c) ∙ s.first_border c;
  end_border = λ c. l.border c (end_of_log w' c) ∙ ap (λ k. w.border c k) (end-same w w' l c) ∙ s.end_border c;
  order = order;
  guarded = guarded;
  compatible = compatible;
  unseen = grind (arith, steps-same, unseen-raise, first_undigested-same);
  areas = areas;
}

-- the thresholds don't fall where places of nodes don't
pub calm_falls : (w w' : World) → CallsInvariant w → SameLogs w w' → ((c : ℕ) → digested_by_all w c ≤ digested_by_all w' c) →
    ((c : ℕ) → received_by_all w c ≤ received_by_all w' c) → NoneFalls w w'
unfolding first_undigested first_unreplicated
calm_falls w w' s l up more = record {
  unreplicated = λ c. rw (call_at-same w w' c (received_by_all w' c) (l.records c) (l.first c) (l.next c))
      (call_at-mono w c (received_by_all w c) (received_by_all w' c) s (more c));
  undigested = λ c. rw (call_at-same w w' c (digested_by_all w' c) (l.records c) (l.first c) (l.next c))
      (call_at-mono w c (digested_by_all w c) (digested_by_all w' c) s (up c));
}

pub guarded-same : (w w' : World) → CallsInvariant w → ((c : ℕ) → w'.records c ≡ w.records c) → KeepsLeases w w' → Guarded w'
unfolding Guarded
guarded-same w w' s same l c i h = l.writes c i ∙ s.guarded c i (rw (same c) at h)

pub compatible-less : (w w' : World) → CallsInvariant w → ((d j : ℕ) → w'.holds d j ≡ true → w.holds d j ≡ true) →
    ((d j : ℕ) → w'.writes d j ≡ true → w.writes d j ≡ true) → Compatible w'
unfolding Compatible
compatible-less w w' s ho wr c d i other a b = s.compatible c d i other (wr c i a) (ho d i b)

pub compatible-same : (w w' : World) → CallsInvariant w → KeepsLeases w w' → Compatible w'
compatible-same w w' s l = compatible-less w w' s (λ d j h. sym (l.holds d j) ∙ h) (λ d j h. sym (l.writes d j) ∙ h)

-- areas where nothing was digested and nothing applied
pub areas-same : (w w' : World) → CallsInvariant w → SameLogs w w' → (m : ℕ) → Full w m → ((i : ℕ) → w'.area m i ≡ w.area m i) →
    ((d : ℕ) → w'.digested m d ≡ w.digested m d) →
    (i : ℕ) → w'.area m i ≡ value_below w' (first_undigested_at w' m) i
unfolding value_below first_undigested_at
areas-same w w' s l m f a g i = grind (arith, area_at, below-same, call_at-same, steps-same)

pub digested_by_all-same : (w w' : World) → SameLogs w w' → w'.full ≡ w.full → ((m d : ℕ) → Full w m → w.digested m d ≤ w'.digested m d) → (c : ℕ) →
    digested_by_all w c ≤ digested_by_all w' c
unfolding digested_by_all
digested_by_all-same w w' l f g c = grind (arith, least_of-above, end-same, least_of-end, least_of-below)

pub received_by_all-same : (w w' : World) → SameLogs w w' → w'.full ≡ w.full → ((m d : ℕ) → Full w m → w.received m d ≤ w'.received m d) → (c : ℕ) →
    received_by_all w c ≤ received_by_all w' c
unfolding received_by_all
received_by_all-same w w' l f g c = grind (arith, least_of-above, end-same, least_of-end, least_of-below)

-- ---- what nodes have stays too

digested_by_all-still : (w w' : World) → SameLogs w w' → SameNodes w w' → (c : ℕ) → digested_by_all w c ≤ digested_by_all w' c
digested_by_all-still w w' l e = digested_by_all-same w w' l e.full (λ m d h. rw ((e.same m h).digested d) (omega arith))

received_by_all-still : (w w' : World) → SameLogs w w' → SameNodes w w' → (c : ℕ) → received_by_all w c ≤ received_by_all w' c
received_by_all-still w w' l e = received_by_all-same w w' l e.full (λ m d h. rw ((e.same m h).received d) (omega arith))

order-still : (w w' : World) → CallsInvariant w → SameLogs w w' → SameNodes w w' → (n c : ℕ) → Full w' n → IsOrdered w' n c
order-still w w' s l e m d h = grind (arith, received_by_all-still, end-same)

pub still_coherent : (w w' : World) → CallsInvariant w → SameLogs w w' → SameNodes w w' → w.clients ≤ w'.clients → Guarded w' → Compatible w' →
    CallsInvariant w'
unfolding Areas
still_coherent w w' s l e more guarded compatible = grind (arith, calm_coherent, digested_by_all-still, order-still, areas-same)

pub still_falls : (w w' : World) → CallsInvariant w → SameLogs w w' → SameNodes w w' → NoneFalls w w'
still_falls w w' s l e = calm_falls w w' s l (digested_by_all-still w w' l e) (received_by_all-still w w' l e)

-- with clients that live where they did all holds
pub still_sound : (w w' : World) → WorldInvariant w → CallsInvariant w' → SameLogs w w' → SameNodes w w' → w.clients ≤ w'.clients →
    ((c : ℕ) → w'.home c ≡ w.home c) → ((c : ℕ) → w'.lives c ≡ w.lives c) → ((c : ℕ) → w'.goal c ≤ end_of_log w c) → ((c : ℕ) → w.goal c ≤ w'.goal c) →
    WritesAreHeld w' → WorldInvariant w'
still_sound w w' s coherent l e more home lives goals ascend held = grind (arith, end-same)

pub held-same : (w w' : World) → WorldInvariant w → KeepsLeases w w' → WritesAreHeld w'
unfolding WritesAreHeld
held-same w w' s l c i h = l.holds c i ∙ s.held c i (sym (l.writes c i) ∙ h)

-- logs begin where they did, and all full nodes have digested what they had
pub still_dropped : (w w' : World) → SameLogs w w' → SameNodes w w' → AreDropped w → AreDropped w'
unfolding AreDropped digested_by_all end_of_log
still_dropped w w' l e d c = grind (arith, least_of-same)
