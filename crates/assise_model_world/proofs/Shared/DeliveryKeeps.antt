-- Records come to a node.
use Rattle.assise_model_world.proofs.Common.{◌≡◌, ℕ, ◌+◌, ◌-◌, ◌≤◌, true, ◌++◌, ap, sym, ◌∙◌, subst, arith, take, drop, cases_eq, take-add, contains, Delivers}
use Rattle.assise_model_world.proofs.Common.{NoneFalls, IsOrdered, Areas, CallsInvariant, WorldInvariant, AreDropped, World, Full, end_of_log, digested_by_all}
use Rattle.assise_model_world.proofs.Common.{received_by_all, records_between}
use Rattle.assise_model_world.proofs.Shared.WorldObserved.{least_of-same, received_by_all-below}
use Rattle.assise_model_world.proofs.Shared.QuietSteps.{end-same, calm_coherent, calm_falls, guarded-same, compatible-same, areas-same, digested_by_all-same}
use Rattle.assise_model_world.proofs.Shared.QuietSteps.{received_by_all-same, held-same}

-- ---- what the node has

-- a fact about what each full node received of each client
module _ (w w' : World) (n c k : ℕ) (e : Delivers w n c k w') where
  full-before : (m : ℕ) → Full w' m → Full w m
  full-before m h = subst (λ ns. contains ns m ≡ true) e.full h

  received-is : (P : ℕ → ℕ → ℕ → Type 0) → P n c k → ((m d : ℕ) → Full w m → P m d (w.received m d)) → (m d : ℕ) → Full w m → P m d (w'.received m d)
  received-is P here others m d f = grind (arith, cases_eq)

  received-up : (m d : ℕ) → Full w m → w.received m d ≤ w'.received m d
  received-up m d f = grind (arith, cases_eq)

  replicated-up : (d : ℕ) → received_by_all w d ≤ received_by_all w' d
  replicated-up = received_by_all-same w w' e.logs e.full received-up

  order-deliver : CallsInvariant w → (m d : ℕ) → Full w' m → IsOrdered w' m d
  order-deliver s m d h = grind (arith, full-before, replicated-up, end-same, received-is)

  deliver_coherent : CallsInvariant w → CallsInvariant w'
  unfolding Areas
  deliver_coherent s = grind (arith, calm_coherent, digested_by_all-same, order-deliver, guarded-same, compatible-same, full-before, areas-same)

  pub deliver_falls : WorldInvariant w → NoneFalls w w'
  deliver_falls s = calm_falls w w' s.coherent e.logs (digested_by_all-same w w' e.logs e.full (λ m d f. rw (e.digested m d f) (omega arith))) replicated-up

  -- ---- prefixes

  log_now : WorldInvariant w → w'.log n c ≡ take (k - w.first c) (w.records c)
  unfolding records_between
  log_now s =
      let o : IsOrdered w n c = s.coherent.order n c e.full_node in
      let low : w.first c ≤ w.received n c = omega (arith, o.begun, o.replicated, received_by_all-below w n c e.full_node) in
      let a : ℕ = w.received n c - w.first c in
      let d : k - w.first c ≡ a + (k - w.received n c) = omega (arith, low, e.from) in
      e.log_here ∙ ap (λ l. l ++ take (k - w.received n c) (drop a (w.records c))) (s.prefixes n c e.full_node)
      ∙ sym (ap (λ m. take m (w.records c)) d ∙ take-add a (k - w.received n c) (w.records c))

  prefix_now : WorldInvariant w → (m d : ℕ) → Full w m → w'.log m d ≡ take (w'.received m d - w.first d) (w.records d)
  prefix_now s m d f = grind (arith, cases_eq, log_now)

  -- who had all has all
  all_stays : (m d : ℕ) → Full w m → w.received m d ≡ end_of_log w d → WorldInvariant w → w'.received m d ≡ end_of_log w d
  all_stays m d f h s = grind (arith, received-up, received-is)

  pub deliver_sound : WorldInvariant w → WorldInvariant w'
  deliver_sound s = grind (arith, deliver_coherent, end-same, held-same, prefix_now, full-before, all_stays)

  pub deliver_dropped : AreDropped w → AreDropped w'
  unfolding AreDropped digested_by_all end_of_log
  deliver_dropped d c = grind (arith, least_of-same)
