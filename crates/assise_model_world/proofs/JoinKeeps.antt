-- A node gets all that a full one has.
use Rattle.assise_model_world.proofs.Common.{◌≡◌, ℕ, ◌≤◌, sym, ◌∙◌, arith, Joins, NoneFalls, Areas, CallsInvariant, WorldInvariant, World, Full, least_of}
use Rattle.assise_model_world.proofs.Common.{end_of_log, digested_by_all, received_by_all, first_undigested_at, value_below}
use Rattle.assise_model_world.proofs.Lists.{below-same}
use Rattle.assise_model_world.proofs.Shared.WorldObserved.{least_of-below, least_of-above, least_of-end, call_at-same, steps-same, area_at}
use Rattle.assise_model_world.proofs.Shared.QuietSteps.{end-same, calm_coherent, calm_falls, guarded-same, compatible-same, held-same}

-- all that the one node has now the other had before
record IsAs (w w' : World) (m b : ℕ) : Type 0 where
  full_before : Full w b
  area : (i : ℕ) → w'.area m i ≡ w.area b i
  log : (d : ℕ) → w'.log m d ≡ w.log b d
  received : (d : ℕ) → w'.received m d ≡ w.received b d
  digested : (d : ℕ) → w'.digested m d ≡ w.digested b d

module _ (w w' : World) (n donor : ℕ) (e : Joins w n donor w') where
  -- what a full node has after the join, some full node had
  as_before : (m : ℕ) → Full w' m → (b : ℕ) × IsAs w w' m b
  as_before m h = grind arith

  received_up : (c : ℕ) → received_by_all w c ≤ received_by_all w' c
  unfolding received_by_all
  received_up c =
      least_of-above w'.full (λ m. w'.received m c) (end_of_log w' c) (least_of w.full (λ m. w.received m c) (end_of_log w c))
      (rw (end-same w w' e.logs c) (least_of-end w.full (λ m. w.received m c) (end_of_log w c)))
      (λ m h. let (b, q) = as_before m h in rw (q.received c) (least_of-below w.full (λ m. w.received m c) (end_of_log w c) b q.full_before))

  digested_up : (c : ℕ) → digested_by_all w c ≤ digested_by_all w' c
  unfolding digested_by_all
  digested_up c =
      least_of-above w'.full (λ m. w'.digested m c) (end_of_log w' c) (least_of w.full (λ m. w.digested m c) (end_of_log w c))
      (rw (end-same w w' e.logs c) (least_of-end w.full (λ m. w.digested m c) (end_of_log w c)))
      (λ m h. let (b, q) = as_before m h in rw (q.digested c) (least_of-below w.full (λ m. w.digested m c) (end_of_log w c) b q.full_before))

  areas-join : CallsInvariant w → Areas w'
  unfolding Areas value_below first_undigested_at
  areas-join s m h i = grind (arith, as_before, area_at, below-same, call_at-same, steps-same)

  join_coherent : CallsInvariant w → CallsInvariant w'
  join_coherent s =
      calm_coherent w w' s e.logs (rw e.clients.clients (omega arith)) digested_up
      (λ m d h. grind (arith, received_up, end-same))
      (guarded-same w w' s e.logs.records e.leases) (compatible-same w w' s e.leases)
      (areas-join s)

  pub join_falls : WorldInvariant w → NoneFalls w w'
  join_falls s = calm_falls w w' s.coherent e.logs digested_up received_up

  pub join_sound : WorldInvariant w → WorldInvariant w'
  join_sound s = record {
    coherent = join_coherent s.coherent;
    few_records = λ d. rw (end-same w w' e.logs d, e.logs.next d) (s.few_records d);
    goals = λ d. rw (end-same w w' e.logs d, e.goals d) (s.goals d);
    single = λ d k t low from to. e.logs.border d k ∙ s.single d k (sym (e.clients.lives d) ∙ t) (rw (e.logs.first d) at low) (rw (e.goals d) at from)
        (rw (end-same w w' e.logs d) at to);
    unused = λ d h. e.logs.next d ∙ s.unused d (omega (arith, e.clients.clients, h));
    held = held-same w w' s e.leases;
    prefixes = λ m d h. (let (b, q) = as_before m h in rw (q.log d, q.received d, e.logs.first d, e.logs.records d) (s.prefixes b d q.full_before));
    opened = λ d t. rw e.clients.clients (s.opened d (sym (e.clients.lives d) ∙ t));
    homes = λ d t. rw (e.clients.home d) (e.stay (w.home d) (s.homes d (sym (e.clients.lives d) ∙ t)));
    whole = grind (arith, end-same);
    left = λ m d t h. (grind (arith, end-same w w' e.logs d));
  }
