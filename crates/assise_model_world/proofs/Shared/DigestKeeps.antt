-- A digest makes a full node's area that of more calls.
use Rattle.assise_model_world.proofs.Common.{◌≡◌, ℕ, ◌≤◌, true, subst, arith, cases_eq, all_effects, value_after, contains, late_value, raised_at, below}
use Rattle.assise_model_world.proofs.Common.{Digests, NoneFalls, IsOrdered, Areas, CallsInvariant, WorldInvariant, World, Full, opening_values, digested_by_all}
use Rattle.assise_model_world.proofs.Common.{received_by_all, call_at, first_undigested_at, steps, value_below, undigested_below}
use Rattle.assise_model_world.proofs.Lists.{below-same}
use Rattle.assise_model_world.proofs.Shared.WorldObserved.{call_at-mono, received_by_all-below, received_by_all-end}
use Rattle.assise_model_world.proofs.Shared.WorldObserved.{first_undigested-low, part_value, call_at-same}
use Rattle.assise_model_world.proofs.Shared.WorldObserved.{steps-same, raised_same, raised_other, later, area_at}
use Rattle.assise_model_world.proofs.Shared.QuietSteps.{end-same, calm_coherent, calm_falls, guarded-same, compatible-same, areas-same, digested_by_all-same}
use Rattle.assise_model_world.proofs.Shared.QuietSteps.{received_by_all-same, held-same}
use Rattle.assise_model_world.proofs.Shared.Views.{ahead_below_between}

-- the node's own records below a place that all full nodes have, over its area, make it that of the client's calls up to there
digested_value : (w : World) (n c k i : ℕ) → WorldInvariant w → Full w n → w.digested n c ≤ k → k ≤ received_by_all w c → w.border c k ≡ true →
    value_after i (w.area n i) (all_effects (undigested_below w n c k)) ≡ late_value (below (raised_at (first_undigested_at w n) c (call_at w c k))) i
    (opening_values i) (steps w)
unfolding first_undigested_at
digested_value w n c k i s f from to bk =
    grind (arith, ahead_below_between, received_by_all-below, area_at, part_value, received_by_all-end, later, first_undigested-low, call_at-mono)

digested-raised : (w w' : World) (n c k : ℕ) → Digests w n c k w' → (d : ℕ) → first_undigested_at w' n d ≡ raised_at (first_undigested_at w n) c (call_at w c k)
    d
unfolding first_undigested_at
digested-raised w w' n c k e d = grind (arith, cases_eq, call_at-same, raised_same, raised_other)

areas-digest : (w w' : World) (n c k : ℕ) → WorldInvariant w → Digests w n c k w' → Areas w'
unfolding Areas value_below
areas-digest w w' n c k s e m h i = grind (arith, cases_eq, digested_value, below-same, digested-raised, steps-same, areas-same)

digested-up : (w w' : World) (n c k : ℕ) → Digests w n c k w' → (m d : ℕ) → Full w m → w.digested m d ≤ w'.digested m d
digested-up w w' n c k e m d f = grind arith

digested-received_by_all : (w w' : World) (n c k : ℕ) → CallsInvariant w → Digests w n c k w' → (m d : ℕ) → Full w m → w'.digested m d ≤ received_by_all w d
digested-received_by_all w w' n c k s e m d f = grind arith

border-digest : (w w' : World) (n c k : ℕ) → CallsInvariant w → Digests w n c k w' → (m d : ℕ) → Full w m → w.border d (w'.digested m d) ≡ true
border-digest w w' n c k s e m d f = grind arith

digested_by_all-digest : (w w' : World) (n c k : ℕ) → Digests w n c k w' → (d : ℕ) → digested_by_all w d ≤ digested_by_all w' d
digested_by_all-digest w w' n c k e = digested_by_all-same w w' e.logs e.full (digested-up w w' n c k e)

received_by_all-digest : (w w' : World) (n c k : ℕ) → Digests w n c k w' → (d : ℕ) → received_by_all w d ≤ received_by_all w' d
received_by_all-digest w w' n c k e = received_by_all-same w w' e.logs e.full (λ m d f. rw (e.received m d f) (omega arith))

pub digest_coherent : (w w' : World) (n c k : ℕ) → WorldInvariant w → Digests w n c k w' → CallsInvariant w'
digest_coherent w w' n c k s e =
    calm_coherent w w' s.coherent e.logs (rw e.clients.clients (omega arith)) (digested_by_all-digest w w' n c k e)
    (λ m d h. let f : Full w m = subst (λ ns. contains ns m ≡ true) e.full h in
    let o : IsOrdered w m d = s.coherent.order m d f in
    (search (digested-up, digested-received_by_all, received_by_all-digest, end-same, border-digest, arith) parts 3))
    (guarded-same w w' s.coherent e.logs.records e.leases) (compatible-same w w' s.coherent e.leases)
    (areas-digest w w' n c k s e)

pub digest_sound : (w w' : World) (n c k : ℕ) → WorldInvariant w → Digests w n c k w' → WorldInvariant w'
digest_sound w w' n c k s e = grind (arith, digest_coherent, end-same, held-same)

pub digest_falls : (w w' : World) (n c k : ℕ) → WorldInvariant w → Digests w n c k w' → NoneFalls w w'
digest_falls w w' n c k s e = calm_falls w w' s.coherent e.logs (digested_by_all-digest w w' n c k e) (received_by_all-digest w w' n c k e)
