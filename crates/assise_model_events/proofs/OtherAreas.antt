-- What happens at one node leaves the areas of all others.
use Rattle.assise_model_events.proofs.Common.{◌≡◌, ◌≢◌, ℕ, zero, suc, ap, ◌∙◌, arith, Op, Reply, LogFrame, Membership, World, Full, Calling, digested, received}
use Rattle.assise_model_events.proofs.Common.{replied, Machine, MachineInvariant, Delivering, Digesting, DigestsTo}
use Rattle.assise_model_events.proofs.Shared.LeaseSteps.{comes_to, full_after}

pub delivered_areas : (m m' : Machine) (f : LogFrame) (n k : ℕ) → Delivering m f n (received k) m' → (j i : ℕ) → Full m.world j →
    m'.world.area j i ≡ m.world.area j i
delivered_areas m m' f n k h j i there = grind arith

-- the same nodes are full after each client's part, and their areas stay
digests_full : (n count : ℕ) (w₀ w : World) (o : Membership) (c : ℕ) (u : World) (p : Membership) → DigestsTo n count w₀ w o c u p → u.full ≡ w.full
digests_full n count w₀ w o zero u p (same, stay) = ap (λ x. x.full) same
digests_full n count w₀ w o (suc c) u p (v, (q, (before, step))) = step.digests.digests.full ∙ digests_full n count w₀ w o c v q before

digests_areas : (n count : ℕ) (w₀ w : World) (o : Membership) (c : ℕ) (u : World) (p : Membership) → DigestsTo n count w₀ w o c u p →
    (j i : ℕ) → Full w j → j ≢ n → u.area j i ≡ w.area j i
digests_areas n count w₀ w o zero u p (same, stay) j i there other = ap (λ x. x.area j i) same
digests_areas n count w₀ w o (suc c) u p (v, (q, (before, step))) j i there other = grind
    (arith, digests_areas n count w₀ w o c v q before j i there other, full_after, digests_full)

pub digested_areas : (m m' : Machine) (n count : ℕ) → Digesting m n (digested count) m' → (j i : ℕ) → Full m.world j → j ≢ n →
    m'.world.area j i ≡ m.world.area j i
digested_areas m m' n count h j i there other = grind (arith, full_after, digests_full, digests_areas)

pub called_areas : (m m' : Machine) (c : ℕ) (op : Op) (reply : Reply) → MachineInvariant m → Calling m c op (replied reply) m' → (j i : ℕ) → Full m.world j →
    m'.world.area j i ≡ m.world.area j i
called_areas m m' c op reply h s j i there = grind (arith, comes_to, full_after)
