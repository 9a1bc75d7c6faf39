-- What is done over links that are faithful is done over links of which less is known.
use Rattle.assise_rounds.proofs.Common.{◌≤◌, ℕ, zero, suc, Bool, Option, None, Some, arith, Refusal, MOST_NODES, node_fault, Machine, Told, EachFull}
use Rattle.assise_rounds.proofs.Common.{RoundsOver, TakesTurn, UnlessAtFault, WithWork, is_refused, replicates}
use Rattle.assise_rounds.proofs.Shared.Traces.{both}

turn_of : (F G : Type 0) → (F → G) → (n : ℕ) (m : Machine) (es : Told) (m' : Machine) → TakesTurn G n m es m' → TakesTurn F n m es m'
turn_of F G to n m es m' (replicates count h) =
    replicates count record { carried = h.carried; same = λ f. h.same (to f); counts = h.counts; told = h.told; happen = h.happen }
turn_of F G to n m es m' (is_refused r h) = is_refused r h

-- a turn, and whether there was anything to send
pub turn_over : (F G : Type 0) → (F → G) → (n : ℕ) (busy : Bool) (m m' : Machine) → (es : Told) × WithWork (TakesTurn G n) busy m es m' →
    (es : Told) × WithWork (TakesTurn F n) busy m es m'
turn_over F G to n busy m m' (es, h) = (es, record { does = turn_of F G to n m es m' h.does; work = h.work })

unless_of : (fault : Option Refusal) (Does More : Machine → Told → Machine → Type 0) (m : Machine) (es : Told) (m' : Machine) → (More m es m' → Does m es m') →
    UnlessAtFault fault More m es m' → UnlessAtFault fault Does m es m'
unless_of None Does More m es m' to h = to h
unless_of (Some r) Does More m es m' to h = h

each_of : (F G : ℕ → Type 0) (n : ℕ) → ((k : ℕ) → 1 ≤ k → k ≤ n → F k → G k) → (m : Machine) (es : Told) (m' : Machine) →
    EachFull (λ k. TakesTurn (G k) k) n m es m' → EachFull (λ k. TakesTurn (F k) k) n m es m'
each_of F G zero to m es m' h = h
each_of F G (suc n) to m es m' h =
    rw h.told
    (both _ _ _ (each_of F G n (λ k some few. to k some (omega (arith, few))) m h.before h.between h.first)
    (unless_of (node_fault h.between (suc n)) (TakesTurn (F (suc n)) (suc n)) (TakesTurn (G (suc n)) (suc n)) h.between h.after m'
    (turn_of (F (suc n)) (G (suc n)) (to (suc n) (omega arith) (omega arith)) (suc n) h.between h.after m') h.second))

-- a round, and whether there was anything to do
pub round_with : (F G : ℕ → Type 0) → ((k : ℕ) → 1 ≤ k → k ≤ MOST_NODES → F k → G k) → (busy : Bool) (m m' : Machine) →
    (es : Told) × RoundsOver G busy m es m' → (es : Told) × RoundsOver F busy m es m'
round_with F G to busy m m' (es, h) =
    let r = h.does.round in
    (es, record { does = record { round = rw r.told (both _ _ _ (each_of F G MOST_NODES to m r.before r.between r.first) r.second) }; work = h.work })
