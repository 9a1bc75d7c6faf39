-- Which states of a cluster come behind which.
-- Assise (OSDI 2020), section 3 (a process's calls, and what a node's SharedFS does of itself).
use Rattle.std.proofs.Common.{refl, subst, List, [], ◌∷◌, ◌++◌}
use Rattle.assise_model_events.specs.Events.{Answer, ClusterEvent, open_client, try_call, try_fsync, outgoing, deliver, digest, release_ready, set_hot, crash, fail, back, refill, join, raise}
use Rattle.assise_model_events.specs.Happenings.{AllHappen, Happens}
use Rattle.assise_model_events.specs.Machine.{Machine}

-- events lead from one state to the other
abbrev pub IsLedTo : Machine → Machine → Type 0
IsLedTo m m' = (es : List (ClusterEvent × Answer)) × AllHappen m es m'

pub led_to_itself : (m : Machine) → IsLedTo m m
led_to_itself m = ([], refl)

all_then : (m v m' : Machine) (es fs : List (ClusterEvent × Answer)) → AllHappen m es v → AllHappen v fs m' → AllHappen m (es ++ fs) m'
all_then m v m' [] fs same more = subst (λ z. AllHappen z fs m') same more
all_then m v m' ((e, a) ∷ es) fs (next, (first, rest)) more = (next, (first, all_then next v m' es fs rest more))

pub led_on : (m v m' : Machine) → IsLedTo m v → IsLedTo v m' → IsLedTo m m'
led_on m v m' (es, first) (fs, more) = (es ++ fs, all_then m v m' es fs first more)

-- one event leads on
pub led_by : (m : Machine) (e : ClusterEvent) (a : Answer) (m' : Machine) → Happens m e a m' → IsLedTo m m'
led_by m e a m' happens = ((e, a) ∷ [], (m', (happens, refl)))

-- ---- clients are served

-- a client's call, or what nodes do of themselves: replicate, digest, and let go of leases
abbrev pub IsWork : ClusterEvent → Type 0
IsWork (open_client n u) = ⊥
IsWork (try_call c op) = Unit {0}
IsWork (try_fsync c) = Unit {0}
IsWork (outgoing n) = Unit {0}
IsWork (deliver f n) = Unit {0}
IsWork (digest n) = Unit {0}
IsWork release_ready = Unit {0}
IsWork (set_hot n capacity) = ⊥
IsWork (crash c) = ⊥
IsWork (fail n) = ⊥
IsWork (back n) = ⊥
IsWork (refill n) = ⊥
IsWork (join n) = ⊥
IsWork (raise n) = ⊥

-- all of these events are such
abbrev pub AreWork : List (ClusterEvent × Answer) → Type 0
AreWork [] = Unit {0}
AreWork (x ∷ xs) = IsWork x.0 × AreWork xs

-- such events alone lead from one state to the other
abbrev pub IsWorkedTo : Machine → Machine → Type 0
IsWorkedTo m m' = (es : List (ClusterEvent × Answer)) × (AreWork es × AllHappen m es m')

pub worked_to_itself : (m : Machine) → IsWorkedTo m m
worked_to_itself m = ([], (tt, refl))

work_then : (es fs : List (ClusterEvent × Answer)) → AreWork es → AreWork fs → AreWork (es ++ fs)
work_then [] fs first more = more
work_then (x ∷ xs) fs (one, rest) more = (one, work_then xs fs rest more)

pub worked_on : (m v m' : Machine) → IsWorkedTo m v → IsWorkedTo v m' → IsWorkedTo m m'
worked_on m v m' (es, (work, first)) (fs, (works, more)) = (es ++ fs, (work_then es fs work works, all_then m v m' es fs first more))

-- one such event leads on
pub worked_by : (m : Machine) (e : ClusterEvent) (a : Answer) (m' : Machine) → IsWork e → Happens m e a m' → IsWorkedTo m m'
worked_by m e a m' is happens = ((e, a) ∷ [], ((is, tt), (m', (happens, refl))))
