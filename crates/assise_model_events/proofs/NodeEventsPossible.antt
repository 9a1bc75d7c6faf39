-- What happens to nodes can happen: each outcome leads to a machine.
use Rattle.assise_model_events.proofs.Common.{◌≡◌, ℕ, ◌<◌, [], ◌∷◌, ◌++◌, Option, Some, None, refl, sym, arith, append-nil, ne_eqb, Busy, returns}
use Rattle.assise_model_events.proofs.Common.{filling_fault, filling_fault_of, join_fault, join_fault_of, return_fault, stale_of, Standing, standing_of}
use Rattle.assise_model_events.proofs.Common.{may_come_back, may_fill_one, may_refill, may_rejoin, began, joined, left, MachineInvariant, Machine, Joining}
use Rattle.assise_model_events.proofs.Common.{Refilling, Returning, count_of, is_back, is_joined, is_refilled, stale_at}
use Rattle.std.specs.FinSet as set

pub back_can : (m : Machine) (n : ℕ) → MachineInvariant m → return_fault m.members n ≡ None → (m' : Machine) × Returning m n (began (stale_at m'.members n)) m'
back_can m n h fine =
    let (u, o, comes) = may_come_back m.world m.members n h.members fine in (
      record m { world = u; members = o },
      is_back fine refl (record { comes = comes; leases = refl; adds = record { history = sym (append-nil m.history); limit = refl; hot = refl } }),
    )

-- a node that may lack inodes can't join yet
is_busy : (s : Option Standing) → filling_fault_of s ≡ None → 0 < count_of (stale_of s) → join_fault_of s ≡ Some Busy
is_busy s fine some = grind (arith, ne_eqb)

pub refilled_can : (m : Machine) (n : ℕ) → MachineInvariant m → filling_fault m.members n ≡ None → 0 < stale_at m.members n →
    (m' : Machine) × Refilling m n (left (stale_at m'.members n)) m'
refilled_can m n h fine some =
    let (i, may) = may_fill_one m.members n (is_busy (standing_of m.members.nodes n) fine some) in
    let (u, o, refills) = may_refill m.world m.members n h.members i may in (
      record m { world = u; members = o },
      is_refilled fine refl (grind (arith, append-nil)),
    )

pub joined_can : (m : Machine) (n : ℕ) → MachineInvariant m → join_fault m.members n ≡ None → (m' : Machine) × Joining m n joined m'
joined_can m n h fine =
    let (u, o, rejoins) = may_rejoin m.world m.members n h.members fine in (
      record m { history = m.history ++ returns n ∷ []; world = u; members = o },
      is_joined fine refl (record { rejoins = rejoins; leases = refl; adds = record { history = refl; limit = refl; hot = refl } }),
    )
