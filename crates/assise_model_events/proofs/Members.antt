-- What an event of clients leaves as it is: the members, and what they hold of areas.
use Rattle.assise_model_events.proofs.Common.{◌≡◌, ℕ, suc, ◌≤◌, List, length, arith, length-append, EntryValue, Full, SameNodes, AreMembers, areas_keep}
use Rattle.assise_model_events.proofs.Common.{keeps_areas, KeepsMembers, Machine, MachineInvariant, Adds}

-- the manager stays, and so do the areas of full nodes
pub members_stay : (m m' : Machine) → MachineInvariant m → KeepsMembers m m' → m'.world.full ≡ m.world.full →
    ((k i : ℕ) → Full m.world k → m'.world.area k i ≡ m.world.area k i) → AreMembers m'.world m'.members
members_stay m m' h keeps full areas = grind (arith, areas_keep, keeps_areas)

pub members_rest : (m m' : Machine) → MachineInvariant m → KeepsMembers m m' → SameNodes m.world m'.world → AreMembers m'.world m'.members
members_rest m m' h keeps nodes = members_stay m m' h keeps nodes.full (λ k i f. (nodes.same k f).area i)

-- the history only grows
pub epochs_stay : (m m' : Machine) (es : List EntryValue) → MachineInvariant m → m'.members ≡ m.members → Adds m es m' →
    m'.members.epoch ≤ suc (length m'.history)
epochs_stay m m' es h same adds = rw (same, adds.history, length-append m.history es) (omega (arith, h.epochs))

-- logs stay
pub logs_stay : (m m' : Machine) (es : List EntryValue) → MachineInvariant m → ((c : ℕ) → m'.world.records c ≡ m.world.records c) → Adds m es m' →
    (c : ℕ) → length (m'.world.records c) ≤ m'.limit
logs_stay m m' es h same adds c = rw (same c, adds.limit) (h.logs c)
