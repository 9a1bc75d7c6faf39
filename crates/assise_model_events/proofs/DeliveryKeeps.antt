-- What nodes do keeps the invariant: a frame comes to a node.
use Rattle.assise_model_events.proofs.Common.{◌≡◌, ℕ, ◌≤◌, [], ◌∷◌, length, refl, ap, sym, subst, append-nil, arith, AreDropped, World, Full, delivers}
use Rattle.assise_model_events.proofs.Common.{AreLeases, logs_keep, AreMembers, OtherAreasStay, areas_keep, keeps_areas, Membership, LogFrame, Answer}
use Rattle.assise_model_events.proofs.Common.{place_after, Leads, Machine, MachineInvariant, Adds, IsDelivered, Delivering}
use Rattle.assise_model_world.proofs.Shared.DeliveryKeeps.{deliver_dropped}
use Rattle.assise_model_events.proofs.Shared.EventTraces.{leads_sound, leads_recorded, same_leads, same_holds, with_world, quietly, ends_as}

-- ---- where no entry is added

-- what is left to say of an event that no entry tells of
pub quiet_holds : (m m' : Machine) → MachineInvariant m → Leads m m' → Adds m [] m' → AreDropped m'.world → AreLeases m'.world m'.leases →
    AreMembers m'.world m'.members → m'.members.epoch ≡ m.members.epoch →
    ((c : ℕ) → length (m'.world.records c) ≤ length (m.world.records c)) → m'.world.clients ≡ m.world.clients → MachineInvariant m'
quiet_holds m m' h l adds dropped leases members epoch fewer clients = record {
  sound = leads_sound m m' h l;
  dropped = dropped;
  recorded = leads_recorded m m' h l;
  leases = leases;
  members = members;
  epochs = rw (epoch, adds.history, append-nil m.history) h.epochs;
  logs = λ c. rw (adds.limit) (omega (arith, fewer c, h.logs c));
  clients = rw (clients) h.clients;
}

-- full nodes' areas stay, and so do the others'
pub areas_stay : (w u : World) (o : Membership) → u.full ≡ w.full → ((k i : ℕ) → Full w k → u.area k i ≡ w.area k i) → OtherAreasStay w u →
    AreMembers w o → AreMembers u o
areas_stay w u o full area others a = areas_keep w u o a (keeps_areas w u full area others)

-- ---- a frame comes in

delivered_leads : (m m' : Machine) (f : LogFrame) (n : ℕ) → IsDelivered m f n m' → Leads m m'
delivered_leads m m' f n e = record {
  states = with_world m m'.world ∷ [];
  trace = (quietly m m.world m'.world (delivers n f.client (place_after m f n) e.delivers), tt);
  last = ends_as m m' m'.world (ap (λ o. length o.nodes) e.keeps.members) e.adds refl;
}

delivered_holds : (m m' : Machine) (f : LogFrame) (n : ℕ) → MachineInvariant m → IsDelivered m f n m' → MachineInvariant m'
delivered_holds m m' f n h e =
    quiet_holds m m' h (delivered_leads m m' f n e) e.adds
    (deliver_dropped m.world m'.world n f.client (place_after m f n) e.delivers h.dropped)
    (subst (AreLeases m'.world) (sym e.leases)
    (logs_keep m.world m'.world m.leases e.delivers.logs e.delivers.clients e.delivers.leases (λ c. rw (e.delivers.goals c) (omega arith)) h.leases))
    (subst (AreMembers m'.world) (sym e.keeps.members)
    (areas_stay m.world m'.world m.members e.delivers.full (λ k i full. e.delivers.area k i full) e.keeps.others h.members))
    (ap (λ o. o.epoch) e.keeps.members)
    (λ c. rw (e.delivers.logs.records c) (omega arith))
    e.delivers.clients.clients

pub delivery_leads : (m m' : Machine) (f : LogFrame) (n : ℕ) (a : Answer) → MachineInvariant m → Delivering m f n a m' → Leads m m'
delivery_leads m m' f n a h s = grind (arith, delivered_leads, same_leads)

pub delivery_keeps : (m m' : Machine) (f : LogFrame) (n : ℕ) (a : Answer) → MachineInvariant m → Delivering m f n a m' → MachineInvariant m'
delivery_keeps m m' f n a h s = grind (arith, delivered_holds, same_holds)
