-- A node begins to come back, and is filled: nothing changes but what nodes have that aren't full.
use Rattle.assise_model_events.proofs.Common.{◌≡◌, ℕ, zero, suc, ◌+◌, ◌-◌, ◌≤◌, Option, List, [], ◌∷◌, length, refl, ap, ◌∙◌, arith, length-append, slice_set}
use Rattle.assise_model_events.proofs.Common.{EntryValue, back_as, copied_as, Membership, Standing, standing_of, Rests, still_dropped, logs_keep, AreMembers}
use Rattle.assise_model_events.proofs.Common.{back_keeps, refill_keeps, rests, Answer, Leads, Machine, MachineInvariant, Adds, Returning, Refilling}
use Rattle.std.specs.FinSet as set
use Rattle.assise_model_events.specs.MemberEvents.Returning.{is_back, lacks_memory, is_refused}
use Rattle.assise_model_events.specs.MemberEvents.Refilling.{is_refilled, is_whole, lacks_memory as lacks_memory_there, is_refused as is_refused_there}
use Rattle.assise_model_events.proofs.Shared.EventTraces.{leads_sound, leads_recorded, same_leads, same_holds, with_world, quietly, ends_as}

-- ---- the nodes stay as many

pub as_many : (nodes : List Standing) (i : ℕ) (s : Standing) → length (slice_set nodes i s) ≡ length nodes
as_many [] i s = refl
as_many (x ∷ xs) zero s = refl
as_many (x ∷ xs) (suc i) s = ap suc (as_many xs i s)

back_many : (o : Membership) (n : ℕ) (s : Option Standing) → length (back_as o n s).nodes ≡ length o.nodes
back_many o n s = grind (arith, as_many)

back_epoch : (o : Membership) (n : ℕ) (s : Option Standing) → (back_as o n s).epoch ≡ o.epoch
back_epoch o n s = grind arith

copied_many : (nodes : List Standing) (n i : ℕ) (s : Option Standing) → length (copied_as nodes n i s) ≡ length nodes
copied_many nodes n i s = grind (arith, as_many)

-- ---- what a rest keeps

pub rest_holds : (m m' : Machine) (entries : List EntryValue) → MachineInvariant m → Leads m m' → Rests m.world m'.world → m'.leases ≡ m.leases →
    Adds m entries m' →
    m'.members.epoch ≤ m.members.epoch + length entries → AreMembers m'.world m'.members → MachineInvariant m'
rest_holds m m' entries h l e leases adds epoch members = record {
  sound = leads_sound m m' h l;
  dropped = still_dropped m.world m'.world e.logs e.nodes h.dropped;
  recorded = leads_recorded m m' h l;
  leases = rw leases (logs_keep m.world m'.world m.leases e.logs e.clients e.leases (λ c. rw (e.goals c) (omega arith)) h.leases);
  members = members;
  epochs = rw (adds.history, length-append m.history entries) (omega (arith, epoch, h.epochs));
  logs = λ c. rw (e.logs.records c, adds.limit) (h.logs c);
  clients = rw e.clients.clients h.clients;
}

-- ---- a node begins to come back

pub return_leads : (m m' : Machine) (n : ℕ) (a : Answer) → MachineInvariant m → Returning m n a m' → Leads m m'
return_leads m m' n a h (is_back fine is e) = record {
  states = with_world m m'.world ∷ [];
  trace = (quietly m m.world m'.world (rests e.comes.rests), tt);
  last = ends_as m m' m'.world (ap (λ o. length o.nodes) e.comes.members ∙ back_many m.members n (standing_of m.members.nodes n)) e.adds refl;
}
return_leads m m' n a h (lacks_memory fine is same) = same_leads m m' same
return_leads m m' n a h (is_refused r fault is same) = same_leads m m' same

pub return_holds : (m m' : Machine) (n : ℕ) (a : Answer) → MachineInvariant m → Returning m n a m' → MachineInvariant m'
return_holds m m' n a h (is_back fine is e) = grind (
  arith,
  back_epoch m.members n (standing_of m.members.nodes n),
  rest_holds m m',
  return_leads m m' n a h (is_back fine is e),
  back_keeps m.world m'.world m.members m'.members n e.comes h.members,
)
return_holds m m' n a h (lacks_memory fine is same) = same_holds m m' same h
return_holds m m' n a h (is_refused r fault is same) = same_holds m m' same h

-- ---- a node is filled

pub refill_leads : (m m' : Machine) (n : ℕ) (a : Answer) → MachineInvariant m → Refilling m n a m' → Leads m m'
refill_leads m m' n a h (is_refilled fine is e) = record {
  states = with_world m m'.world ∷ [];
  trace = (quietly m m.world m'.world (rests e.refills.rests), tt);
  last = ends_as m m' m'.world (ap (λ o. length o.nodes) e.refills.members ∙ copied_many m.members.nodes n e.inode (standing_of m.members.nodes n)) e.adds refl;
}
refill_leads m m' n a h (is_whole fine none is same) = same_leads m m' same
refill_leads m m' n a h (lacks_memory_there fine some is same) = same_leads m m' same
refill_leads m m' n a h (is_refused_there r fault is same) = same_leads m m' same

pub refill_holds : (m m' : Machine) (n : ℕ) (a : Answer) → MachineInvariant m → Refilling m n a m' → MachineInvariant m'
refill_holds m m' n a h (is_refilled fine is e) = grind
    (arith, rest_holds m m', refill_leads m m' n a h (is_refilled fine is e), refill_keeps m.world m'.world m.members m'.members n e.inode e.refills h.members)
refill_holds m m' n a h (is_whole fine none is same) = same_holds m m' same h
refill_holds m m' n a h (lacks_memory_there fine some is same) = same_holds m m' same h
refill_holds m m' n a h (is_refused_there r fault is same) = same_holds m m' same h
