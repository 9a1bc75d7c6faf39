-- A node is raised: nothing else changes.
use Rattle.assise_model_events.proofs.Common.{ℕ, arith, append-nil, Membership, raised_lawful, World, AreMembers, Answer, Leads, Machine, MachineInvariant}
use Rattle.assise_model_events.proofs.Common.{Raising}
use Rattle.assise_manager.specs.Changes.{raised}
use Rattle.assise_model_events.specs.MemberEvents.Raising.{is_raised, is_refused}
use Rattle.assise_model_events.proofs.Shared.EventTraces.{ends_as, leads_recorded, leads_sound, same_holds, same_leads}

raised_members : (w : World) (o : Membership) (n : ℕ) → AreMembers w o → AreMembers w (raised o n)
raised_members w o n h = grind (arith, raised_lawful)

pub raise_leads : (m m' : Machine) (n : ℕ) (a : Answer) → Raising m n a m' → Leads m m'
raise_leads m m' n a h = grind (arith, ends_as, same_leads)

pub raise_holds : (m m' : Machine) (n : ℕ) (a : Answer) → MachineInvariant m → Raising m n a m' → MachineInvariant m'
raise_holds m m' n a h (is_raised fine is e) = grind
    (arith, raise_leads m m' n a (is_raised fine is e), leads_sound, leads_recorded, raised_members m.world m.members n h.members, append-nil m.history)
raise_holds m m' n a h (is_refused r fault is same) = same_holds m m' same h
