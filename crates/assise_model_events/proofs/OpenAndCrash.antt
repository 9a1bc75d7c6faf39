-- A client is opened, and a client crashes.
use Rattle.assise_model_events.proofs.Common.{◌≡◌, ℕ, ◌<◌, None, [], ◌∷◌, length, refl, ap, arith, leb-false, Durability, MOST_CLIENTS, opens, crashes}
use Rattle.assise_model_events.proofs.Common.{open_dropped, still_dropped, open_keeps, crash_keeps, EntryHappens, opening, Opening, is_opened, is_refused}
use Rattle.assise_model_events.proofs.Common.{lacks_memory, IsOpened, Crashing, is_crashed, IsCrashed, Answer, open_fault, Leads, Machine, MachineInvariant}
use Rattle.assise_model_events.proofs.Common.{state_of}
use Rattle.assise_model_history.specs.Traces.{crash}
use Rattle.assise_model_events.proofs.Shared.EventTraces.{leads_sound, leads_recorded, same_leads, same_holds}
use Rattle.assise_model_events.proofs.Members.{members_rest, epochs_stay, logs_stay}

-- ---- faults

-- one step is a trace
pub one_step : (m m' : Machine) → EntryHappens (state_of m) (state_of m') → Leads m m'
one_step m m' step = record { states = state_of m' ∷ []; trace = (step, tt); last = refl }

-- ---- a client is opened

few_clients : (m : Machine) (n : ℕ) → open_fault m n ≡ None → m.world.clients < MOST_CLIENTS
few_clients m n fine = grind (arith, leb-false)

opened_leads : (m m' : Machine) (n : ℕ) (u : Durability) → IsOpened m n u m' → Leads m m'
opened_leads m m' n u e =
    one_step m m' (opening n u (record { adds = record { nodes = ap (λ o. length o.nodes) e.keeps.members; entry = e.adds.history }; world = e.opening.opens }))

pub opening_leads : (m m' : Machine) (n : ℕ) (u : Durability) (a : Answer) → MachineInvariant m → Opening m n u a m' → Leads m m'
opening_leads m m' n u a h s = grind (arith, opened_leads, same_leads)

pub opening_keeps : (m m' : Machine) (n : ℕ) (u : Durability) (a : Answer) → MachineInvariant m → Opening m n u a m' → MachineInvariant m'
opening_keeps m m' n u a h (is_opened fine is e) = search
    (leads_sound, opened_leads, open_dropped, leads_recorded, open_keeps, members_rest, epochs_stay, opens, logs_stay, few_clients, arith) parts 3
opening_keeps m m' n u a h (is_refused r fault is same) = same_holds m m' same h
opening_keeps m m' n u a h (lacks_memory fine is same) = same_holds m m' same h

-- ---- a client crashes

crashed_leads : (m m' : Machine) (c : ℕ) → IsCrashed m c m' → Leads m m'
crashed_leads m m' c e =
    one_step m m' (crash c (record { adds = record { nodes = ap (λ o. length o.nodes) e.keeps.members; entry = e.adds.history }; world = e.crash.crash }))

pub crashing_leads : (m m' : Machine) (c : ℕ) (a : Answer) → MachineInvariant m → Crashing m c a m' → Leads m m'
crashing_leads m m' c a h s = grind (arith, crashed_leads, same_leads)

pub crashing_keeps : (m m' : Machine) (c : ℕ) (a : Answer) → MachineInvariant m → Crashing m c a m' → MachineInvariant m'
crashing_keeps m m' c a h (is_crashed fine is e) = search
    (leads_sound, crashed_leads, still_dropped, leads_recorded, crash_keeps, members_rest, epochs_stay, crashes, logs_stay, arith) parts 3
crashing_keeps m m' c a h (lacks_memory fine is same) = same_holds m m' same h
crashing_keeps m m' c a h (is_refused r fault is same) = same_holds m m' same h
