-- What an event does is a trace of the machine's history, and so keeps what each trace keeps.
use Rattle.assise_model_events.proofs.Common.{◌≡◌, [], ◌++◌, length, refl, ap, sym, subst, ◌∙◌, append-nil, WorldInvariant, World, EntryHappens, quiet}
use Rattle.assise_model_events.proofs.Common.{NeedsNoEntry, State, IsRecorded, trace_sound, trace_recorded, Leads, Machine, MachineInvariant, Adds, state_of}

pub leads_sound : (m m' : Machine) → MachineInvariant m → Leads m m' → WorldInvariant m'.world
leads_sound m m' h l = subst (λ s. WorldInvariant s.world) l.last (trace_sound (state_of m) l.states h.sound l.trace)

pub leads_recorded : (m m' : Machine) → MachineInvariant m → Leads m m' → IsRecorded (state_of m')
leads_recorded m m' h l = subst IsRecorded l.last (trace_recorded (state_of m) l.states h.sound h.recorded l.trace)

-- ---- nothing happens

pub same_leads : (m m' : Machine) → m' ≡ m → Leads m m'
same_leads m m' same = record { states = []; trace = tt; last = ap state_of (sym same) }

pub same_holds : (m m' : Machine) → m' ≡ m → MachineInvariant m → MachineInvariant m'
same_holds m m' same h = subst MachineInvariant (sym same) h

pub same_told : (m m' : Machine) → m' ≡ m → m'.history ≡ m.history ++ []
same_told m m' same = ap (λ x. x.history) same ∙ sym (append-nil m.history)

-- ---- a step that no entry tells of

-- a state with another world
abbrev pub with_world : Machine → World → State
with_world m w = record { nodes = length m.members.nodes; history = m.history; world = w }

pub quietly : (m : Machine) (w u : World) → NeedsNoEntry w u → EntryHappens (with_world m w) (with_world m u)
quietly m w u step = quiet (record { nodes = refl; entries = refl; world = step })

-- the state at the end, where no entry was added and the nodes are as many
pub ends_as : (m m' : Machine) (w : World) → length m'.members.nodes ≡ length m.members.nodes → Adds m [] m' → m'.world ≡ w → with_world m w ≡ state_of m'
ends_as m m' w nodes adds world = rw (nodes, adds.history, append-nil m.history, world) refl
