-- What is seen of the state in code.
use Rattle.assise_lease_tree.specs.Trees.{levels_of}
use Rattle.assise_manager.specs.Whole.{membership}
use Rattle.assise_model_events.specs.Machine.{MachineInvariant, Machine}
use Rattle.assise_machine_state.specs.Observed.{observed}
use Rattle.assise_machine_state.specs.Invariant.{CutsInvariant, ShapeInvariant}
use Rattle.assise_machine_state.specs.StateValues.{StateValue}
use Rattle.assise_machine_state.specs.declared.state.StateOf.{StateOf}

-- its value
abbrev pub value_of : {C : Type 0} → StateOf C → StateValue
value_of s = record { nodes = s.nodes; members = membership s.members; clients = s.clients; levels = levels_of s.leases; cuts = s.cuts.items; history = s.history.events; limit = s.limit }

-- what the laws observe
abbrev pub machine_of : {C : Type 0} → StateOf C → Machine
machine_of s = observed (value_of s)

-- the invariant between events: of the machine that is observed, of the shape of its parts, and of the cuts that were answered
pub record StateInvariant {C : Type 0} (s : StateOf C) : Type 0 where
  pub holds : ∥ MachineInvariant (machine_of s) ∥₁
  pub shape : ShapeInvariant (value_of s)
  pub noted : CutsInvariant (value_of s)
