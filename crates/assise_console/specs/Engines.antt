-- What the engine writes for an input, and what each of its faults says.
use Rattle.std.specs.Prelude.{◌≡◌, ◌⊎◌, ℕ, List, [], ◌∷◌, IfSome, Option, Ok, Err}
use Rattle.std.specs.Io.KnownBytes.{Appends}
use Rattle.std.specs.declared.io.ErrorKind.{ErrorKind}
use Rattle.std.specs.declared.io.ErrorKind.TheVariants.{OutOfMemory}
use Rattle.assise_history.specs.Legal.{IsLegal}
use Rattle.assise_model_events.specs.Events.{all_entries}
use Rattle.assise_fault_script.specs.Script.{IsCommandAt, commands_of}
use Rattle.assise_fault_script.specs.declared.command.Command.{Command}
use Rattle.assise_fault_script.specs.declared.command.Command.TheVariants.{Cluster}
use Rattle.assise_fault_script.specs.declared.fault.ScriptFault.{ScriptFault}
use Rattle.assise_fault_script.specs.declared.fault.ScriptFault.TheVariants.{Memory as no_memory}
use Rattle.assise_fault_script.specs.declared.parse.NumberedCommand.{NumberedCommand}
use Rattle.assise_console.specs.declared.fault.EngineFault.{EngineFault}
use Rattle.assise_console.specs.declared.fault.EngineFault.TheVariants.{Read, Script, Memory, Write, NeedsSerial, NoThread}
use Rattle.assise_rounds.specs.Traces.{IsEventTrace, Told}
use Rattle.assise_console.specs.Lines.{Prints, PrintsAll}
use Rattle.assise_console.specs.State.{ConsoleState, Stocks, begun_console}

-- ---- a script's bytes

-- the bytes are a script of these commands
abbrev pub IsScript : List ℕ → List NumberedCommand → Type 0
IsScript input commands = commands_of input ≡ Ok commands

-- the command makes a cluster, and this is its console then
pub record ClusterIsBegun (c : Command) (stock : Stocks) (turns : ℕ) (s : ConsoleState) : Type 0 where
  pub nodes : ℕ
  pub log : ℕ
  pub hot : ℕ
  pub cluster : c ≡ Cluster nodes log hot
  pub console : s ≡ begun_console nodes log hot stock turns

-- these commands were run from this state on, and the lines of their answers were written, and nothing else
abbrev pub RunsFrom : ConsoleState → List NumberedCommand → Option (List ℕ) → Option (List ℕ) → Type 0
RunsFrom s commands old new = (end : ConsoleState) × PrintsAll s commands end old new

-- the first command makes a cluster, on which all were run; their answers come from events on it, and its history has exactly the
-- entries of these events and is legal
pub record RunsScript (stock : Stocks) (turns : ℕ) (first : NumberedCommand) (others : List NumberedCommand) (old new : Option (List ℕ)) : Type 0 where
  pub start : ConsoleState
  pub begins : ClusterIsBegun first.command stock turns start
  pub told : Told
  pub text : List ℕ
  pub end : ConsoleState
  pub prints : Prints start (first ∷ others) told text end
  pub appends : Appends old new text
  pub trace : IsEventTrace start.machine told end.machine
  pub history : end.machine.history ≡ all_entries [] told
  pub legal : IsLegal end.machine.history

-- no command writes nothing
abbrev pub Ran : Stocks → ℕ → List NumberedCommand → Option (List ℕ) → Option (List ℕ) → Type 0
Ran stock turns [] old new = Appends old new []
Ran stock turns (first ∷ others) old new = RunsScript stock turns first others old new

-- there was no memory for the cluster, and nothing was written; or the writer failed
abbrev pub IsRunFault : EngineFault → Option (List ℕ) → Option (List ℕ) → Type 0
IsRunFault Memory old new = new ≡ old
IsRunFault Write old new = Unit {0}
IsRunFault Read old new = ⊥
IsRunFault (Script line fault) old new = ⊥
IsRunFault (NeedsSerial line command) old new = ⊥
IsRunFault NoThread old new = ⊥

-- the bytes are a script, and it was run
abbrev pub Printed : Stocks → ℕ → List ℕ → Option (List ℕ) → Option (List ℕ) → Type 0
Printed stock turns input old new = (commands : List NumberedCommand) × (IsScript input commands × Ran stock turns commands old new)

-- the first fault of the bytes; or a line says a command, no line up to it is faulty, and there was no memory for the command
abbrev pub IsScriptFault : List ℕ → ℕ → ScriptFault → Type 0
IsScriptFault input line fault = ((fault ≡ no_memory) × IsCommandAt input line) ⊎ (commands_of input ≡ Err record { line = line; fault = fault })

-- the bytes are no script, and nothing was written; or they are one, and there was no memory for its cluster, and nothing was written; or the writer failed
abbrev pub FaultOf : EngineFault → List ℕ → Option (List ℕ) → Option (List ℕ) → Type 0
FaultOf (Script line fault) input old new = IsScriptFault input line fault × (new ≡ old)
FaultOf Memory input old new = ((commands : List NumberedCommand) × IsScript input commands) × (new ≡ old)
FaultOf Write input old new = (commands : List NumberedCommand) × IsScript input commands
FaultOf Read input old new = ⊥
FaultOf (NeedsSerial line command) input old new = ⊥
FaultOf NoThread input old new = ⊥

-- ---- what a reader gave

-- these are the bytes of the reader, where they are known
abbrev pub IsInput : Option (List ℕ) → List ℕ → Type 0
IsInput known input = IfSome known (λ bytes. input ≡ bytes)

-- the reader gave a script, and it was run
abbrev pub PrintedFrom : Stocks → ℕ → Option (List ℕ) → Option (List ℕ) → Option (List ℕ) → Type 0
PrintedFrom stock turns known old new = (input : List ℕ) × (IsInput known input × Printed stock turns input old new)

-- nothing was written where the reader failed, or there was no memory for what it gave; every other fault is one of what it gave
abbrev pub FaultFrom : EngineFault → Option (List ℕ) → Option (List ℕ) → Option (List ℕ) → Type 0
FaultFrom Read known old new = new ≡ old
FaultFrom Memory known old new = new ≡ old
FaultFrom (Script line fault) known old new = (input : List ℕ) × (IsInput known input × FaultOf (Script line fault) input old new)
FaultFrom Write known old new = (input : List ℕ) × (IsInput known input × FaultOf Write input old new)
FaultFrom (NeedsSerial line command) known old new = ⊥
FaultFrom NoThread known old new = ⊥

-- a reader's failure is its own, unless memory was wanting for what it gave
abbrev pub read_fault : ErrorKind → EngineFault
read_fault OutOfMemory = Memory
read_fault _ = Read

-- the reader failed, or there was no memory for what it gave
abbrev pub IsReadFault : EngineFault → Type 0
IsReadFault Read = Unit {0}
IsReadFault Memory = Unit {0}
IsReadFault (Script line fault) = ⊥
IsReadFault Write = ⊥
IsReadFault (NeedsSerial line command) = ⊥
IsReadFault NoThread = ⊥
