-- What standard error gets where the script doesn't run to its end, and the exit status.
use Rattle.std.specs.Prelude.{ℕ, List, ◌++◌, codes}
use Rattle.std.specs.Fmt.{decimal}
use Rattle.assise_fault_script.specs.Fault.{fault_text}
use Rattle.assise_console.specs.declared.fault.EngineFault.{EngineFault}
use Rattle.assise_console.specs.declared.fault.EngineFault.TheVariants.{Read, Script, Memory, Write, NeedsSerial, NoThread}
use Rattle.assise_console.specs.declared.fault.SerialCommand.TheVariants.{Manual, Link}

abbrev pub fault_line : EngineFault → List ℕ → List ℕ
fault_line Read script = codes "assise: cannot read " ++ script
fault_line (Script line fault) script = codes "assise: script line " ++ decimal line ++ codes ": " ++ fault_text fault
fault_line Memory script = codes "assise: out of memory"
fault_line Write script = codes "assise: cannot write"
fault_line (NeedsSerial line Manual) script = codes "assise: script line " ++ decimal line ++ codes ": manual needs the serial mode"
fault_line (NeedsSerial line Link) script = codes "assise: script line " ++ decimal line ++ codes ": link needs the serial mode"
fault_line NoThread script = codes "assise: cannot start a thread"

abbrev pub status : EngineFault → ℕ
status Read = 3
status (Script line fault) = 2
status Memory = 1
status Write = 1
status (NeedsSerial line command) = 2
status NoThread = 1
