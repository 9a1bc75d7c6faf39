-- What a run with threads writes for a script, and what its faults say.
use Rattle.std.specs.Prelude.{◌≡◌, ℕ, List, [], ◌∷◌, Option, None, Some}
use Rattle.std.specs.Io.KnownBytes.{Appends}
use Rattle.assise_fault_script.specs.declared.command.Command.{Command}
use Rattle.assise_fault_script.specs.declared.command.Command.TheVariants.{Manual, Link}
use Rattle.assise_fault_script.specs.declared.parse.NumberedCommand.{NumberedCommand}
use Rattle.assise_console.specs.Engines.{IsInput, IsScript, IsScriptFault}
use Rattle.assise_console.specs.declared.fault.EngineFault.{EngineFault}
use Rattle.assise_console.specs.declared.fault.EngineFault.TheVariants.{Read, Script, Memory, Write, NeedsSerial, NoThread}
use Rattle.assise_console.specs.declared.fault.SerialCommand.{SerialCommand}
use Rattle.assise_console.specs.declared.fault.SerialCommand.TheVariants.{Manual as manual, Link as link}
use Rattle.assise_workers.specs.declared.running.RunFault.{RunFault}
use Rattle.assise_workers.specs.declared.running.RunFault.TheVariants.{Memory as TooLittle, NoThread as TooFew}
use Rattle.assise_machine.specs.Following.{IsWorkedTo}
use Rattle.assise_model_events.specs.Machine.{Machine}
use Rattle.assise_threads.specs.Answered.{AnswersCommand}
use Rattle.assise_threads.specs.Begun.{machine_begun}
use Rattle.assise_threads.specs.OneHistory.{HasOneHistory}
use Rattle.assise_threads.specs.Said.{Said, commands_said, said_lines}

-- each command is answered behind those before it, calls and returns in `turns` turns at most: the machine goes on from command to command
abbrev pub IsSaid : ℕ → Machine → List Said → Machine → Type 0
IsSaid turns old [] new = new ≡ old
IsSaid turns old (s ∷ ss) new = AnswersCommand turns s.command.command s.answer old s.machine × IsSaid turns s.machine ss new

-- These commands were run with threads, with `turns` turns for a call or a return, and from the machine that the first makes on this was
-- said. It has one history: that of a last machine, to which calls and what nodes do of themselves lead.
pub record IsThreadRun (turns : ℕ) (commands : List NumberedCommand) (ss : List Said) : Type 0 where
  pub each : commands_said ss ≡ commands
  pub seen : Machine
  pub main : IsSaid turns (machine_begun commands) ss seen
  pub last : Machine
  pub worked : IsWorkedTo seen last
  pub one : HasOneHistory turns ss last.history

-- they were run, and the lines of what was said were written, and nothing else
pub record IsRunSaid (turns : ℕ) (commands : List NumberedCommand) (old new : Option (List ℕ)) : Type 0 where
  pub said : List Said
  pub run : IsThreadRun turns commands said
  pub appends : Appends old new (said_lines said)

-- what a command is that only a run on one thread serves
abbrev pub serial_command : Command → Option SerialCommand
serial_command Manual = Some manual
serial_command (Link n kind) = Some link
serial_command command = None

-- the first line with such a command
abbrev pub or_later : ℕ → Option SerialCommand → Option (ℕ × SerialCommand) → Option (ℕ × SerialCommand)
or_later line None later = later
or_later line (Some command) later = Some (line, command)

abbrev pub serial_line : List NumberedCommand → Option (ℕ × SerialCommand)
serial_line [] = None
serial_line (l ∷ ls) = or_later l.line (serial_command l.command) (serial_line ls)

-- the reader gave a script that threads can serve, and it was run
pub record PrintsByThreads (turns : ℕ) (known old new : Option (List ℕ)) : Type 0 where
  pub input : List ℕ
  pub commands : List NumberedCommand
  pub given : IsInput known input
  pub script : IsScript input commands
  pub served : serial_line commands ≡ None
  pub run : IsRunSaid turns commands old new

-- the reader gave these bytes, with a first fault of the script, or with a line that only the serial mode runs; nothing was written
abbrev pub ThreadFault : EngineFault → Option (List ℕ) → Option (List ℕ) → Option (List ℕ) → Type 0
ThreadFault Read known old new = new ≡ old
ThreadFault (Script line fault) known old new = (input : List ℕ) × (IsInput known input × (IsScriptFault input line fault × (new ≡ old)))
ThreadFault (NeedsSerial line command) known old new = (input : List ℕ) × (IsInput known input × ((commands : List NumberedCommand) × (IsScript input commands × ((serial_line commands ≡ Some (line, command)) × (new ≡ old)))))
ThreadFault Memory known old new = Unit {0}
ThreadFault Write known old new = Unit {0}
ThreadFault NoThread known old new = Unit {0}

-- what the engine ends with where the run of a stretch isn't whole
abbrev pub fault_of_run : RunFault → EngineFault
fault_of_run TooLittle = Memory
fault_of_run TooFew = NoThread

-- what may end a run in its midst
abbrev pub EndsRun : EngineFault → Type 0
EndsRun Memory = Unit {0}
EndsRun Write = Unit {0}
EndsRun NoThread = Unit {0}
EndsRun Read = ⊥
EndsRun (Script line fault) = ⊥
EndsRun (NeedsSerial line command) = ⊥
