-- The commands of a script, or the first fault of its first faulty line.
use Rattle.std.specs.Prelude.{◌≡◌, ◌≤◌, ◌⊎◌, ℕ, ◌+◌, ◌-◌, Bool, true, false, ◌||◌, is_some, All, List, [], ◌∷◌, ◌++◌, length, take, IsOk, Option, Some, None, Result, Ok, Err}
use Rattle.assise_names.specs.declared.limits.TheConstants.{MOST_NODES}
use Rattle.assise_fault_script.specs.declared.command.Command.{Command}
use Rattle.assise_fault_script.specs.declared.command.Command.TheVariants.{Cluster, Hot}
use Rattle.assise_fault_script.specs.declared.fault.ScriptFault.{ScriptFault}
use Rattle.assise_fault_script.specs.declared.fault.ScriptFault.TheVariants.{Memory}
use Rattle.assise_fault_script.specs.declared.fault.LineFault.{LineFault}
use Rattle.assise_fault_script.specs.declared.parse.NumberedCommand.{NumberedCommand}
use Rattle.assise_fault_script.specs.Line.{line_says}
use Rattle.assise_fault_script.specs.Words.{lines_of}

-- ---- the script

infixl 10 ◌>>>◌
abbrev pub ◌>>>◌ : {A B : Type 0} → Result A LineFault → (A → Result B LineFault) → Result B LineFault
(Ok x) >>> f = f x
(Err e) >>> f = Err e

-- a fault with its line
abbrev pub at_line : {A : Type 0} → ℕ → Result A ScriptFault → Result A LineFault
at_line number (Ok x) = Ok x
at_line number (Err fault) = Err record { line = number; fault = fault }

-- a command with its line, in front of the others
abbrev pub numbered_command : ℕ → Option Command → List NumberedCommand → List NumberedCommand
numbered_command number None others = others
numbered_command number (Some command) others = record { line = number; command = command } ∷ others

-- the commands of the lines from this number on; the first command of all makes the cluster
abbrev pub commands_from : ℕ → Bool → List (List ℕ) → Result (List NumberedCommand) LineFault
commands_from number built [] = Ok []
commands_from number built (line ∷ lines) =
    at_line number (line_says built line) >>> λ command.
    commands_from (number + 1) (is_some command || built) lines >>> λ others.
    Ok (numbered_command number command others)

-- the commands of a script with their lines, or its first fault
abbrev pub commands_of : List ℕ → Result (List NumberedCommand) LineFault
commands_of bytes = commands_from 1 false (lines_of bytes)

-- ---- what holds of every script

-- a line of the script, and no line in front of it is faulty
pub record IsLineReached (bytes : List ℕ) (line : ℕ) : Type 0 where
  pub first : 1 ≤ line
  pub last : line ≤ length (lines_of bytes)
  pub faultless : IsOk (commands_from 1 false (take (line - 1) (lines_of bytes)))

-- this line says a command, and no line up to it is faulty
pub record IsCommandAt (bytes : List ℕ) (line : ℕ) : Type 0 where
  pub prefix : List NumberedCommand
  pub command : Command
  pub faultless : commands_from 1 false (take line (lines_of bytes)) ≡ Ok (prefix ++ record { line = line; command = command } ∷ [])

-- makes a cluster, with numbers in the limits
abbrev pub IsCluster : Command → Type 0
IsCluster (Cluster nodes log hot) = (1 ≤ nodes) × (nodes ≤ MOST_NODES) × (8 ≤ log) × (log ≤ 4096) × (1 ≤ hot) × (hot ≤ 4096)
IsCluster _ = ⊥

-- makes no cluster; how many inodes it lets be hot is in the limits
abbrev pub IsOther : Command → Type 0
IsOther (Cluster nodes log hot) = ⊥
IsOther (Hot node capacity) = (1 ≤ capacity) × (capacity ≤ 4096)
IsOther _ = Unit {0}

-- the cluster is made by the first command and by no other
abbrev pub ClusterFirst : List NumberedCommand → Type 0
ClusterFirst [] = Unit {0}
ClusterFirst (first ∷ others) = IsCluster first.command × All (λ n. IsOther n.command) others

-- ---- a script that is read in part

-- the commands so far, the number of the next line, and whether there was a command
pub record Progress : Type 0 where
  pub commands : List NumberedCommand
  pub number : ℕ
  pub built : Bool

abbrev pub start : Progress
start = record { commands = []; number = 1; built = false }

-- one line more
abbrev pub with_line : Progress → Result (Option Command) ScriptFault → Result Progress LineFault
with_line p (Ok None) = Ok record { commands = p.commands; number = p.number + 1; built = p.built }
with_line p (Ok (Some command)) = Ok record { commands = p.commands ++ record { line = p.number; command = command } ∷ []; number = p.number + 1; built = true }
with_line p (Err fault) = Err record { line = p.number; fault = fault }

abbrev pub next : Progress → List ℕ → Result Progress LineFault
next p line = with_line p (line_says p.built line)

-- one line more was taken in, or memory ran out at a command
abbrev pub GivesNext : Progress → List ℕ → Result (Unit {0}) LineFault → Progress → Type 0
GivesNext p line (Ok _) q = next p line ≡ Ok q
GivesNext p line (Err e) q = ((e.fault ≡ Memory) × ((command : Command) × (line_says p.built line ≡ Ok (Some command)))) ⊎ (next p line ≡ Err e)
