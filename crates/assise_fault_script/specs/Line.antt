-- What a line says.
use Rattle.std.specs.Prelude.{◌≡◌, ◌⊎◌, ℕ, Bool, false, ◌==◌, if◌then◌else◌, List, [], ◌∷◌, Option, Some, None, Result, Ok, Err}
use Rattle.std.specs.Str.{is_utf8}
use Rattle.assise_fault_script.specs.declared.command.Command.{Command}
use Rattle.assise_fault_script.specs.declared.command.Command.TheVariants.{Call}
use Rattle.assise_fault_script.specs.declared.command.Keyword as first
use Rattle.assise_fault_script.specs.declared.command.Keyword.TheVariants.{Cluster}
use Rattle.assise_fault_script.specs.declared.fault.ScriptFault.{ScriptFault}
use Rattle.assise_fault_script.specs.declared.fault.ScriptFault.TheVariants.{NotUtf8, UnknownCommand, NoCluster, SecondCluster, Memory}
use Rattle.assise_fault_script.specs.Calls.{call_command, call_word}
use Rattle.assise_fault_script.specs.Fault.{◌>>=◌}
use Rattle.assise_fault_script.specs.Keywords.{keyword_command, keyword_of}
use Rattle.assise_fault_script.specs.Number.{is_digit, number_of}
use Rattle.assise_fault_script.specs.Words.{words_of}

-- a command before this line made the cluster
abbrev pub cluster_there : Bool → Result (Unit {0}) ScriptFault
cluster_there built = if built then Ok tt else Err NoCluster

-- `cluster` comes first, and everything else behind it
abbrev pub in_turn : Bool → first.Keyword → Result (Unit {0}) ScriptFault
in_turn built Cluster = if built then Err SecondCluster else Ok tt
in_turn built _ = cluster_there built

abbrev pub begins_with_digit : List ℕ → Bool
begins_with_digit [] = false
begins_with_digit (b ∷ bs) = is_digit b

-- a client's number, and no call
abbrev pub nameless_call : List ℕ → Result (Option Command) ScriptFault
nameless_call client = number_of client >>= λ _. Err UnknownCommand

-- a client's number and its call are known, then the cluster is there, then the words behind them
abbrev pub client_command : Bool → List ℕ → List (List ℕ) → Result (Option Command) ScriptFault
client_command built client [] = nameless_call client
client_command built client (name ∷ rest) = number_of client >>= λ c. call_word name >>= λ k. cluster_there built >>= λ _. call_command k rest >>= λ op. Ok (Some (Call c op))

-- a keyword is known, then the cluster is there, then the words behind it
abbrev pub other_command : Bool → List ℕ → List (List ℕ) → Result (Option Command) ScriptFault
other_command built word rest = keyword_of word >>= λ k. in_turn built k >>= λ _. keyword_command k rest >>= λ c. Ok (Some c)

-- the command that words make; none is none
abbrev pub command_of : Bool → List (List ℕ) → Result (Option Command) ScriptFault
command_of built [] = Ok None
command_of built (word ∷ rest) = if begins_with_digit word then client_command built word rest else other_command built word rest

-- what is wanted was given, or memory ran out at a command without a fault
abbrev pub AnswersLine : Result (Option Command) ScriptFault → Result (Option Command) ScriptFault → Type 0
AnswersLine (Ok x) wanted = wanted ≡ Ok x
AnswersLine (Err e) wanted = ((e ≡ Memory) × ((command : Command) × (wanted ≡ Ok (Some command)))) ⊎ (wanted ≡ Err e)

-- the first byte is `#`
abbrev pub is_comment : List ℕ → Bool
is_comment [] = false
is_comment (b ∷ bs) = b == 35

-- a command, nothing, or the first fault
abbrev pub line_says : Bool → List ℕ → Result (Option Command) ScriptFault
line_says built line =
    if is_comment line then Ok None
    else (if is_utf8 line then command_of built (words_of line) else Err NotUtf8)
