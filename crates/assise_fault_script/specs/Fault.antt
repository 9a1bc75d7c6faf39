-- The first fault of a text, and what is printed of a fault.
use Rattle.std.specs.Prelude.{◌≡◌, ◌⊎◌, ℕ, if◌then◌else◌, List, [], ◌∷◌, ◌++◌, Option, Some, None, Result, Ok, Err, codes}
use Rattle.std.specs.Bool.{nat_eq}
use Rattle.std.specs.Cmp.Lexicographic.{pointwise}
use Rattle.assise_names.specs.Text.{path_fault_text}
use Rattle.assise_fault_script.specs.declared.fault.ScriptFault.{ScriptFault}
use Rattle.assise_fault_script.specs.declared.fault.ScriptFault.TheVariants.{NotUtf8, UnknownCommand, WrongCount, BadNumber, BadPath, BadData, BadKind, NoCluster, SecondCluster, BadLimit, Memory, BadLink, BadMode}

-- what comes next, unless there was a fault already
infixl 10 ◌>>=◌
abbrev pub ◌>>=◌ : {A B : Type 0} → Result A ScriptFault → (A → Result B ScriptFault) → Result B ScriptFault
(Ok x) >>= f = f x
(Err e) >>= f = Err e

-- what a word names in a table of names, and the fault where it names nothing
abbrev pub look_up : {A : Type 0} → ScriptFault → List (List ℕ × A) → List ℕ → Result A ScriptFault
look_up fault [] word = Err fault
look_up fault ((name, x) ∷ rest) word = if pointwise nat_eq word name then Ok x else look_up fault rest word

-- what is wanted was given, or memory ran out
abbrev pub GivesCommand : {X : Type 0} → Result X ScriptFault → Result X ScriptFault → Type 0
GivesCommand (Ok x) wanted = wanted ≡ Ok x
GivesCommand (Err e) wanted = (e ≡ Memory) ⊎ (wanted ≡ Err e)

-- what is wanted was given, or memory ran out where nothing is wrong
abbrev pub Answers : {X : Type 0} → Result X ScriptFault → Result X ScriptFault → Type 0
Answers (Ok x) wanted = wanted ≡ Ok x
Answers {X} (Err e) wanted = ((e ≡ Memory) × ((x : X) × (wanted ≡ Ok x))) ⊎ (wanted ≡ Err e)

-- what is wanted was given, or nothing where memory ran out and nothing is wrong
abbrev pub Makes : {X : Type 0} → Result (Option X) ScriptFault → Result X ScriptFault → Type 0
Makes (Ok (Some x)) wanted = wanted ≡ Ok x
Makes {X} (Ok None) wanted = (x : X) × (wanted ≡ Ok x)
Makes (Err e) wanted = wanted ≡ Err e

-- nothing is wrong, or the first fault
abbrev pub Checks : {X : Type 0} → Result (Unit {0}) ScriptFault → Result X ScriptFault → Type 0
Checks {X} (Ok _) wanted = (x : X) × (wanted ≡ Ok x)
Checks (Err e) wanted = wanted ≡ Err e

abbrev pub fault_text : ScriptFault → List ℕ
fault_text NotUtf8 = codes "not UTF-8"
fault_text UnknownCommand = codes "unknown command"
fault_text WrongCount = codes "wrong number of words"
fault_text BadNumber = codes "bad number"
fault_text (BadPath fault) = codes "bad path: " ++ path_fault_text fault
fault_text BadData = codes "bad data"
fault_text BadKind = codes "unknown revoker"
fault_text NoCluster = codes "no cluster yet"
fault_text SecondCluster = codes "second cluster"
fault_text BadLimit = codes "out of limits"
fault_text Memory = codes "out of memory"
fault_text BadLink = codes "unknown link"
fault_text BadMode = codes "unknown mode"
