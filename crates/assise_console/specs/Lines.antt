-- What a whole run prints.
use Rattle.std.specs.Prelude.{◌≡◌, ℕ, true, false, List, [], ◌∷◌, ◌++◌, codes, Option}
use Rattle.std.specs.Io.KnownBytes.{Appends}
use Rattle.std.specs.List.{flat_map}
use Rattle.std.specs.Fmt.{decimal}
use Rattle.assise_names.specs.Text.{refusal_text, reply_text}
use Rattle.assise_seq_tree.specs.Lines.{tree_text}
use Rattle.assise_history.specs.Entries.{EntryValue}
use Rattle.assise_history.specs.Text.{history_text}
use Rattle.assise_fault_script.specs.declared.parse.NumberedCommand.{NumberedCommand}
use Rattle.assise_console.specs.declared.response.Response.{Response}
use Rattle.assise_console.specs.declared.response.Response.TheVariants.{Quiet, Client, Replied, Waits, Refused, Carried, Digested, Released, Linked, HotSet, Crashed, Failed, Began, Left, Returned, Raised, Tree, History, Checked}
use Rattle.assise_rounds.specs.Traces.{Told}
use Rattle.assise_console.specs.State.{ConsoleState}
use Rattle.assise_console.specs.Steps.{Serves}

-- a space before a client with the number of its first lost call
abbrev pub lost_call_text : ℕ × ℕ → List ℕ
lost_call_text loss = codes " " ++ decimal loss.0 ++ codes ":" ++ decimal loss.1

abbrev pub lost_text : List (ℕ × ℕ) → List ℕ
lost_text losses = flat_map lost_call_text losses

-- the text of an answer, where the history so far is this
abbrev pub answer_text : List EntryValue → Response → List ℕ
answer_text h Quiet = []
answer_text h (Client c) = codes "client " ++ decimal c
answer_text h (Replied reply) = reply_text reply
answer_text h Waits = codes "wait"
answer_text h (Refused refusal) = refusal_text refusal
answer_text h (Carried count) = codes "carried " ++ decimal count
answer_text h (Digested count) = codes "digested " ++ decimal count
answer_text h (Released count) = codes "released " ++ decimal count
answer_text h (Linked node) = codes "linked " ++ decimal node
answer_text h (HotSet node) = codes "hot " ++ decimal node
answer_text h (Crashed client) = codes "crashed " ++ decimal client
answer_text h (Failed node losses) = codes "failed " ++ decimal node ++ lost_text losses.items
answer_text h (Began node stale) = codes "back " ++ decimal node ++ codes " stale " ++ decimal stale
answer_text h (Left stale) = codes "left " ++ decimal stale
answer_text h (Returned node) = codes "returned " ++ decimal node
answer_text h (Raised node) = codes "raised " ++ decimal node
answer_text h (Tree tree) = tree_text tree
answer_text h History = history_text h
answer_text h (Checked true) = codes "legal"
answer_text h (Checked false) = codes "illegal"

-- the number of its line, a colon and a space before it, and a line feed after it
abbrev pub numbered_line : ℕ → List ℕ → List ℕ
numbered_line n text = decimal n ++ codes ": " ++ text ++ 10 ∷ []

-- the line of an answer, if it prints one
abbrev pub line_text : ℕ → List EntryValue → Response → List ℕ
line_text n h Quiet = []
line_text n h a = numbered_line n (answer_text h a)

-- a command was run by these events, and its answer was written and nothing else
pub record PrintsOne (s : ConsoleState) (l : NumberedCommand) (t : ConsoleState) (old new : Option (List ℕ)) : Type 0 where
  pub answer : Response
  pub told : Told
  pub serves : Serves s l.command told answer t
  pub appends : Appends old new (line_text l.line t.machine.history answer)

-- the first command's answer and events, and those of the others behind them
pub record PrintsFirst (Others : ConsoleState → Told → List ℕ → Type 0) (s : ConsoleState) (l : NumberedCommand) (es : Told) (text : List ℕ) : Type 0 where
  pub answer : Response
  pub next : ConsoleState
  pub now : Told
  pub later : Told
  pub rest : List ℕ
  pub serves : Serves s l.command now answer next
  pub told : es ≡ now ++ later
  pub line : text ≡ line_text l.line next.machine.history answer ++ rest
  pub others : Others next later rest

-- the lines of the commands' answers, one after another, with the events by which they were run
abbrev pub Prints : ConsoleState → List NumberedCommand → Told → List ℕ → ConsoleState → Type 0
Prints s [] es text t = (es ≡ []) × ((text ≡ []) × (t ≡ s))
Prints s (l ∷ more) es text t = PrintsFirst (λ u later rest. Prints u more later rest t) s l es text

-- these commands were run by some events, and the lines of their answers were written and nothing else
abbrev pub PrintsAll : ConsoleState → List NumberedCommand → ConsoleState → Option (List ℕ) → Option (List ℕ) → Type 0
PrintsAll s commands t old new = (told : Told) × ((text : List ℕ) × (Prints s commands told text t × Appends old new text))
