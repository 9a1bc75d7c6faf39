-- What a run with threads says: the answer of each command, in the script's order.
-- Assise (OSDI 2020), section 3 (CC-NVM: prefix crash consistency); POSIX.1-2017, section 2.9.7 (each call appears as made at once).
use Rattle.std.specs.Prelude.{◌≡◌, ℕ, List, [], ◌∷◌, ◌++◌, ◌==◌, if◌then◌else◌, map, Result, Ok, Err}
use Rattle.std.specs.List.{flat_map}
use Rattle.assise_names.specs.declared.call.Op.{Op}
use Rattle.assise_names.specs.declared.refusal.Refusal.{Refusal}
use Rattle.assise_names.specs.declared.reply.Reply.{Reply}
use Rattle.assise_model_events.specs.Machine.{Machine}
use Rattle.assise_fault_script.specs.declared.command.Command.{Command}
use Rattle.assise_fault_script.specs.declared.command.Command.TheVariants.{Cluster, Manual, Open, Call, Carry, Link, Hot, Digest, Release, Crash, Fail, Back, Refill, Join, Raise, Tree, History, Check}
use Rattle.assise_fault_script.specs.declared.parse.NumberedCommand.{NumberedCommand}
use Rattle.assise_console.specs.declared.response.Response.{Response}
use Rattle.assise_console.specs.declared.response.Response.TheVariants.{Replied, Refused}
use Rattle.assise_console.specs.Lines.{line_text}

-- a command, its answer, and the machine that was seen last when it was answered
pub record Said : Type 0 where
  pub command : NumberedCommand
  pub answer : Response
  pub machine : Machine

-- the lines that are written, in the order of the commands
abbrev pub said_line : Said → List ℕ
said_line s = line_text s.command.line s.machine.history s.answer

abbrev pub said_lines : List Said → List ℕ
said_lines ss = flat_map said_line ss

abbrev pub commands_said : List Said → List NumberedCommand
commands_said ss = map (λ s. s.command) ss

-- ---- what a client was told

-- the command's call of client c, if it is one
abbrev pub call_in : ℕ → Command → List Op
call_in c (Call d op) = if d == c then op ∷ [] else []
call_in c (Cluster nodes log hot) = []
call_in c Manual = []
call_in c (Open node kind u) = []
call_in c (Carry node) = []
call_in c (Link node kind) = []
call_in c (Hot node capacity) = []
call_in c (Digest node) = []
call_in c Release = []
call_in c (Crash client) = []
call_in c (Fail node) = []
call_in c (Back node) = []
call_in c (Refill node) = []
call_in c (Join node) = []
call_in c (Raise node) = []
call_in c (Tree node) = []
call_in c History = []
call_in c Check = []

-- the calls of client c, in the order of the lines
abbrev pub calls_in : ℕ → List NumberedCommand → List Op
calls_in c ls = flat_map (λ l. call_in c l.command) ls

-- what a call is answered with: a reply or a refusal
abbrev pub outcome_answer : Result Reply Refusal → Response
outcome_answer (Ok reply) = Replied reply
outcome_answer (Err refusal) = Refused refusal

-- the answers of the calls of client c are these outcomes, in the order of the lines
abbrev pub TellsCall : List Op → Response → List (Result Reply Refusal) → Type 0
TellsCall [] a rs = rs ≡ []
TellsCall (op ∷ ops) a rs = (r : Result Reply Refusal) × ((a ≡ outcome_answer r) × (rs ≡ r ∷ []))

abbrev pub TellsClient : ℕ → List Said → List (Result Reply Refusal) → Type 0
TellsClient c [] rs = rs ≡ []
TellsClient c (s ∷ ss) rs = (now : List (Result Reply Refusal)) × ((later : List (Result Reply Refusal)) × (TellsCall (call_in c s.command.command) s.answer now × (TellsClient c ss later × (rs ≡ now ++ later))))
