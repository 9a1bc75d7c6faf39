-- Calls that stand together in a script, and what is left to tell of them.
-- Assise (OSDI 2020), section 3.
use Rattle.std.specs.Prelude.{◌≡◌, ℕ, List, [], ◌∷◌, IfSome, map, length, ◌==◌, if◌then◌else◌, Option, None, Some, Result, Err}
use Rattle.std.specs.List.{AllByRecursion}
use Rattle.std.specs.Io.KnownBytes.{Appends}
use Rattle.assise_names.specs.declared.refusal.Refusal.{Refusal}
use Rattle.assise_names.specs.declared.refusal.Refusal.TheVariants.{BadClient}
use Rattle.assise_names.specs.declared.reply.Reply.{Reply}
use Rattle.assise_names.specs.declared.call.Op.{Op}
use Rattle.assise_history.specs.Entries.{EntryValue}
use Rattle.assise_fault_script.specs.declared.command.Command.{Command}
use Rattle.assise_fault_script.specs.declared.command.Command.TheVariants.{Cluster, Manual, Open, Call, Carry, Link, Hot, Digest, Release, Crash, Fail, Back, Refill, Join, Raise, Tree, History, Check}
use Rattle.assise_fault_script.specs.declared.parse.NumberedCommand.{NumberedCommand}
use Rattle.assise_model_events.specs.Machine.{Machine}
use Rattle.assise_console.specs.Lines.{line_text}
use Rattle.assise_libfs.specs.Clients.{IsSameClient, client_of, limit_of, seen_by}
use Rattle.assise_libfs.specs.declared.libfs.LibFs.{LibFs}
use Rattle.assise_workers.specs.declared.serving.ClientEnd.{ClientEnd}
use Rattle.assise_workers.specs.declared.serving.ClientList.{ClientList}
use Rattle.assise_threads.specs.declared.outcomes.Outcomes.{Outcomes}
use Rattle.assise_workers.specs.Serving.{calls_of_list}
use Rattle.assise_workers.specs.Told.{SeesAll, told_all}
use Rattle.assise_threads.specs.ClientTurns.{TurnedThere}
use Rattle.assise_threads.specs.Runs.{IsSaid}
use Rattle.assise_threads.specs.Said.{Said, TellsClient, call_in, calls_in, commands_said, outcome_answer, said_lines}

-- it is a client's call
abbrev pub IsClientCall : Command → Type 0
IsClientCall (Call c op) = Unit {0}
IsClientCall (Cluster nodes log hot) = ⊥
IsClientCall Manual = ⊥
IsClientCall (Open node kind u) = ⊥
IsClientCall (Carry node) = ⊥
IsClientCall (Link node kind) = ⊥
IsClientCall (Hot node capacity) = ⊥
IsClientCall (Digest node) = ⊥
IsClientCall Release = ⊥
IsClientCall (Crash client) = ⊥
IsClientCall (Fail node) = ⊥
IsClientCall (Back node) = ⊥
IsClientCall (Refill node) = ⊥
IsClientCall (Join node) = ⊥
IsClientCall (Raise node) = ⊥
IsClientCall (Tree node) = ⊥
IsClientCall History = ⊥
IsClientCall Check = ⊥

abbrev pub AreCalls : List NumberedCommand → Type 0
AreCalls [] = Unit {0}
AreCalls (l ∷ ls) = IsClientCall l.command × AreCalls ls

-- the list is this client with its calls of the stretch
pub record HasCalls {S : Type 0} (stretch : List NumberedCommand) (libfs : LibFs S) (list : ClientList S) : Type 0 where
  pub same : list.libfs ≡ libfs
  pub calls : calls_of_list list ≡ calls_in (client_of libfs) stretch

-- the client made its calls of the stretch, in order, each in the turns that it has, and the end has what came of each
pub record MakesCalls {S : Type 0} (stretch : List NumberedCommand) (libfs : LibFs S) (end : ClientEnd S) : Type 0 where
  pub client : IsSameClient libfs end.libfs
  pub sees : SeesAll (TurnedThere (limit_of libfs)) (client_of libfs) (calls_in (client_of libfs) stretch) (seen_by libfs) end.replies.items (seen_by end.libfs)

-- ---- what came of the clients' calls

-- clients with what came of their calls
abbrev pub Untold : Type 0
Untold = List (ℕ × List (Result Reply Refusal))

-- what isn't told yet of the first client of this number, if there is one
abbrev pub outcomes_of : ℕ → Untold → Option (List (Result Reply Refusal))
outcomes_of c [] = None
outcomes_of c (x ∷ xs) = if x.0 == c then Some x.1 else outcomes_of c xs

abbrev pub untold : List Outcomes → Untold
untold os = map (λ o. (o.client, o.left.rest.items)) os

-- of a client's end: what it has seen, and what came of its calls
abbrev pub sight_at : {S : Type 0} → ClientEnd S → ℕ × List EntryValue
sight_at e = (client_of e.libfs, seen_by e.libfs)

abbrev pub libfs_at : {S : Type 0} → ClientEnd S → LibFs S
libfs_at e = e.libfs

abbrev pub outcomes_at : {S : Type 0} → ClientEnd S → ℕ × List (Result Reply Refusal)
outcomes_at e = (client_of e.libfs, e.replies.items)

-- the first of these is taken, if there is one
abbrev pub TakesFirst : Option (List (Result Reply Refusal)) → Option (Result Reply Refusal) → Option (List (Result Reply Refusal)) → Type 0
TakesFirst None r left = (r ≡ None) × (left ≡ None)
TakesFirst (Some []) r left = (r ≡ None) × (left ≡ Some [])
TakesFirst (Some (x ∷ xs)) r left = (r ≡ Some x) × (left ≡ Some xs)

-- a call is told what is next for its client; where nothing is, that there is no such client
abbrev pub next_or_none : Option (Result Reply Refusal) → Result Reply Refusal
next_or_none None = Err BadClient
next_or_none (Some r) = r

-- the line of a call was written, with what is next for its client, and for no other client something was taken
pub record IsCallSaid (l : NumberedCommand) (before after : Untold) (old new : Option (List ℕ)) : Type 0 where
  pub outcome : Option (Result Reply Refusal)
  pub appends : Appends old new (line_text l.line [] (outcome_answer (next_or_none outcome)))
  pub next : (c : ℕ) (op : Op) → call_in c l.command ≡ op ∷ [] → TakesFirst (outcomes_of c before) outcome (outcomes_of c after)
  pub others : (c : ℕ) → call_in c l.command ≡ [] → outcomes_of c after ≡ outcomes_of c before

-- the lines of calls were written, and each client was told all that came of its calls; one that isn't there was told that there is none
abbrev pub AreTold : ℕ → List Said → Option (List (Result Reply Refusal)) → Type 0
AreTold c ss None = (rs : List (Result Reply Refusal)) × (TellsClient c ss rs × ((length rs ≡ length (calls_in c (commands_said ss))) × (((k : ℕ) → told_all c k (calls_in c (commands_said ss)) rs ≡ []) × AllByRecursion (λ r. r ≡ Err BadClient) rs)))
AreTold c ss (Some all) = TellsClient c ss all

pub record AreCallsSaid (turns : ℕ) (stretch : List NumberedCommand) (seen : Machine) (first : Untold) (old new : Option (List ℕ)) : Type 0 where
  pub said : List Said
  pub each : commands_said said ≡ stretch
  pub main : IsSaid turns seen said seen
  pub appends : Appends old new (said_lines said)
  pub told : (c : ℕ) → AreTold c said (outcomes_of c first)

-- each client made as many calls as stand in the stretch
abbrev pub HasAllOf : List NumberedCommand → Untold → Type 0
HasAllOf stretch us = (c : ℕ) → IfSome (outcomes_of c us) (λ all. length all ≡ length (calls_in c stretch))
