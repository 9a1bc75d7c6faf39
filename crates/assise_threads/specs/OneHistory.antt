-- The one history of a run with threads.
-- Assise (OSDI 2020), section 3 (CC-NVM: prefix crash consistency); POSIX.1-2017, section 2.9.7 (each call appears as made at once).
use Rattle.std.specs.Prelude.{◌≡◌, ℕ, List, Option, None, Some, Result, length}
use Rattle.std.specs.List.{AllByRecursion}
use Rattle.assise_names.specs.declared.refusal.Refusal.{Refusal}
use Rattle.assise_names.specs.declared.reply.Reply.{Reply}
use Rattle.assise_history.specs.Entries.{EntryValue}
use Rattle.assise_history.specs.Legal.{IsLegal}
use Rattle.assise_keeper.specs.Clients.{Extends, calls_by, openings_of}
use Rattle.assise_machine.specs.Following.{IsWorkedTo}
use Rattle.assise_model_events.specs.Machine.{Machine}
use Rattle.assise_workers.specs.Told.{told_all}
use Rattle.assise_threads.specs.Fronts.{HearsOn}
use Rattle.assise_threads.specs.Openings.{Sights, openings_said}
use Rattle.assise_threads.specs.Said.{Said, TellsClient, calls_in, commands_said}

-- the history goes on from what the client has seen, without a call of the client
abbrev pub Covers : List EntryValue → ℕ × List EntryValue → Type 0
Covers h sight = Extends h sight.1 × (calls_by sight.0 h ≡ calls_by sight.0 sight.1)

-- the same of a client that may not be there
abbrev pub CoversSight : ℕ → List EntryValue → Option (List EntryValue) → Type 0
CoversSight c h None = Unit {0}
CoversSight c h (Some seen) = Covers h (c, seen)

-- There was a machine, to which clients' calls and what nodes do of themselves lead from the first one; its history is legal, goes on from
-- what all clients have seen, without a call of theirs, and has no opening that the first one's doesn't have.
pub record AreMet (old : Machine) (us : Sights) (new : List EntryValue) : Type 0 where
  pub between : Machine
  pub legal : ∥ IsLegal between.history ∥₁
  pub worked : IsWorkedTo old between
  pub since : Extends between.history old.history
  pub until : Extends new between.history
  pub clients : AllByRecursion (Covers between.history) us
  pub openings : openings_of between.history ≡ openings_of old.history

-- the calls of client c in the history are those that it was told, in the order of the lines
abbrev pub HasToldCalls : ℕ → List Said → List EntryValue → List (Result Reply Refusal) → Option (List EntryValue) → Type 0
HasToldCalls c ss h rs None = Unit {0}
HasToldCalls c ss h rs (Some seen) = calls_by c h ≡ told_all c 0 (calls_in c (commands_said ss)) rs

-- Client c was told, in the order of the lines, what came of its calls by fronts of the history: where it was opened, its calls in the
-- history are exactly those that it was told are answered.
pub record IsHeard (turns c : ℕ) (ss : List Said) (h : List EntryValue) : Type 0 where
  pub seen : Option (List EntryValue)
  pub on : HearsOn turns c None ss seen
  pub covers : CoversSight c h seen
  pub outcomes : List (Result Reply Refusal)
  pub count : length outcomes ≡ length (calls_in c (commands_said ss))
  pub tells : TellsClient c ss outcomes
  pub calls : HasToldCalls c ss h outcomes seen

-- The run has one legal history: what the main thread saw at each line is a front of it, its openings are those that the lines tell of,
-- in order, and each client was told what came of its calls in it.
pub record HasOneHistory (turns : ℕ) (ss : List Said) (h : List EntryValue) : Type 0 where
  pub legal : ∥ IsLegal h ∥₁
  pub fronts : AllByRecursion (λ s. Extends h s.machine.history) ss
  pub openings : openings_of h ≡ openings_said ss
  pub clients : (c : ℕ) → IsHeard turns c ss h
