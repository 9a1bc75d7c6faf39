-- What a client hears, line after line: of each call what came of it, by fronts of one history.
-- Assise (OSDI 2020), section 3 (CC-NVM: prefix crash consistency); POSIX.1-2017, section 2.9.7 (each call appears as made at once).
use Rattle.std.specs.Prelude.{◌≡◌, ℕ, Bool, true, false, List, [], ◌∷◌, ◌==◌, Option, None, Some, Result}
use Rattle.assise_names.specs.declared.call.Op.{Op}
use Rattle.assise_names.specs.declared.refusal.Refusal.{Refusal}
use Rattle.assise_names.specs.declared.refusal.Refusal.TheVariants.{BadClient}
use Rattle.assise_names.specs.declared.reply.Reply.{Reply}
use Rattle.assise_history.specs.Entries.{EntryValue, opens, calls, crashes, fails, returns}
use Rattle.assise_console.specs.declared.response.Response.{Response}
use Rattle.assise_console.specs.declared.response.Response.TheVariants.{Refused}
use Rattle.assise_workers.specs.Told.{IsCallMade}
use Rattle.assise_threads.specs.ClientTurns.{TurnedThere}
use Rattle.assise_threads.specs.Openings.{opening_in}
use Rattle.assise_threads.specs.Said.{Said, call_in, outcome_answer}

-- a call is told what came of it, from one front of the history to another; who wasn't opened yet is told that there is no such client
abbrev pub HearsCall : ℕ → ℕ → Op → Response → Option (List EntryValue) → Option (List EntryValue) → Type 0
HearsCall turns c op a None now = (a ≡ Refused BadClient) × (now ≡ None)
HearsCall turns c op a (Some old) now = (r : Result Reply Refusal) × ((a ≡ outcome_answer r) × ((new : List EntryValue) × (IsCallMade (TurnedThere turns) c op old r new × (now ≡ Some new))))

-- it is this client that is opened, who wasn't before; or another
abbrev pub IsOpenedThen : Bool → List EntryValue → Option (List EntryValue) → Option (List EntryValue) → Type 0
IsOpenedThen true h old new = (old ≡ None) × (new ≡ Some h)
IsOpenedThen false h old new = new ≡ old

-- who is opened has seen the history up to that, and wasn't opened before
abbrev pub HearsOpening : ℕ → List EntryValue → List EntryValue → Option (List EntryValue) → Option (List EntryValue) → Type 0
HearsOpening c [] h old new = new ≡ old
HearsOpening c (opens d n u ∷ es) h old new = IsOpenedThen (d == c) h old new
HearsOpening c (calls x ∷ es) h old new = new ≡ old
HearsOpening c (crashes d ∷ es) h old new = new ≡ old
HearsOpening c (fails n losses ∷ es) h old new = new ≡ old
HearsOpening c (returns n ∷ es) h old new = new ≡ old

-- one line, for the calls of the client in it
abbrev pub HearsLine : ℕ → ℕ → Said → List Op → Option (List EntryValue) → Option (List EntryValue) → Type 0
HearsLine turns c s [] old new = HearsOpening c (opening_in s.command.command s.answer) s.machine.history old new
HearsLine turns c s (op ∷ ops) old new = HearsCall turns c op s.answer old new

-- line after line
abbrev pub HearsOn : ℕ → ℕ → Option (List EntryValue) → List Said → Option (List EntryValue) → Type 0
HearsOn turns c old [] new = new ≡ old
HearsOn turns c old (s ∷ ss) new = (mid : Option (List EntryValue)) × (HearsLine turns c s (call_in c s.command.command) old mid × HearsOn turns c mid ss new)
