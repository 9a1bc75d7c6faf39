-- Changes that a failure took, made again by another client.
-- Assise (OSDI 2020), section 3 (fail-over: a process goes on at another node, with what is replicated).
use Rattle.std.specs.Prelude.{◌≡◌, ℕ, ⊤, List, [], ◌∷◌, ◌++◌, Result, Ok, Err}
use Rattle.assise_names.specs.declared.refusal.Refusal.{Refusal}
use Rattle.assise_names.specs.declared.refusal.Refusal.TheVariants.{OutOfMemory}
use Rattle.assise_names.specs.declared.reply.Reply.{Reply}
use Rattle.assise_names.specs.declared.reply.Reply.TheVariants.{Done}
use Rattle.assise_model_events.specs.Machine.{Machine}
use Rattle.assise_rounds.specs.Traces.{Nothing, Then, Told}
use Rattle.assise_rounds.specs.CallTries.{IsTriedOut}
use Rattle.assise_files.specs.declared.redo.LostChange.{LostChange}
use Rattle.assise_files.specs.declared.redo.Unmade.{Unmade}

-- a client makes these, each answered Done, one after another
abbrev pub MakesEach : (ℕ → Type 0) → (turns c : ℕ) → List LostChange → Machine → Told → Machine → Type 0
MakesEach faithful turns c [] m es m' = Nothing m es m'
MakesEach faithful turns c (x ∷ xs) m es m' = Then (IsTriedOut faithful turns c x.op (Ok Done)) (MakesEach faithful turns c xs) m es m'

-- the call of this number isn't made again, and this came instead
abbrev pub unmade : ℕ → Result Reply Refusal → Unmade
unmade number came = record { call = number; came = came }

-- Client c makes these changes again, which are lost from call `first` on: all of them; or those in front of one that isn't answered
-- Done; or none, where there is no memory to find them.
pub data MakesAgain (faithful : ℕ → Type 0) (turns first c : ℕ) (xs : List LostChange) (result : Result ⊤ Unmade) (m : Machine) (es : Told) (m' : Machine) : Type 0 where
  makes_all : (done : ⊤) → result ≡ Ok done → MakesEach faithful turns c xs m es m' → MakesAgain faithful turns first c xs result m es m'
  stops_at : (made : List LostChange) (x : LostChange) (left : List LostChange) (came : Result Reply Refusal) → xs ≡ made ++ x ∷ left → (came ≡ Ok Done → ⊥) →
      result ≡ Err (unmade x.number came) → Then (MakesEach faithful turns c made) (IsTriedOut faithful turns c x.op came) m es m' → MakesAgain faithful turns first c xs result m es m'
  finds_none : result ≡ Err (unmade first (Err OutOfMemory)) → Nothing m es m' → MakesAgain faithful turns first c xs result m es m'
