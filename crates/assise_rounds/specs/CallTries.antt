-- How a call is tried where nobody else works on the cluster: with a round of all nodes behind each try that doesn't settle it.
-- Assise (OSDI 2020), section 3 (a process waits for a lease, or for its log to be replicated and digested).
use Rattle.std.specs.Prelude.{◌≡◌, ℕ, zero, suc, ◌<◌, Bool, true, false, Result, Err}
use Rattle.assise_names.specs.declared.call.Op.{Op}
use Rattle.assise_names.specs.declared.call.Op.TheVariants.{Dsync}
use Rattle.assise_names.specs.declared.refusal.Refusal.{Refusal}
use Rattle.assise_names.specs.declared.refusal.Refusal.TheVariants.{Busy, LogFull}
use Rattle.assise_names.specs.declared.reply.Reply.{Reply}
use Rattle.assise_model_events.specs.Events.{Answer, not_yet, refused, try_call}
use Rattle.assise_model_events.specs.Machine.{Machine}
use Rattle.assise_rounds.specs.Traces.{IsEvent, Nothing, Then, Told}
use Rattle.assise_rounds.specs.Rounds.{RoundsOver}
use Rattle.assise_rounds.specs.Trying.{settled_answer}

-- ---- one try; `busy` says whether there was anything to do in the round behind it, and `faithful` which nodes' links carry what they
-- are handed

-- a dsync of client c is tried, and all nodes make a round: a round alone sends only what a sync, a crash or a lease asks for
pub record MakesRoom (faithful : ℕ → Type 0) (busy : Bool) (c : ℕ) (m : Machine) (es : Told) (m' : Machine) : Type 0 where
  pub answer : Answer
  pub trace : Then (IsEvent (try_call c Dsync) answer) (RoundsOver faithful busy) m es m'

-- a try that waits
abbrev pub WaitsOnce : (ℕ → Type 0) → Bool → ℕ → Op → Machine → Told → Machine → Type 0
WaitsOnce faithful busy c op m es m' = Then (IsEvent (try_call c op) not_yet) (RoundsOver faithful busy) m es m'

-- a try that finds its client's log full
abbrev pub FindsFull : (ℕ → Type 0) → Bool → ℕ → Op → Machine → Told → Machine → Type 0
FindsFull faithful busy c op m es m' = Then (IsEvent (try_call c op) (refused LogFull)) (MakesRoom faithful busy c) m es m'

pub data TriesInVain (faithful : ℕ → Type 0) (c : ℕ) (op : Op) (m : Machine) (es : Told) (m' : Machine) : Type 0 where
  waits_in_vain : WaitsOnce faithful true c op m es m' → TriesInVain faithful c op m es m'
  full_in_vain : FindsFull faithful true c op m es m' → TriesInVain faithful c op m es m'

-- so often, one after another
abbrev pub InVain : (ℕ → Type 0) → ℕ → Op → ℕ → Machine → Told → Machine → Type 0
InVain faithful c op zero m es m' = Nothing m es m'
InVain faithful c op (suc k) m es m' = Then (InVain faithful c op k) (TriesInVain faithful c op) m es m'

-- ---- a call

-- After fewer than `turns` tries in vain one settles the call; or one waits, and there is nothing to do in the round behind it; or the
-- same of one that finds the log full; or `turns` tries are in vain.
pub data IsTriedOut (faithful : ℕ → Type 0) (turns c : ℕ) (op : Op) (r : Result Reply Refusal) (m : Machine) (es : Told) (m' : Machine) : Type 0 where
  settles_at_last : (k : ℕ) → k < turns → (r ≡ Err LogFull → ⊥) → Then (InVain faithful c op k) (IsEvent (try_call c op) (settled_answer r)) m es m' → IsTriedOut faithful turns c op r m es m'
  ends_waiting : (k : ℕ) → k < turns → r ≡ Err Busy → Then (InVain faithful c op k) (WaitsOnce faithful false c op) m es m' → IsTriedOut faithful turns c op r m es m'
  ends_full : (k : ℕ) → k < turns → r ≡ Err LogFull → Then (InVain faithful c op k) (FindsFull faithful false c op) m es m' → IsTriedOut faithful turns c op r m es m'
  spends_all : r ≡ Err Busy → InVain faithful c op turns m es m' → IsTriedOut faithful turns c op r m es m'
