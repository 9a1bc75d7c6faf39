-- Tries of a client's call.
-- Assise (OSDI 2020), section 3 (a process waits for a lease, or for its log to be replicated).
use Rattle.std.specs.Prelude.{◌≡◌, ℕ, zero, suc, ◌-◌, ◌≤◌, ◌<◌, true, false, Result, Ok, Err}
use Rattle.assise_names.specs.declared.call.Op.{Op}
use Rattle.assise_names.specs.declared.refusal.Refusal.{Refusal}
use Rattle.assise_names.specs.declared.refusal.Refusal.TheVariants.{Busy}
use Rattle.assise_names.specs.declared.reply.Reply.{Reply}
use Rattle.assise_model_events.specs.Events.{Answer, not_yet, refused, replied, try_call}
use Rattle.assise_model_events.specs.Machine.{Machine}
use Rattle.assise_rounds.specs.Traces.{IsEvent, Nothing, Then, Told}
use Rattle.assise_rounds.specs.Rounds.{RoundsOver}

-- what a call that isn't awaited any more is answered with
abbrev pub settled_answer : Result Reply Refusal → Answer
settled_answer (Ok reply) = replied reply
settled_answer (Err refusal) = refused refusal

-- it was tried a number of times and is awaited each time, with a round over these links behind each try in which there was something to do
abbrev pub Awaits : (ℕ → Type 0) → ℕ → Op → ℕ → Machine → Told → Machine → Type 0
Awaits faithful c op zero m es m' = Nothing m es m'
Awaits faithful c op (suc k) m es m' = Then (Awaits faithful c op k) (Then (IsEvent (try_call c op) not_yet) (RoundsOver faithful true)) m es m'

-- at one of `turns` tries the call isn't awaited any more; or it is awaited at each, and then it is busy: no round follows the last;
-- or it is awaited and there was nothing to do in the round behind, and then it is busy too: no try follows
pub data TriesOften (faithful : ℕ → Type 0) (turns c : ℕ) (op : Op) (r : Result Reply Refusal) (m : Machine) (es : Told) (m' : Machine) : Type 0 where
  is_settled : (k : ℕ) → k ≤ turns - 1 → Then (Awaits faithful c op k) (IsEvent (try_call c op) (settled_answer r)) m es m' → TriesOften faithful turns c op r m es m'
  is_busy : r ≡ Err Busy → Then (Awaits faithful c op (turns - 1)) (IsEvent (try_call c op) not_yet) m es m' → TriesOften faithful turns c op r m es m'
  is_stuck : (k : ℕ) → k < turns - 1 → r ≡ Err Busy → Then (Awaits faithful c op k) (Then (IsEvent (try_call c op) not_yet) (RoundsOver faithful false)) m es m' → TriesOften faithful turns c op r m es m'
