-- Tries of a call, until it is settled.
use Rattle.assise_rounds.proofs.Common.{◌≡◌, ◌<◌, ℕ, suc, Bool, true, false, Result, Err, refl, Op, Refusal, Busy, LogFull, Reply, Answer, not_yet, refused}
use Rattle.assise_rounds.proofs.Common.{Trying, Machine, Told, RoundsOver, settled_answer, InVain, IsTriedOut, MakesRoom, waits_in_vain, full_in_vain}
use Rattle.assise_rounds.proofs.Common.{settles_at_last, ends_full, ends_waiting}
use Rattle.assise_names.specs.declared.call.Op.TheVariants.{Dsync}
use Rattle.assise_rounds.proofs.Shared.Traces.{both, event}

pub room_made : (faithful : ℕ → Type 0) (busy : Bool) (c : ℕ) (a : Answer) (m v m' : Machine) → Trying m c Dsync a v →
    (es : Told) × RoundsOver faithful busy v es m' →
    (gs : Told) × MakesRoom faithful busy c m gs m'
room_made faithful busy c a m v m' h round = (_, record { answer = a; trace = both _ _ _ (event h) round.1 })

-- ---- tries in vain

pub awaited_in_vain : (faithful : ℕ → Type 0) (busy : Bool) (c : ℕ) (op : Op) (k j : ℕ) (m u v m' : Machine) → busy ≡ true → j ≡ suc k →
    (es : Told) × InVain faithful c op k m es u → Trying u c op not_yet v →
    (fs : Told) × RoundsOver faithful busy v fs m' → (gs : Told) × InVain faithful c op j m gs m'
awaited_in_vain faithful busy c op k j m u v m' work is before h round =
    rw is (_, both _ _ _ before.1 (waits_in_vain (both _ _ _ (event h) (rw work at round.1))))

pub found_full : (faithful : ℕ → Type 0) (busy : Bool) (c : ℕ) (op : Op) (k j : ℕ) (m u v m' : Machine) → busy ≡ true → j ≡ suc k →
    (es : Told) × InVain faithful c op k m es u → Trying u c op (refused LogFull) v →
    (fs : Told) × MakesRoom faithful busy c v fs m' → (gs : Told) × InVain faithful c op j m gs m'
found_full faithful busy c op k j m u v m' work is before h room = rw is (_, both _ _ _ before.1 (full_in_vain (both _ _ _ (event h) (rw work at room.1))))

-- ---- how it ends

pub tried_settled : (faithful : ℕ → Type 0) (turns c : ℕ) (op : Op) (r : Result Reply Refusal) (k : ℕ) (m v m' : Machine) → k < turns → (r ≡ Err LogFull → ⊥) →
    (es : Told) × InVain faithful c op k m es v →
    Trying v c op (settled_answer r) m' → (gs : Told) × IsTriedOut faithful turns c op r m gs m'
tried_settled faithful turns c op r k m v m' few other before h = (_, settles_at_last k few other (both _ _ _ before.1 (event h)))

pub tried_idle : (faithful : ℕ → Type 0) (turns c : ℕ) (op : Op) (busy : Bool) (k : ℕ) (m u v m' : Machine) → k < turns → busy ≡ false →
    (es : Told) × InVain faithful c op k m es u → Trying u c op not_yet v →
    (fs : Told) × RoundsOver faithful busy v fs m' → (gs : Told) × IsTriedOut faithful turns c op (Err Busy) m gs m'
tried_idle faithful turns c op busy k m u v m' few work before h round =
    (_, ends_waiting k few refl (both _ _ _ before.1 (both _ _ _ (event h) (rw work at round.1))))

pub tried_full : (faithful : ℕ → Type 0) (turns c : ℕ) (op : Op) (busy : Bool) (k : ℕ) (m u v m' : Machine) → k < turns → busy ≡ false →
    (es : Told) × InVain faithful c op k m es u →
    Trying u c op (refused LogFull) v → (fs : Told) × MakesRoom faithful busy c v fs m' → (gs : Told) × IsTriedOut faithful turns c op (Err LogFull) m gs m'
tried_full faithful turns c op busy k m u v m' few work before h room =
    (_, ends_full k few refl (both _ _ _ before.1 (both _ _ _ (event h) (rw work at room.1))))
