-- Tries of a call, with rounds and dsyncs between them, are a trace of events.
use Rattle.assise_rounds.proofs.Common.{ℕ, zero, suc, Bool, Result, Op, Refusal, Reply, Machine, IsEventTrace, IsEvent, Told, RoundsOver, FindsFull, InVain}
use Rattle.assise_rounds.proofs.Common.{IsTriedOut, MakesRoom, TriesInVain, WaitsOnce, waits_in_vain, full_in_vain, settles_at_last, spends_all, ends_full}
use Rattle.assise_rounds.proofs.Common.{ends_waiting}
use Rattle.assise_rounds.proofs.Shared.Traces.{busy_trace, event_trace, nothing_trace, then_trace}

room_trace : (faithful : ℕ → Type 0) (busy : Bool) (c : ℕ) (m : Machine) (es : Told) (m' : Machine) → MakesRoom faithful busy c m es m' → IsEventTrace m es m'
room_trace faithful busy c m es m' h = then_trace (IsEvent _ _) (RoundsOver faithful busy) (event_trace _ _) (busy_trace faithful busy) m es m' h.trace

waits_trace : (faithful : ℕ → Type 0) (busy : Bool) (c : ℕ) (op : Op) (m : Machine) (es : Told) (m' : Machine) → WaitsOnce faithful busy c op m es m' →
    IsEventTrace m es m'
waits_trace faithful busy c op m es m' h = then_trace (IsEvent _ _) (RoundsOver faithful busy) (event_trace _ _) (busy_trace faithful busy) m es m' h

full_trace : (faithful : ℕ → Type 0) (busy : Bool) (c : ℕ) (op : Op) (m : Machine) (es : Told) (m' : Machine) → FindsFull faithful busy c op m es m' →
    IsEventTrace m es m'
full_trace faithful busy c op m es m' h = then_trace (IsEvent _ _) (MakesRoom faithful busy c) (event_trace _ _) (room_trace faithful busy c) m es m' h

try_trace : (faithful : ℕ → Type 0) (c : ℕ) (op : Op) (m : Machine) (es : Told) (m' : Machine) → TriesInVain faithful c op m es m' → IsEventTrace m es m'
try_trace faithful c op m es m' (waits_in_vain h) = waits_trace faithful _ c op m es m' h
try_trace faithful c op m es m' (full_in_vain h) = full_trace faithful _ c op m es m' h

vain_trace : (faithful : ℕ → Type 0) (c : ℕ) (op : Op) (k : ℕ) (m : Machine) (es : Told) (m' : Machine) → InVain faithful c op k m es m' → IsEventTrace m es m'
vain_trace faithful c op zero m es m' h = nothing_trace m es m' h
vain_trace faithful c op (suc k) m es m' h =
    then_trace (InVain faithful c op k) (TriesInVain faithful c op) (vain_trace faithful c op k) (try_trace faithful c op) m es m' h

pub call_trace : (faithful : ℕ → Type 0) (turns c : ℕ) (op : Op) (r : Result Reply Refusal) (m : Machine) (es : Told) (m' : Machine) →
    IsTriedOut faithful turns c op r m es m' → IsEventTrace m es m'
call_trace faithful turns c op r m es m' (settles_at_last k few other h) =
    then_trace (InVain faithful c op k) (IsEvent _ _) (vain_trace faithful c op k) (event_trace _ _) m es m' h
call_trace faithful turns c op r m es m' (ends_waiting k few is h) =
    then_trace (InVain faithful c op k) (WaitsOnce faithful _ c op) (vain_trace faithful c op k) (waits_trace faithful _ c op) m es m' h
call_trace faithful turns c op r m es m' (ends_full k few is h) =
    then_trace (InVain faithful c op k) (FindsFull faithful _ c op) (vain_trace faithful c op k) (full_trace faithful _ c op) m es m' h
call_trace faithful turns c op r m es m' (spends_all is h) = vain_trace faithful c op turns m es m' h
