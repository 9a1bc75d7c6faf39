-- What is made of events is a trace of them: it keeps what holds of the machine, and adds exactly their entries.
use Rattle.assise_rounds.proofs.Common.{◌≡◌, ◌≤◌, arith, ℕ, zero, suc, ◌-◌, Bool, true, false, [], ◌∷◌, ◌++◌, Option, None, Some, Result, refl, ap, sym, subst}
use Rattle.assise_rounds.proofs.Common.{◌∙◌, append_assoc, append-nil, Op, Refusal, Reply, MOST_NODES, first_unreplicated, Answer, ClusterEvent, all_entries}
use Rattle.assise_rounds.proofs.Common.{entries_of, not_yet, try_call, node_fault, AllHappen, Happens, MachineInvariant, Machine, IsEventTrace, IsEvent}
use Rattle.assise_rounds.proofs.Common.{Nothing, Then, Told, DigestsOnce, EachFull, IsRound, ReleasesOnce, RoundsOver, TakesTurn, UnlessAtFault, is_refused}
use Rattle.assise_rounds.proofs.Common.{replicates, Awaits, TriesOften, is_busy, is_settled, is_stuck, settled_answer}
use Rattle.assise_history.specs.Legal.{IsLegal}
use Rattle.assise_machine.specs.Running.{happens}
use Rattle.assise_machine.proofs.Shared.EventLists.{all_last, served_keeps, served_told}

-- ---- a trace

pub trace_then : (m v m' : Machine) (es fs : Told) → IsEventTrace m es v → IsEventTrace v fs m' → IsEventTrace m (es ++ fs) m'
trace_then m v m' [] fs same h = subst (λ u. IsEventTrace u fs m') same h
trace_then m v m' (e ∷ es) fs (u, (first, rest)) h = (u, (first, trace_then u v m' es fs rest h))

pub trace_of : (m m' : Machine) (es : Told) → AllHappen m es m' → IsEventTrace m es m'
trace_of m m' [] same = same
trace_of m m' (e ∷ es) (u, (first, rest)) = (u, ((0, happens first), trace_of u m' es rest))

pub trace_keeps : (m m' : Machine) (es : Told) → MachineInvariant m → IsEventTrace m es m' → MachineInvariant m'
trace_keeps m m' [] h same = subst MachineInvariant (sym same) h
trace_keeps m m' ((e, a) ∷ es) h (v, ((stock, step), rest)) = trace_keeps v m' es (served_keeps stock m v e a h step) rest

pub trace_legal : (m m' : Machine) (es : Told) → MachineInvariant m → IsEventTrace m es m' → IsLegal m'.history
trace_legal m m' es h trace = grind (arith, trace_keeps)

pub trace_told : (m m' : Machine) (es : Told) → IsEventTrace m es m' → m'.history ≡ m.history ++ all_entries m.history es
trace_told m m' [] same = ap (λ x. x.history) same ∙ sym (append-nil m.history)
trace_told m m' ((e, a) ∷ es) (v, ((stock, step), rest)) = grind (
  arith,
  trace_told v m' es rest,
  served_told stock m v e a step,
  append_assoc m.history (entries_of m.history e a)
      (all_entries (m.history ++ entries_of m.history e a) es),
)

pub trace_unreplicated : (m m' : Machine) (es : Told) (c : ℕ) → MachineInvariant m → IsEventTrace m es m' → first_unreplicated m.world c ≤ first_unreplicated
    m'.world c
trace_unreplicated m m' [] c h same = omega (arith, ap (λ x. first_unreplicated x.world c) same)
trace_unreplicated m m' ((e, a) ∷ es) c h (v, ((stock, step), rest)) =
    let one : first_unreplicated m.world c ≤ first_unreplicated v.world c = (all_last stock m v ((e, a) ∷ []) h (v, (step, refl))).none_falls.unreplicated c in
    omega (arith, one, trace_unreplicated v m' es c (served_keeps stock m v e a h step) rest)

-- ---- of which it is made

pub event : {e : ClusterEvent} {a : Answer} {m m' : Machine} → Happens m e a m' → IsEvent e a m ((e, a) ∷ []) m'
event h = record { told = refl; happens = h }

-- these events, and then those
pub both : {First Second : Machine → Told → Machine → Type 0} {m m' : Machine} (v : Machine) (es fs : Told) → First m es v → Second v fs m' →
    Then First Second m (es ++ fs) m'
both v es fs first second = record { between = v; before = es; after = fs; told = refl; first = first; second = second }

pub nothing_trace : (m : Machine) (es : Told) (m' : Machine) → Nothing m es m' → IsEventTrace m es m'
nothing_trace m es m' h = subst (λ x. IsEventTrace m x m') (sym h.told) h.stays

pub event_trace : (e : ClusterEvent) (a : Answer) (m : Machine) (es : Told) (m' : Machine) → IsEvent e a m es m' → IsEventTrace m es m'
event_trace e a m es m' h = subst (λ x. IsEventTrace m x m') (sym h.told) (m', ((0, happens h.happens), refl))

pub then_trace : (First Second : Machine → Told → Machine → Type 0) → ((m : Machine) (es : Told) (m' : Machine) → First m es m' → IsEventTrace m es m')
    → ((m : Machine) (es : Told) (m' : Machine) → Second m es m' → IsEventTrace m es m') → (m : Machine) (es : Told) (m' : Machine) →
    Then First Second m es m' → IsEventTrace m es m'
then_trace First Second f s m es m' h = grind (arith, trace_then)

unless_trace : (fault : Option Refusal) (Does : Machine → Told → Machine → Type 0) →
    ((m : Machine) (es : Told) (m' : Machine) → Does m es m' → IsEventTrace m es m')
    → (m : Machine) (es : Told) (m' : Machine) → UnlessAtFault fault Does m es m' → IsEventTrace m es m'
unless_trace None Does f m es m' h = f m es m' h
unless_trace (Some r) Does f m es m' h = nothing_trace m es m' h

each_trace : (Does : ℕ → Machine → Told → Machine → Type 0) → ((n : ℕ) (m : Machine) (es : Told) (m' : Machine) → Does n m es m' → IsEventTrace m es m')
    → (n : ℕ) (m : Machine) (es : Told) (m' : Machine) → EachFull Does n m es m' → IsEventTrace m es m'
each_trace Does f zero m es m' h = nothing_trace m es m' h
each_trace Does f (suc n) m es m' h =
    then_trace (EachFull Does n) _ (each_trace Does f n) (λ v fs w. unless_trace (node_fault v (suc n)) (Does (suc n)) (f (suc n)) v fs w) m es m' h

-- ---- rounds and tries

pub turn_trace : (faithful : Type 0) (n : ℕ) (m : Machine) (es : Told) (m' : Machine) → TakesTurn faithful n m es m' → IsEventTrace m es m'
turn_trace faithful n m es m' (replicates count h) = trace_of m m' es h.happen
turn_trace faithful n m es m' (is_refused r h) = event_trace _ _ m es m' h

pub round_trace : {faithful : ℕ → Type 0} (m : Machine) (es : Told) (m' : Machine) → IsRound faithful m es m' → IsEventTrace m es m'
round_trace {faithful} m es m' h =
    then_trace (EachFull (λ n. TakesTurn (faithful n) n) MOST_NODES) (Then (EachFull DigestsOnce MOST_NODES) ReleasesOnce)
    (each_trace (λ n. TakesTurn (faithful n) n) (λ n. turn_trace (faithful n) n) MOST_NODES)
    (then_trace (EachFull DigestsOnce MOST_NODES) ReleasesOnce
    (each_trace DigestsOnce (λ n v fs w d. event_trace _ d.answer v fs w d.event) MOST_NODES)
    (λ v fs w r. event_trace _ r.answer v fs w r.event))
    m es m' h.round

pub busy_trace : (faithful : ℕ → Type 0) (busy : Bool) (m : Machine) (es : Told) (m' : Machine) → RoundsOver faithful busy m es m' → IsEventTrace m es m'
busy_trace faithful busy m es m' h = round_trace m es m' h.does

awaits_trace : (faithful : ℕ → Type 0) (c : ℕ) (op : Op) (k : ℕ) (m : Machine) (es : Told) (m' : Machine) → Awaits faithful c op k m es m' →
    IsEventTrace m es m'
awaits_trace faithful c op zero m es m' h = nothing_trace m es m' h
awaits_trace faithful c op (suc k) m es m' h =
    then_trace (Awaits faithful c op k) (Then (IsEvent (try_call c op) not_yet) (RoundsOver faithful true)) (awaits_trace faithful c op k)
    (then_trace (IsEvent (try_call c op) not_yet) (RoundsOver faithful true) (event_trace (try_call c op) not_yet) (busy_trace faithful true)) m es m' h

pub tries_trace : {faithful : ℕ → Type 0} (turns c : ℕ) (op : Op) (r : Result Reply Refusal) (m : Machine) (es : Told) (m' : Machine) →
    TriesOften faithful turns c op r m es m' → IsEventTrace m es m'
tries_trace {faithful} turns c op r m es m' (is_settled k few h) =
    then_trace (Awaits faithful c op k) (IsEvent (try_call c op) (settled_answer r)) (awaits_trace faithful c op k)
    (event_trace (try_call c op) (settled_answer r)) m es m' h
tries_trace {faithful} turns c op r m es m' (is_busy busy h) =
    then_trace (Awaits faithful c op (turns - 1)) (IsEvent (try_call c op) not_yet) (awaits_trace faithful c op (turns - 1))
    (event_trace (try_call c op) not_yet) m es m' h
tries_trace {faithful} turns c op r m es m' (is_stuck k few busy h) =
    then_trace (Awaits faithful c op k) (Then (IsEvent (try_call c op) not_yet) (RoundsOver faithful false)) (awaits_trace faithful c op k)
    (then_trace (IsEvent (try_call c op) not_yet) (RoundsOver faithful false) (event_trace (try_call c op) not_yet) (busy_trace faithful false)) m es m' h
