-- Calls of one sort lead on, with rounds between them.
use Rattle.std.specs.Prelude.{⊤}
use Rattle.assise_renewal.proofs.Common.{ℕ, zero, suc, ◌≡◌, Bool, true, false, [], ◌∷◌, ◌++◌, List, Option, None, Some, Result, inl, inr, refl, sym, subst}
use Rattle.assise_renewal.proofs.Common.{AllByRecursion, Op, Dsync, MOST_NODES, Reply, Answer, ClusterEvent, digest, not_yet, outgoing, refused, release_ready}
use Rattle.assise_renewal.proofs.Common.{try_call, Machine, happens, IsEvent, Nothing, Then, Told, round_trace, trace_then, IsThisCall, IsLedBy, IsOfSort}
use Rattle.assise_names.specs.declared.refusal.Refusal.{Refusal}
use Rattle.assise_names.specs.declared.refusal.Refusal.TheVariants.{LogFull}
use Rattle.assise_record.specs.LogFrame.{LogFrame}
use Rattle.assise_model_events.specs.Faults.{node_fault}
use Rattle.assise_model_events.specs.Happenings.{Trying}
use Rattle.assise_rounds.specs.Rounds.{Carried, DigestsOnce, EachFull, IsRound, ReleasesOnce, RoundsOnce, RoundsOver, TakesTurn, UnlessAtFault, deliveries}
use Rattle.assise_rounds.specs.Rounds.{delivery, is_refused, replicates}
use Rattle.assise_rounds.specs.Trying.{settled_answer}
use Rattle.assise_rounds.specs.CallTries.{FindsFull, InVain, IsTriedOut, MakesRoom, TriesInVain, WaitsOnce, ends_full, ends_waiting, full_in_vain}
use Rattle.assise_rounds.specs.CallTries.{settles_at_last, spends_all, waits_in_vain}
use Rattle.assise_rounds.proofs.Shared.CallTrace.{call_trace}

abbrev AllOf : (ℕ → Op → Type 0) → Told → Type 0
AllOf Sort es = AllByRecursion (λ e. IsOfSort Sort e.0) es

module _ (Sort : ℕ → Op → Type 0) where
  all_then : (es fs : Told) → AllOf Sort es → AllOf Sort fs → AllOf Sort (es ++ fs)
  all_then [] fs first more = more
  all_then (e ∷ es) fs first more = (first.0, all_then es fs first.1 more)

  -- ---- one after another

  pub led_nowhere : (m : Machine) → IsLedBy Sort m m
  led_nowhere m = record { events = []; trace = refl; sorted = tt }

  pub led_on : (m v m' : Machine) → IsLedBy Sort m v → IsLedBy Sort v m' → IsLedBy Sort m m'
  led_on m v m' first more = record {
    events = first.events ++ more.events;
    trace = trace_then m v m' first.events more.events first.trace more.trace;
    sorted = all_then first.events more.events first.sorted more.sorted;
  }

  pub led_once : (c : ℕ) (op : Op) (a : Answer) (m m' : Machine) → Sort c op → Trying m c op a m' → IsLedBy Sort m m'
  led_once c op a m m' is h = record { events = (try_call c op, a) ∷ []; trace = (m', ((0, happens h), refl)); sorted = (is, tt) }

  -- ---- what a trace is made of

  nothing_sorted : (m : Machine) (es : Told) (m' : Machine) → Nothing m es m' → AllOf Sort es
  nothing_sorted m es m' h = subst (AllOf Sort) (sym h.told) tt

  event_sorted : (e : ClusterEvent) (a : Answer) → IsOfSort Sort e → (m : Machine) (es : Told) (m' : Machine) → IsEvent e a m es m' → AllOf Sort es
  event_sorted e a is m es m' h = subst (AllOf Sort) (sym h.told) (is, tt)

  then_sorted : (First Second : Machine → Told → Machine → Type 0) → ((m : Machine) (es : Told) (m' : Machine) → First m es m' → AllOf Sort es)
      → ((m : Machine) (es : Told) (m' : Machine) → Second m es m' → AllOf Sort es) → (m : Machine) (es : Told) (m' : Machine) → Then First Second m es m' →
      AllOf Sort es
  then_sorted First Second f s m es m' h =
      subst (AllOf Sort) (sym h.told) (all_then h.before h.after (f m h.before h.between h.first) (s h.between h.after m' h.second))

  -- ---- rounds

  unless_sorted : (fault : Option Refusal) (Does : Machine → Told → Machine → Type 0) →
      ((m : Machine) (es : Told) (m' : Machine) → Does m es m' → AllOf Sort es)
      → (m : Machine) (es : Told) (m' : Machine) → UnlessAtFault fault Does m es m' → AllOf Sort es
  unless_sorted None Does f m es m' h = f m es m' h
  unless_sorted (Some r) Does f m es m' h = nothing_sorted m es m' h

  each_sorted : (Does : ℕ → Machine → Told → Machine → Type 0) → ((n : ℕ) (m : Machine) (es : Told) (m' : Machine) → Does n m es m' → AllOf Sort es)
      → (n : ℕ) (m : Machine) (es : Told) (m' : Machine) → EachFull Does n m es m' → AllOf Sort es
  each_sorted Does f zero m es m' h = nothing_sorted m es m' h
  each_sorted Does f (suc n) m es m' h =
      then_sorted (EachFull Does n) _ (each_sorted Does f n) (λ v fs w. unless_sorted (node_fault v (suc n)) (Does (suc n)) (f (suc n)) v fs w) m es m' h

  delivery_sorted : (n : ℕ) (came : Option (LogFrame × Answer)) → AllOf Sort (delivery n came)
  delivery_sorted n None = tt
  delivery_sorted n (Some (f, a)) = (tt, tt)

  deliveries_sorted : (cs : List Carried) → AllOf Sort (deliveries cs)
  deliveries_sorted [] = tt
  deliveries_sorted (c ∷ cs) = all_then (delivery c.node c.came) (deliveries cs) (delivery_sorted c.node c.came) (deliveries_sorted cs)

  turn_sorted : (faithful : Type 0) (n : ℕ) (m : Machine) (es : Told) (m' : Machine) → TakesTurn faithful n m es m' → AllOf Sort es
  turn_sorted faithful n m es m' (replicates count h) = subst (AllOf Sort) (sym h.told) (tt, deliveries_sorted h.carried)
  turn_sorted faithful n m es m' (is_refused r h) = event_sorted (outgoing n) _ tt m es m' h

  round_sorted : (faithful : ℕ → Type 0) (m : Machine) (es : Told) (m' : Machine) → IsRound faithful m es m' → AllOf Sort es
  round_sorted faithful m es m' h =
      then_sorted (EachFull (λ n. TakesTurn (faithful n) n) MOST_NODES) (Then (EachFull DigestsOnce MOST_NODES) ReleasesOnce)
      (each_sorted (λ n. TakesTurn (faithful n) n) (λ n. turn_sorted (faithful n) n) MOST_NODES)
      (then_sorted (EachFull DigestsOnce MOST_NODES) ReleasesOnce
      (each_sorted DigestsOnce (λ n v fs w d. event_sorted (digest n) d.answer tt v fs w d.event) MOST_NODES)
      (λ v fs w r. event_sorted release_ready r.answer tt v fs w r.event))
      m es m' h.round

  pub led_round : (busy : Bool) (m m' : Machine) → (es : Told) × RoundsOnce busy m es m' → IsLedBy Sort m m'
  led_round busy m m' (es, h) = record { events = es; trace = round_trace m es m' h.does; sorted = round_sorted (λ n. ⊤) m es m' h.does }

  -- ---- tries of a call of the sort, which has the client's dsyncs, too

  module _ (faithful : ℕ → Type 0) (c : ℕ) (op : Op) (is : Sort c op) (syncs : Sort c Dsync) where
    round_over_sorted : (busy : Bool) (m : Machine) (es : Told) (m' : Machine) → RoundsOver faithful busy m es m' → AllOf Sort es
    round_over_sorted busy m es m' h = round_sorted faithful m es m' h.does

    room_sorted : (busy : Bool) (m : Machine) (es : Told) (m' : Machine) → MakesRoom faithful busy c m es m' → AllOf Sort es
    room_sorted busy m es m' h = then_sorted (IsEvent (try_call c Dsync) h.answer) (RoundsOver faithful busy) (event_sorted (try_call c Dsync) h.answer syncs)
        (round_over_sorted busy) m es m' h.trace

    waits_sorted : (busy : Bool) (m : Machine) (es : Told) (m' : Machine) → WaitsOnce faithful busy c op m es m' → AllOf Sort es
    waits_sorted busy m es m' h =
        then_sorted (IsEvent (try_call c op) not_yet) (RoundsOver faithful busy) (event_sorted (try_call c op) not_yet is) (round_over_sorted busy) m es m' h

    full_sorted : (busy : Bool) (m : Machine) (es : Told) (m' : Machine) → FindsFull faithful busy c op m es m' → AllOf Sort es
    full_sorted busy m es m' h = then_sorted (IsEvent (try_call c op) (refused LogFull)) (MakesRoom faithful busy c)
        (event_sorted (try_call c op) (refused LogFull) is) (room_sorted busy) m es m' h

    in_vain_sorted : (m : Machine) (es : Told) (m' : Machine) → TriesInVain faithful c op m es m' → AllOf Sort es
    in_vain_sorted m es m' (waits_in_vain h) = waits_sorted true m es m' h
    in_vain_sorted m es m' (full_in_vain h) = full_sorted true m es m' h

    all_in_vain_sorted : (k : ℕ) (m : Machine) (es : Told) (m' : Machine) → InVain faithful c op k m es m' → AllOf Sort es
    all_in_vain_sorted zero m es m' h = nothing_sorted m es m' h
    all_in_vain_sorted (suc k) m es m' h = then_sorted (InVain faithful c op k) (TriesInVain faithful c op) (all_in_vain_sorted k) in_vain_sorted m es m' h

    tried_out_sorted : (turns : ℕ) (r : Result Reply Refusal) (m : Machine) (es : Told) (m' : Machine) → IsTriedOut faithful turns c op r m es m' →
        AllOf Sort es
    tried_out_sorted turns r m es m' (settles_at_last k few other h) =
        then_sorted (InVain faithful c op k) (IsEvent (try_call c op) (settled_answer r)) (all_in_vain_sorted k)
        (event_sorted (try_call c op) (settled_answer r) is) m es m' h
    tried_out_sorted turns r m es m' (ends_waiting k few busy h) =
        then_sorted (InVain faithful c op k) (WaitsOnce faithful false c op) (all_in_vain_sorted k) (waits_sorted false) m es m' h
    tried_out_sorted turns r m es m' (ends_full k few full h) =
        then_sorted (InVain faithful c op k) (FindsFull faithful false c op) (all_in_vain_sorted k) (full_sorted false) m es m' h
    tried_out_sorted turns r m es m' (spends_all busy h) = all_in_vain_sorted turns m es m' h

    pub led_settled : (turns : ℕ) (r : Result Reply Refusal) (m m' : Machine) → (es : Told) × IsTriedOut faithful turns c op r m es m' → IsLedBy Sort m m'
    led_settled turns r m m' (es, h) = record { events = es; trace = call_trace faithful turns c op r m es m' h; sorted = tried_out_sorted turns r m es m' h }

-- ---- a sort that has all calls of another

event_as : (F G : ℕ → Op → Type 0) → ((c : ℕ) (op : Op) → F c op → G c op) → (e : ClusterEvent) → IsOfSort F e → IsOfSort G e
event_as F G to (try_call c op) is = to c op is
event_as F G to e is = is

all_as : (F G : ℕ → Op → Type 0) → ((c : ℕ) (op : Op) → F c op → G c op) → (es : Told) → AllOf F es → AllOf G es
all_as F G to [] each = tt
all_as F G to (e ∷ es) each = (event_as F G to e.0 each.0, all_as F G to es each.1)

-- a call alone, with its client's dsyncs, is of any sort that has both
pub led_call : (Sort : ℕ → Op → Type 0) (c : ℕ) (op : Op) (m m' : Machine) → Sort c op → Sort c Dsync → IsLedBy (IsThisCall c op) m m' → IsLedBy Sort m m'
led_call Sort c op m m' is syncs h = record {
  events = h.events;
  trace = h.trace;
  sorted = all_as (IsThisCall c op) Sort as_sort h.events h.sorted;
}
  where
    of_client : (d : ℕ) (other : Op) → d ≡ c → Sort c other → Sort d other
    of_client d other same = subst (λ e. Sort e other) (sym same)

    as_sort : (d : ℕ) (other : Op) → IsThisCall c op d other → Sort d other
    as_sort d other (same, inl this) = of_client d other same (subst (Sort c) (sym this) is)
    as_sort d other (same, inr sync) = of_client d other same (subst (Sort c) (sym sync) syncs)
