-- Rounds and tries in vain leave the tree of the calls that no failure took.
use Rattle.assise_files.proofs.Common.{◌≡◌, ◌∙◌, ℕ, zero, suc, Bool, [], ◌∷◌, ◌++◌, List, Option, None, Some, refl, ap, append-nil, Op, Dsync, Refusal, Reply}
use Rattle.assise_files.proofs.Common.{MOST_NODES, answer, Tree, opening, Call, EntryValue, kept, tree_after, calls_made, kept-call, tree_after-push, Machine}
use Rattle.assise_files.proofs.Common.{IsEvent, Nothing, Then, Told, trace_of, trace_told, cluster_seen, tree_seen, FindsFull, InVain, MakesRoom, TriesInVain}
use Rattle.assise_files.proofs.Common.{WaitsOnce, full_in_vain, waits_in_vain}
use Rattle.assise_record.specs.LogFrame.{LogFrame}
use Rattle.assise_model_events.specs.Events.{Answer, ClusterEvent, all_entries, began, crashed, digest, digested, entries_of, failed, hot_set, joined, left}
use Rattle.assise_model_events.specs.Events.{not_yet, opened, outgoing, raised, received, refused, release_ready, released, replied, sent, try_call}
use Rattle.assise_model_events.specs.Faults.{node_fault}
use Rattle.assise_machine.specs.Running.{happens}
use Rattle.assise_machine.proofs.Shared.EventLists.{served_told}
use Rattle.assise_rounds.specs.Rounds.{Carried, DigestsOnce, EachFull, IsRound, ReleasesOnce, RoundsOver, TakesTurn, UnlessAtFault, deliveries, delivery}
use Rattle.assise_rounds.specs.Rounds.{is_refused, replicates}
use Rattle.assise_machine_state.specs.Observed.{observed}
use Rattle.assise_files.specs.declared.files.Files.{Files}

-- the tree of all calls that no failure took
abbrev pub machine_tree : Machine → Tree
machine_tree m = tree_after opening (kept m.history)

pub tree_is : (files : Files) → tree_seen files ≡ machine_tree (cluster_seen files)
unfolding observed
tree_is files = refl

-- ---- no entry

abbrev IsQuiet : (Machine → Told → Machine → Type 0) → Type 0
IsQuiet Does = (m : Machine) (es : Told) (m' : Machine) → Does m es m' → m'.history ≡ m.history

pub event_told : (e : ClusterEvent) (a : Answer) (m : Machine) (es : Told) (m' : Machine) → IsEvent e a m es m' →
    m'.history ≡ m.history ++ entries_of m.history e a
event_told e a m es m' h = served_told 0 m m' e a (happens h.happens)

quiet_event : (e : ClusterEvent) (a : Answer) → ((h : List EntryValue) → entries_of h e a ≡ []) → IsQuiet (IsEvent e a)
quiet_event e a none m es m' h = event_told e a m es m' h ∙ ap (λ xs. m.history ++ xs) (none m.history) ∙ append-nil m.history

quiet_nothing : IsQuiet Nothing
quiet_nothing m es m' h = ap (λ x. x.history) h.stays

quiet_then : (First Second : Machine → Told → Machine → Type 0) → IsQuiet First → IsQuiet Second → IsQuiet (Then First Second)
quiet_then First Second f s m es m' h = s h.between h.after m' h.second ∙ f m h.before h.between h.first

quiet_unless : (fault : Option Refusal) (Does : Machine → Told → Machine → Type 0) → IsQuiet Does → IsQuiet (UnlessAtFault fault Does)
quiet_unless None Does f m es m' h = f m es m' h
quiet_unless (Some r) Does f m es m' h = quiet_nothing m es m' h

quiet_each : (Does : ℕ → Machine → Told → Machine → Type 0) → ((n : ℕ) → IsQuiet (Does n)) → (n : ℕ) → IsQuiet (EachFull Does n)
quiet_each Does f zero m es m' h = quiet_nothing m es m' h
quiet_each Does f (suc n) m es m' h =
    quiet_then (EachFull Does n) _ (quiet_each Does f n) (λ v fs w. quiet_unless (node_fault v (suc n)) (Does (suc n)) (f (suc n)) v fs w) m es m' h

-- ---- a round

no_entry : (h : List EntryValue) (n : ℕ) (came : Option (LogFrame × Answer)) (cs : List Carried) →
    ((g : List EntryValue) → all_entries g (deliveries cs) ≡ []) → all_entries h (delivery n came ++ deliveries cs) ≡ []
no_entry h n None cs rest = rest h
no_entry h n (Some (f, a)) cs rest = rest (h ++ [])

no_entries : (h : List EntryValue) (cs : List Carried) → all_entries h (deliveries cs) ≡ []
no_entries h [] = refl
no_entries h (c ∷ cs) = no_entry h c.node c.came cs (λ g. no_entries g cs)

quiet_turn : (faithful : Type 0) (n : ℕ) → IsQuiet (TakesTurn faithful n)
quiet_turn faithful n m es m' (replicates count h) =
    trace_told m m' es (trace_of m m' es h.happen) ∙ ap (λ fs. m.history ++ all_entries m.history fs) h.told
    ∙ ap (λ xs. m.history ++ xs) (no_entries (m.history ++ []) h.carried) ∙ append-nil m.history
quiet_turn faithful n m es m' (is_refused r h) = quiet_event (outgoing n) (refused r) (λ h. refl) m es m' h

quiet_round : (faithful : ℕ → Type 0) → IsQuiet (IsRound faithful)
quiet_round faithful m es m' h =
    quiet_then (EachFull (λ n. TakesTurn (faithful n) n) MOST_NODES) (Then (EachFull DigestsOnce MOST_NODES) ReleasesOnce)
    (quiet_each (λ n. TakesTurn (faithful n) n) (λ n. quiet_turn (faithful n) n) MOST_NODES)
    (quiet_then (EachFull DigestsOnce MOST_NODES) ReleasesOnce
    (quiet_each DigestsOnce (λ n v fs w d. quiet_event (digest n) d.answer (λ h. refl) v fs w d.event) MOST_NODES)
    (λ v fs w r. quiet_event release_ready r.answer (λ h. refl) v fs w r.event))
    m es m' h.round

quiet_over : (faithful : ℕ → Type 0) (busy : Bool) → IsQuiet (RoundsOver faithful busy)
quiet_over faithful busy m es m' h = quiet_round faithful m es m' h.does

-- ---- a try

same_tree : (m m' : Machine) → m'.history ≡ m.history → machine_tree m' ≡ machine_tree m
same_tree m m' same = ap (λ h. tree_after opening (kept h)) same

-- an answered call changes it as the call does
pub call_tree : (c : ℕ) (op : Op) (reply : Reply) (m : Machine) (es : Told) (m' : Machine) → IsEvent (try_call c op) (replied reply) m es m' →
    machine_tree m' ≡ (answer (machine_tree m) op).1
call_tree c op reply m es m' h =
    let x : Call = record { client = c; number = calls_made c m.history; op = op; reply = reply } in
    ap (λ h. tree_after opening (kept h)) (event_told (try_call c op) (replied reply) m es m' h) ∙ ap (tree_after opening) (kept-call m.history x)
    ∙ tree_after-push opening (kept m.history) x

dsync_tree : (c : ℕ) (a : Answer) (m : Machine) (es : Told) (m' : Machine) → IsEvent (try_call c Dsync) a m es m' → machine_tree m' ≡ machine_tree m
dsync_tree c (replied reply) m es m' h = call_tree c Dsync reply m es m' h
dsync_tree c (opened e) m es m' h = same_tree m m' (quiet_event (try_call c Dsync) (opened e) (λ h. refl) m es m' h)
dsync_tree c (refused r) m es m' h = same_tree m m' (quiet_event (try_call c Dsync) (refused r) (λ h. refl) m es m' h)
dsync_tree c not_yet m es m' h = same_tree m m' (quiet_event (try_call c Dsync) not_yet (λ h. refl) m es m' h)
dsync_tree c (sent frames) m es m' h = same_tree m m' (quiet_event (try_call c Dsync) (sent frames) (λ h. refl) m es m' h)
dsync_tree c (received place) m es m' h = same_tree m m' (quiet_event (try_call c Dsync) (received place) (λ h. refl) m es m' h)
dsync_tree c (digested count) m es m' h = same_tree m m' (quiet_event (try_call c Dsync) (digested count) (λ h. refl) m es m' h)
dsync_tree c (released count) m es m' h = same_tree m m' (quiet_event (try_call c Dsync) (released count) (λ h. refl) m es m' h)
dsync_tree c hot_set m es m' h = same_tree m m' (quiet_event (try_call c Dsync) hot_set (λ h. refl) m es m' h)
dsync_tree c crashed m es m' h = same_tree m m' (quiet_event (try_call c Dsync) crashed (λ h. refl) m es m' h)
dsync_tree c (failed losses) m es m' h = same_tree m m' (quiet_event (try_call c Dsync) (failed losses) (λ h. refl) m es m' h)
dsync_tree c (began stale) m es m' h = same_tree m m' (quiet_event (try_call c Dsync) (began stale) (λ h. refl) m es m' h)
dsync_tree c (left stale) m es m' h = same_tree m m' (quiet_event (try_call c Dsync) (left stale) (λ h. refl) m es m' h)
dsync_tree c joined m es m' h = same_tree m m' (quiet_event (try_call c Dsync) joined (λ h. refl) m es m' h)
dsync_tree c raised m es m' h = same_tree m m' (quiet_event (try_call c Dsync) raised (λ h. refl) m es m' h)

-- ---- tries in vain

room_tree : (faithful : ℕ → Type 0) (busy : Bool) (c : ℕ) (m : Machine) (es : Told) (m' : Machine) → MakesRoom faithful busy c m es m' →
    machine_tree m' ≡ machine_tree m
room_tree faithful busy c m es m' h =
    same_tree h.trace.between m' (quiet_over faithful busy h.trace.between h.trace.after m' h.trace.second)
    ∙ dsync_tree c h.answer m h.trace.before h.trace.between h.trace.first

waits_tree : (faithful : ℕ → Type 0) (busy : Bool) (c : ℕ) (op : Op) (m : Machine) (es : Told) (m' : Machine) → WaitsOnce faithful busy c op m es m' →
    machine_tree m' ≡ machine_tree m
waits_tree faithful busy c op m es m' h =
    same_tree h.between m' (quiet_over faithful busy h.between h.after m' h.second)
    ∙ same_tree m h.between (quiet_event (try_call c op) not_yet (λ h. refl) m h.before h.between h.first)

full_tree : (faithful : ℕ → Type 0) (busy : Bool) (c : ℕ) (op : Op) (m : Machine) (es : Told) (m' : Machine) → FindsFull faithful busy c op m es m' →
    machine_tree m' ≡ machine_tree m
full_tree faithful busy c op m es m' h =
    room_tree faithful busy c h.between h.after m' h.second
    ∙ same_tree m h.between (quiet_event (try_call c op) (refused _) (λ h. refl) m h.before h.between h.first)

try_tree : (faithful : ℕ → Type 0) (c : ℕ) (op : Op) (m : Machine) (es : Told) (m' : Machine) → TriesInVain faithful c op m es m' →
    machine_tree m' ≡ machine_tree m
try_tree faithful c op m es m' (waits_in_vain h) = waits_tree faithful _ c op m es m' h
try_tree faithful c op m es m' (full_in_vain h) = full_tree faithful _ c op m es m' h

pub vain_tree : (faithful : ℕ → Type 0) (c : ℕ) (op : Op) (k : ℕ) (m : Machine) (es : Told) (m' : Machine) → InVain faithful c op k m es m' →
    machine_tree m' ≡ machine_tree m
vain_tree faithful c op zero m es m' h = same_tree m m' (quiet_nothing m es m' h)
vain_tree faithful c op (suc k) m es m' h = try_tree faithful c op h.between h.after m' h.second ∙ vain_tree faithful c op k m h.before h.between h.first
