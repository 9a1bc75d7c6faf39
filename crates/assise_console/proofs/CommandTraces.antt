-- What a command makes happen, and what a whole run does, is a trace of events.
use Rattle.assise_console.proofs.Common.{◌≡◌, ℕ, ◌<◌, Bool, true, false, List, [], ◌∷◌, ◌++◌, refl, ap, sym, subst, ◌∙◌, Op, OutOfMemory, IsLegal, LinkKind}
use Rattle.assise_console.proofs.Common.{NumberedCommand, ClusterEvent, all_entries, back, crash, fail, join, raise, refill, set_hot, try_call, Machine}
use Rattle.assise_console.proofs.Common.{Response, Checked, Refused, IsEventTrace, Told, IsOne, IsOneAt, Prints, ConsoleState, Stocks, begun_console, Kind}
use Rattle.assise_console.proofs.Common.{Calls, CarriesFrames, IsVerdict, Returns, Serves, SetsHot, SetsLink, is_carried, is_verdict, is_linked, is_made}
use Rattle.assise_console.proofs.Common.{is_nowhere, is_out, is_refused, lacks_room}
use Rattle.assise_fault_script.specs.declared.command.Command as commands
use Rattle.assise_fault_script.specs.declared.command.Command.TheVariants.{Cluster, Manual, Open, Call, Carry, Link, Hot, Digest, Release, Crash, Fail, Back}
use Rattle.assise_fault_script.specs.declared.command.Command.TheVariants.{Refill, Join, Raise, Tree, History, Check}
use Rattle.assise_model_events.proofs.Shared.StartKeeps.{begun_holds}
use Rattle.assise_rounds.proofs.Shared.ReturnTrace.{return_trace}
use Rattle.assise_rounds.proofs.Shared.Traces.{trace_legal, trace_of, trace_then, trace_told, event_trace, tries_trace}

-- ---- one command

one_trace : (e : ClusterEvent) (a : Response) (m : Machine) (es : Told) (m' : Machine) → IsOne e a m es m' → IsEventTrace m es m'
one_trace e a m es m' h = event_trace e h.answer m es m' h.event

told_trace : (what : ℕ → ClusterEvent) (n : ℕ) (a : Response) (m : Machine) (es : Told) (m' : Machine) → IsOneAt what n a m es m' → IsEventTrace m es m'
told_trace what n a m es m' h = event_trace (what n) h.answer m es m' h.event

calls_trace : (manual : Bool) (links : List Kind) (turns c : ℕ) (op : Op) (a : Response) (m : Machine) (es : Told) (m' : Machine) →
    Calls manual links turns c op a m es m' → IsEventTrace m es m'
calls_trace true links turns c op a m es m' h = one_trace (try_call c op) a m es m' h
calls_trace false links turns c op a m es m' h = tries_trace turns c op h.result m es m' h.tries

carries_trace : (perfect : Type 0) (n : ℕ) (a : Response) (m : Machine) (es : Told) (m' : Machine) → CarriesFrames perfect n a m es m' → IsEventTrace m es m'
carries_trace perfect n a m es m' (is_carried count is h) = trace_of m m' es h.happen
carries_trace perfect n a m es m' (is_refused r is h) = event_trace _ _ m es m' h

returns_trace : (manual : Bool) (n : ℕ) (a : Response) (m : Machine) (es : Told) (m' : Machine) → Returns manual n a m es m' → IsEventTrace m es m'
returns_trace true n a m es m' h = told_trace back n a m es m' h
returns_trace false n a m es m' h = return_trace n h.result m es m' h.comes

quiet_trace : (m m' : Machine) (es : Told) → es ≡ [] → m' ≡ m → IsEventTrace m es m'
quiet_trace m m' es none same = subst (λ x. IsEventTrace m x m') (sym none) same

link_stays : (s t : ConsoleState) (n : ℕ) (kind : LinkKind) (a : Response) → SetsLink s n kind a t → t.machine ≡ s.machine
link_stays s t n kind a (is_linked there answer is) = ap (λ x. x.machine) is
link_stays s t n kind a (is_nowhere none answer is) = ap (λ x. x.machine) is

hot_trace : (n capacity : ℕ) (a : Response) (m : Machine) (es : Told) (m' : Machine) → SetsHot n capacity a m es m' → IsEventTrace m es m'
hot_trace n capacity a m es m' (is_made least most h) = told_trace (λ k. set_hot k capacity) n a m es m' h
hot_trace n capacity a m es m' (is_out out answer h) = quiet_trace m m' es h.told h.stays

pub command_trace : (s t : ConsoleState) (c : commands.Command) (es : Told) (a : Response) → Serves s c es a t → IsEventTrace s.machine es t.machine
command_trace s t (Cluster n l hot) es a h = quiet_trace s.machine t.machine es h.told (ap (λ x. x.machine) h.stays)
command_trace s t Manual es a h = quiet_trace s.machine t.machine es h.told (ap (λ x. x.machine) h.stays)
command_trace s t (Open n kind u) es a h = subst (λ x. IsEventTrace s.machine x t.machine) (sym h.told) (t.machine, ((_, h.served), refl))
command_trace s t (Call c op) es a h = calls_trace s.manual s.links s.turns c op a s.machine es t.machine h.events
command_trace s t (Carry n) es a h = carries_trace _ n a s.machine es t.machine h.events
command_trace s t (Link n kind) es a h = quiet_trace s.machine t.machine es h.1 (link_stays s t n kind a h.0)
command_trace s t (Hot n capacity) es a h = hot_trace n capacity a s.machine es t.machine h.events
command_trace s t (Digest n) es a h = one_trace _ a s.machine es t.machine h.events
command_trace s t Release es a h = one_trace _ a s.machine es t.machine h.events
command_trace s t (Crash c) es a h = told_trace crash c a s.machine es t.machine h.events
command_trace s t (Fail n) es a h = told_trace fail n a s.machine es t.machine h.events
command_trace s t (Back n) es a h = returns_trace s.manual n a s.machine es t.machine h.events
command_trace s t (Refill n) es a h = told_trace refill n a s.machine es t.machine h.events
command_trace s t (Join n) es a h = told_trace join n a s.machine es t.machine h.events
command_trace s t (Raise n) es a h = told_trace raise n a s.machine es t.machine h.events
command_trace s t (Tree n) es a h = quiet_trace s.machine t.machine es h.1.0 (ap (λ x. x.machine) h.1.1)
command_trace s t History es a h = quiet_trace s.machine t.machine es h.1.0 (ap (λ x. x.machine) h.1.1)
command_trace s t Check es a h = quiet_trace s.machine t.machine es h.1.0 (ap (λ x. x.machine) h.1.1)

-- ---- all commands

pub run_trace : (s t : ConsoleState) (cs : List NumberedCommand) (es : Told) (text : List ℕ) → Prints s cs es text t → IsEventTrace s.machine es t.machine
run_trace s t [] es text h = quiet_trace s.machine t.machine es h.0 (ap (λ x. x.machine) h.1.1)
run_trace s t (c ∷ cs) es text h =
    subst (λ x. IsEventTrace s.machine x t.machine) (sym h.told)
    (trace_then s.machine h.next.machine t.machine h.now h.later (command_trace s h.next c.command h.now h.answer h.serves)
    (run_trace h.next t cs h.later h.rest h.others))

pub run_told : (s t : ConsoleState) (cs : List NumberedCommand) (es : Told) (text : List ℕ) → Prints s cs es text t →
    t.machine.history ≡ s.machine.history ++ all_entries s.machine.history es
run_told s t cs es text h = trace_told s.machine t.machine es (run_trace s t cs es text h)

pub run_legal : (nodes log hot turns : ℕ) (stock : Stocks) (t : ConsoleState) (es : Told) → 0 < nodes →
    IsEventTrace (begun_console nodes log hot stock turns).machine es t.machine → IsLegal t.machine.history
run_legal nodes log hot turns stock t es some h = trace_legal _ t.machine es (begun_holds nodes log hot some) h

-- a check of a legal history doesn't say that it is another
pub not_illegal : (m : Machine) → IsLegal m.history → IsVerdict (Checked false) m → ⊥
not_illegal m legal (is_verdict found is same) = let right : found ≡ true = same.1 legal in let x : Checked false ≡ Checked true = is ∙ ap Checked right in cc
not_illegal m legal (lacks_room is) = let x : Checked false ≡ Refused OutOfMemory = is in cc
