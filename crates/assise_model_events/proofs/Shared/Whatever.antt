-- Whatever happens, one event after another.
use Rattle.assise_model_events.proofs.Common.{◌≡◌, ℕ, ◌<◌, true, false, List, [], ◌∷◌, ◌++◌, refl, ap, sym, subst, ◌∙◌, arith, append_assoc, append-nil}
use Rattle.assise_model_events.proofs.Common.{opening_tree, Loss, EntryValue, fails, IsRun, kept, IsFair, IsLegal, contains, touched, Each, first_unreplicated}
use Rattle.assise_model_events.proofs.Common.{steps, client_lease, is_written, IsTrace, IsLasting, IsSafe, last_of, State, trace_lasts, kept_of, Answer}
use Rattle.assise_model_events.proofs.Common.{ClusterEvent, all_entries, entries_of, AllHappen, Leads, Machine, MachineInvariant, begun_as, state_of}
use Rattle.assise_history.proofs.Shared.OneMore.{follows_in}
use Rattle.assise_inode_table.proofs.Shared.PairwiseLists.{each-map}
use Rattle.assise_model_world.proofs.Shared.Replicated.{handed_over}
use Rattle.assise_model_world.proofs.Shared.RegionAlone.{first_undigested-below}
use Rattle.assise_model_events.proofs.Shared.EventTraces.{same_leads}
use Rattle.assise_model_events.proofs.Shared.StartKeeps.{begun_holds}
use Rattle.assise_model_events.proofs.Shared.EachEvent.{event_told, event_leads, event_keeps}

-- ---- what holds

pub all_keep : (m m' : Machine) (es : List (ClusterEvent × Answer)) → MachineInvariant m → AllHappen m es m' → MachineInvariant m'
all_keep m m' [] h e = subst MachineInvariant (sym e) h
all_keep m m' ((e, a) ∷ es) h (v, (step, rest)) = all_keep v m' es (event_keeps m v e a h step) rest

pub reached_holds : (nodes limit hot : ℕ) (es : List (ClusterEvent × Answer)) (m : Machine) → 0 < nodes → AllHappen (begun_as nodes limit hot) es m →
    MachineInvariant m
reached_holds nodes limit hot es m some run = all_keep (begun_as nodes limit hot) m es (begun_holds nodes limit hot some) run

-- ---- the history

pub all_told : (m m' : Machine) (es : List (ClusterEvent × Answer)) → AllHappen m es m' → m'.history ≡ m.history ++ all_entries m.history es
all_told m m' [] e = ap (λ x. x.history) e ∙ sym (append-nil m.history)
all_told m m' ((e, a) ∷ es) (v, (step, rest)) = grind (arith, all_told v m' es rest, entries_of, event_told, all_entries, append_assoc)

pub safe : (m : Machine) → MachineInvariant m → IsSafe (state_of m)
safe m h = kept_of (state_of m) h.sound h.recorded

pub only_tails : (m : Machine) → MachineInvariant m → (before later : List EntryValue) (n : ℕ) (losses : List Loss) →
    m.history ≡ before ++ fails n losses ∷ later → IsFair before n losses
only_tails m h before later n losses split = follows_in m.history before later (fails n losses) h.recorded.legal split

pub remaining : (m : Machine) → MachineInvariant m → (before later : List EntryValue) (e : EntryValue) → m.history ≡ before ++ e ∷ later →
    IsRun opening_tree (kept (before ++ e ∷ []))
unfolding IsLegal
remaining m h before later e split = (h.recorded.legal before later e split).run

-- ---- what was handed over

pub handed_over_replicated : (m : Machine) → MachineInvariant m → (c i : ℕ) → is_written (client_lease m.leases c i) ≡ false →
    Each (λ x. x.0.client ≡ c → contains (touched x.1.effects) i ≡ true → x.0.number < first_unreplicated m.world c) (steps m.world)
handed_over_replicated m h c i away = grind (arith, first_undigested-below, each-map, handed_over)

-- ---- what lasts

append_trace : (s : State) (ts us : List State) → IsTrace s ts → IsTrace (last_of s ts) us → IsTrace s (ts ++ us)
append_trace s [] us first second = second
append_trace s (t ∷ ts) us first second = (first.0, append_trace t ts us first.1 second)

append_last : (s : State) (ts us : List State) → last_of s (ts ++ us) ≡ last_of (last_of s ts) us
append_last s [] us = refl
append_last s (t ∷ ts) us = append_last t ts us

pub then_leads : (m v m' : Machine) → Leads m v → Leads v m' → Leads m m'
then_leads m v m' one two = grind (arith, append_trace, append_last)

pub all_lead : (m m' : Machine) (es : List (ClusterEvent × Answer)) → MachineInvariant m → AllHappen m es m' → Leads m m'
all_lead m m' [] h e = same_leads m m' e
all_lead m m' ((e, a) ∷ es) h (v, (step, rest)) = then_leads m v m' (event_leads m v e a h step) (all_lead v m' es (event_keeps m v e a h step) rest)

pub lasts : (m m' : Machine) (es : List (ClusterEvent × Answer)) → MachineInvariant m → AllHappen m es m' → IsLasting (state_of m) (state_of m')
lasts m m' es h run = grind (arith, all_lead, trace_lasts)
