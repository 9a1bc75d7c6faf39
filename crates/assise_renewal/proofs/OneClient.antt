-- A history of one client.
use Rattle.assise_renewal.proofs.Common.{◌≡◌, ℕ, List, [], ◌∷◌, ◌++◌, inl, inr, ap, sym, subst, ◌∙◌, AllByRecursion, EntryValue, opens, Answer, ClusterEvent}
use Rattle.assise_renewal.proofs.Common.{all_entries, entries_of, open_client, opened, Machine, begun_as, ClusterOf, machine, history_of, happens, observed}
use Rattle.assise_renewal.proofs.Common.{Told, trace_told, IsLedBy, IsOfFirst, IsOfSort, IsBegunBy, IsCallOfFirst, IsOfOneClient}
use Rattle.assise_names.specs.declared.durability.Durability.TheVariants.{Pessimistic}
use Rattle.assise_model_events.specs.ClientEvents.{Opening, is_opened, is_refused, lacks_memory}
use Rattle.assise_machine.proofs.Shared.EventLists.{served_told}
use Rattle.assise_renewal.specs.declared.renewal.Sizes.{Sizes}
use Rattle.assise_renewal.proofs.Added.{added}

abbrev AreOfFirst : List EntryValue → Type 0
AreOfFirst es = AllByRecursion IsCallOfFirst es

both_of : (es fs : List EntryValue) → AreOfFirst es → AreOfFirst fs → AreOfFirst (es ++ fs)
both_of [] fs first more = more
both_of (e ∷ es) fs first more = (first.0, both_of es fs first.1 more)

event_adds : (h : List EntryValue) (e : ClusterEvent) (a : Answer) → IsOfSort IsOfFirst e → AreOfFirst (entries_of h e a)
event_adds h e a is =
    elim (added IsOfFirst h e a is) [
      | inl none ↦ subst AreOfFirst (sym none) tt
      | inr one ↦ subst AreOfFirst (sym one.is) (one.sorted, tt)
    ]

events_add : (h : List EntryValue) (es : Told) → AllByRecursion (λ e. IsOfSort IsOfFirst e.0) es → AreOfFirst (all_entries h es)
events_add h [] each = tt
events_add h ((e, a) ∷ es) each =
    both_of (entries_of h e a) (all_entries (h ++ entries_of h e a) es) (event_adds h e a each.0) (events_add (h ++ entries_of h e a) es each.1)

-- who is opened first has number 1
pub first_opened : (nodes log hot c : ℕ) (m : Machine) → Opening (begun_as nodes log hot) 1 Pessimistic (opened c) m → c ≡ 1
first_opened nodes log hot c m (is_opened fine is h) = (let same : opened c ≡ opened 1 = is in cc)
first_opened nodes log hot c m (is_refused r fault is same) = cc
first_opened nodes log hot c m (lacks_memory fine is same) = cc

-- the history of a cluster that one client made
begun_history : (sizes : Sizes) (m : Machine) → IsBegunBy sizes m → IsOfOneClient m.history
begun_history sizes m begun =
    let start = begun_as sizes.nodes sizes.log sizes.hot in
    let v = begun.with_client in
    let one : v.history ≡ opens 1 1 Pessimistic ∷ [] = served_told 0 start v (open_client 1 Pessimistic) (opened 1) (happens begun.opening) in
    let all : m.history ≡ v.history ++ all_entries v.history begun.led.events = trace_told v m begun.led.events begun.led.trace in
    record {
      since = all_entries v.history begun.led.events;
      split = all ∙ ap (λ h. h ++ all_entries v.history begun.led.events) one;
      each = events_add v.history begun.led.events begun.led.sorted;
    }

pub one_client : {C : Type 0} (sizes : Sizes) (cluster : ClusterOf C) → IsBegunBy sizes (machine cluster) → IsOfOneClient (history_of cluster)
unfolding observed
one_client sizes cluster begun = begun_history sizes (machine cluster) begun

-- a client is opened in a cluster in which nothing happened, and makes calls
pub begun_first : (sizes : Sizes) (c : ℕ) (new v m : Machine) → new ≡ begun_as sizes.nodes sizes.log sizes.hot → Opening new 1 Pessimistic (opened c) v →
    IsLedBy IsOfFirst v m → IsBegunBy sizes m
begun_first sizes c new v m begun opening led =
    let start = begun_as sizes.nodes sizes.log sizes.hot in
    let opens_first : Opening start 1 Pessimistic (opened c) v = subst (λ u. Opening u 1 Pessimistic (opened c) v) begun opening in
    let first : c ≡ 1 = first_opened sizes.nodes sizes.log sizes.hot c v opens_first in
    record { with_client = v; opening = subst (λ d. Opening start 1 Pessimistic (opened d) v) first opens_first; led = led }
