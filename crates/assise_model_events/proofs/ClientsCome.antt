-- Each outcome of what clients do comes in a state that two nodes come to.
use Rattle.assise_model_events.proofs.Common.{◌≡◌, ◌≢◌, ℕ, suc, ◌<◌, true, false, List, [], ◌∷◌, Some, None, refl, ap, subst, ◌∙◌, arith, Op, Create, Fsync}
use Rattle.assise_model_events.proofs.Common.{Stat, Optimistic, Pessimistic, Read, Write, ClientGone, LogFull, NodeDown, OutOfMemory, Done, durability_of}
use Rattle.assise_model_events.proofs.Common.{durability-still, AllHaveEffects, new_lease, in_way, is_free_for, end_of_log, received_by_all, records_between}
use Rattle.assise_model_events.proofs.Common.{create_op, Calling, Crashing, Granted, Opening, Syncing, is_crashed, is_full, is_opened, is_refused, lacks_memory}
use Rattle.assise_model_events.proofs.Common.{IsMissing, call_of_client, Coalescing, coalesced_from, Answer, crash, crashed, not_yet, open_client, opened}
use Rattle.assise_model_events.proofs.Common.{refused, replied, client_fault, MachineInvariant, Machine, Comes, IsReached}
use Rattle.assise_model_events.specs.Dsyncs.{is_refused, lacks_memory}
use Rattle.assise_model_events.proofs.Shared.Answerable.{awaited_can, crashed_can, opened_can, replicating_can, synced_can}
use Rattle.assise_model_events.proofs.ReachedCreate.{HasFile, file_made, has_file, has_file_as}
use Rattle.assise_model_events.proofs.Trace.{HasLeases, IsOpen, has_effects, is_open, is_open_as, leases_had, reaches, served, tried, start, start_holds}
use Rattle.assise_model_events.proofs.Trace.{start_reached}
use Rattle.assise_model_events.proofs.Shared.EachEvent.{event_keeps}
use Rattle.assise_model_events.proofs.Shared.LackAnswerable.{keeps_them, memory_can, with_granted}
use Rattle.assise_model_events.proofs.Shared.Regroupable.{coalesced_can, coalescing_synced}
use Rattle.assise_model_events.proofs.MembersCome.{falls}

-- ---- a client is opened

pub opened_comes : Comes (λ m m'. Opening m 1 Pessimistic (opened 1) m')
opened_comes = grind (arith, opened_can (start 1) 1 Pessimistic (start_holds 1) refl, start_reached 1)

pub not_opened_for_memory_comes : Comes (λ m m'. Opening m 1 Pessimistic (refused OutOfMemory) m')
not_opened_for_memory_comes = record { limit = 1; before = start 1; reached = start_reached 1; after = start 1; outcome = lacks_memory refl refl refl }

pub not_opened_comes : Comes (λ m m'. Opening m 2 Pessimistic (refused NodeDown) m')
not_opened_comes =
    let (m, (inodes, d)) = falls 1 (start 1) (start_reached 1) (start_holds 1) refl in
    record { limit = 1; before = m; reached = d.reached; after = m; outcome = is_refused NodeDown (rw d.members refl) refl refl }

-- ---- a client crashes

open_fine : (limit : ℕ) (m : Machine) → IsOpen limit m → client_fault m 1 ≡ None
open_fine limit m o = rw (o.world.clients, o.world.lives, o.world.runs) refl

pub crashed_comes : Comes (λ m m'. Crashing m 1 crashed m')
crashed_comes =
    let (m, o) = is_open 1 in
    let (m', h) = crashed_can m 1 o.holds (open_fine 1 m o) in
    record { limit = 1; before = m; reached = o.reached; after = m'; outcome = h }

pub not_crashed_for_memory_comes : Comes (λ m m'. Crashing m 1 (refused OutOfMemory) m')
not_crashed_for_memory_comes = grind (arith, is_open 1, lacks_memory, open_fine)

-- client 1 crashed
record IsOver (m : Machine) : Type 0 where
  reached : IsReached 1 m
  gone : client_fault m 1 ≡ Some ClientGone

of_crash : (m m' : Machine) → IsOpen 1 m → Crashing m 1 crashed m' → IsOver m'
of_crash m m' o (is_crashed fine is e) = grind (arith, reaches 1 m m' (crash 1) crashed o.reached (is_crashed fine is e))
of_crash m m' o (lacks_memory fine is same) = cc
of_crash m m' o (is_refused r fault is same) = cc

is_over : (m : Machine) × IsOver m
is_over =
    let (m, o) = is_open 1 in
    let (m', h) = crashed_can m 1 o.holds (open_fine 1 m o) in
    (m', of_crash m m' o h)

pub not_crashed_comes : Comes (λ m m'. Crashing m 1 (refused ClientGone) m')
not_crashed_comes =
    let (m, over) = is_over in
    record { limit = 1; before = m; reached = over.reached; after = m; outcome = is_refused ClientGone over.gone refl refl }

-- ---- a call

pub not_called_comes : (op : Op) × Comes (λ m m'. Calling m 1 op (refused ClientGone) m')
not_called_comes =
    let (m, over) = is_over in
    (create_op, record { limit = 1; before = m; reached = over.reached; after = m; outcome = is_refused ClientGone (rw over.gone refl) refl refl })

pub not_called_for_memory_comes : (op : Op) × Comes (λ m m'. Calling m 1 op (refused OutOfMemory) m')
not_called_for_memory_comes =
    let (m, o) = is_open 1 in
    (create_op, record { limit = 1; before = m; reached = o.reached; after = m; outcome = memory_can m 1 create_op Done (rw (open_fine 1 m o) refl) })

pub called_comes : (p : List (List ℕ)) × Comes (λ m m'. Calling m 1 (Create p) (replied Done) m')
called_comes = ((97 ∷ []) ∷ [], file_made 1 (omega arith))

-- a log that takes no record is full from the start
filled : (m : Machine) (o : IsOpen 0 m) (gs : List Granted) (h : HasLeases m gs) → Calling m 1 create_op (refused LogFull) (with_granted m gs)
filled m o gs h =
    is_full Done gs refl
    (grind (arith, tried 0 m o gs h, served 0 m o gs h, has_effects 0 m o gs h))
    (keeps_them m gs)

pub log_full_comes : (op : Op) × Comes (λ m m'. Calling m 1 op (refused LogFull) m')
log_full_comes =
    let (m, o) = is_open 0 in
    let (gs, h) = leases_had 0 m o in
    (create_op, record { limit = 0; before = m; reached = o.reached; after = with_granted m gs; outcome = filled m o gs h })

-- ---- a call that awaits another client's lease

-- beside client 1, which has the root for writing, client 2 lives on node 1
record HasTwo (m : Machine) : Type 0 where
  reached : IsReached 1 m
  holds : MachineInvariant m
  runs : client_fault m 2 ≡ None
  home : m.world.home 2 ≡ 1
  home_known : m.leases.levels.home 1 ≡ Some 1
  root : m.leases.levels.clients 0 ≡ new_lease 1 Write ∷ []

of_second : (m m' : Machine) → HasFile 1 m → Opening m 1 Pessimistic (opened (suc m.world.clients)) m' → HasTwo m'
of_second m m' f (is_opened fine is e) =
    let o = e.opening.opens in
    let new : suc m.world.clients ≡ 2 = ap suc f.clients in
    let runs : m'.world.crashed 2 ≡ false = subst (λ c. m'.world.crashed c ≡ false) new o.crashed_new in
    let lives : m'.world.lives 2 ≡ true = subst (λ c. m'.world.lives c ≡ true) new o.lives_new in
    let many : m'.world.clients ≡ 2 = o.clients ∙ new in
    let other : 1 ≢ suc m.world.clients = λ is. (let two : 1 ≡ 2 = is ∙ new in omega (arith, two)) in
    record {
      reached = reaches 1 m m' (open_client 1 Pessimistic) (opened (suc m.world.clients)) f.reached (is_opened fine is e);
      holds = event_keeps m m' (open_client 1 Pessimistic) (opened (suc m.world.clients)) f.holds (is_opened fine is e);
      runs = rw (many, runs, lives) refl;
      home = subst (λ c. m'.world.home c ≡ 1) new o.home_new;
      home_known = e.opening.enrols.home.elsewhere 1 other ∙ f.home_known;
      root = e.opening.enrols.clients 0 ∙ f.clients_root;
    }
of_second m m' f (is_refused r fault is same) = cc
of_second m m' f (lacks_memory fine is same) = cc

has_two : (m : Machine) × HasTwo m
has_two =
    let (m, f) = has_file 1 (omega arith) in
    let (m', h) = opened_can m 1 Pessimistic f.holds (rw (f.members, f.clients) refl) in
    (m', of_second m m' f h)

root_missing : (m : Machine) → HasTwo m → IsMissing m.world m.leases (call_of_client m.world 2 (Stat []) Done) 0 Read
root_missing m t = rw t.root refl

root_taken : (m : Machine) → HasTwo m → is_free_for m.leases.levels 2 (m.world.home 2) 0 Read ≡ false
unfolding in_way
root_taken m t = rw (t.root, t.home, t.home_known) refl

pub call_awaited_comes : (op : Op) × Comes (λ m m'. Calling m 2 op not_yet m')
call_awaited_comes =
    let (m, t) = has_two in
    let (m', h) = awaited_can m 2 0 (Stat []) Done Read t.holds (rw t.runs refl) (root_missing m t) (root_taken m t) in
    (Stat [], record { limit = 1; before = m; reached = t.reached; after = m'; outcome = h })

-- ---- a sync

-- a client that made no call has nothing to replicate
nothing_awaited : (m : Machine) → IsOpen 1 m → received_by_all m.world 1 ≡ end_of_log m.world 1
unfolding received_by_all end_of_log
nothing_awaited m o = rw (o.world.full, o.world.first, o.world.records, o.world.received) (omega arith)

pub synced_comes : Comes (λ m m'. Syncing m 1 Fsync (replied Done) m')
synced_comes =
    let (m, o) = is_open 1 in
    let (m', h) = synced_can m 1 Fsync Pessimistic refl o.holds (open_fine 1 m o) (nothing_awaited m o) in
    record { limit = 1; before = m; reached = o.reached; after = m'; outcome = h }

pub not_synced_for_memory_comes : Comes (λ m m'. Syncing m 1 Fsync (refused OutOfMemory) m')
not_synced_for_memory_comes = grind (arith, is_open 1, lacks_memory, open_fine, nothing_awaited)

pub not_synced_comes : Comes (λ m m'. Syncing m 1 Fsync (refused ClientGone) m')
not_synced_comes =
    let (m, over) = is_over in
    record { limit = 1; before = m; reached = over.reached; after = m; outcome = is_refused ClientGone over.gone refl refl }

-- node 2 lacks the file's record
record_awaited : (m : Machine) → HasFile 1 m → received_by_all m.world 1 < end_of_log m.world 1
unfolding received_by_all end_of_log
record_awaited m f = rw (f.full, f.first, f.records, f.received_home, f.received_other) (omega arith)

pub sync_awaited_comes : Comes (λ m m'. Syncing m 1 Fsync not_yet m')
sync_awaited_comes =
    let (m, f) = has_file 1 (omega arith) in
    let (m', h) = replicating_can m 1 Fsync f.holds (rw (f.clients, f.lives, f.runs) refl) (record_awaited m f) in
    record { limit = 1; before = m; reached = f.reached; after = m'; outcome = h }

-- ---- an optimistic client's dsync

abbrev CoalescesTo : Answer → Machine → Machine → Type 0
CoalescesTo a m m' = (durability_of 1 m.history ≡ Optimistic) × Coalescing m 1 a m'

pub coalescing_synced_comes : Comes (CoalescesTo (replied Done))
coalescing_synced_comes =
    let (m, (o, was)) = is_open_as 1 Optimistic in
    let (m', h) = coalescing_synced m 1 o.holds (open_fine 1 m o) (nothing_awaited m o) in
    record { limit = 1; before = m; reached = o.reached; after = m'; outcome = (was, h) }

from_start : (m : Machine) → HasFile 1 m → coalesced_from m.world 1 ≡ 0
unfolding received_by_all end_of_log
from_start m f = rw (f.full, f.first, f.records, f.received_home, f.goal, f.home) (rw f.received_other refl)

-- the file's record would be a group
file_effects : (m : Machine) → HasFile 1 m → AllHaveEffects (records_between m.world 1 (coalesced_from m.world 1) (end_of_log m.world 1))
unfolding received_by_all end_of_log records_between
file_effects m f = rw (from_start m f) (rw (f.first, f.records) (refl, tt))

file_fine : (m : Machine) → HasFile 1 m → client_fault m 1 ≡ None
file_fine m f = rw (f.clients, f.lives, f.runs) refl

pub coalesced_comes : Comes (CoalescesTo not_yet)
coalesced_comes =
    let (m, (f, was)) = has_file_as 1 Optimistic (omega arith) in
    let (m', h) = coalesced_can m 1 f.holds (file_fine m f) (record_awaited m f) (file_effects m f) in
    record { limit = 1; before = m; reached = f.reached; after = m'; outcome = (was, h) }

pub not_coalesced_for_memory_comes : Comes (CoalescesTo (refused OutOfMemory))
not_coalesced_for_memory_comes = grind (arith, has_file_as 1 Optimistic (omega arith), lacks_memory, file_fine)

crash_opened : (m m' : Machine) → Crashing m 1 crashed m' → durability_of 1 m'.history ≡ durability_of 1 m.history
crash_opened m m' h = grind (arith, durability-still)

pub not_coalesced_comes : Comes (CoalescesTo (refused ClientGone))
not_coalesced_comes =
    let (m, (o, was)) = is_open_as 1 Optimistic in
    let (v, h) = crashed_can m 1 o.holds (open_fine 1 m o) in
    let over = of_crash m v o h in
    record { limit = 1; before = v; reached = over.reached; after = v; outcome = (crash_opened m v h ∙ was, is_refused ClientGone over.gone refl refl) }
