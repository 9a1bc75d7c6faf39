-- Each event, by what it is.
use Rattle.assise_model_events.proofs.Common.{◌≡◌, ◌++◌, ℕ, refl, ap, arith, Op, Create, Mkdir, Truncate, Rename, Unlink, Rmdir, ListCall, Stat, Fsync, Dsync}
use Rattle.assise_model_events.proofs.Common.{Durability, Pessimistic, Optimistic, durability_of, is_sync, Answer, ClusterEvent, open_client, try_call}
use Rattle.assise_model_events.proofs.Common.{try_fsync, outgoing, deliver, digest, release_ready, set_hot, crash, fail, back, refill, join, raise, entries_of}
use Rattle.assise_model_events.proofs.Common.{Dsyncing, Fsyncing, Happens, Leads, Trying, Machine, MachineInvariant, Sending, SettingHot}
use Rattle.assise_names.specs.declared.call.Op.TheVariants.{Read, Write}
use Rattle.assise_model_events.proofs.Shared.CallKeeps.{calling_holds}
use Rattle.assise_model_events.proofs.OpenAndCrash.{opening_leads, opening_keeps, crashing_leads, crashing_keeps}
use Rattle.assise_model_events.proofs.Digested.{digesting_leads, digesting_holds}
use Rattle.assise_model_events.proofs.Shared.DsyncKeeps.{coalesced_leads, coalesced_holds}
use Rattle.assise_model_events.proofs.Felled.{fail_leads, fail_holds}
use Rattle.assise_model_events.proofs.Shared.EventTraces.{same_leads, same_holds}
use Rattle.assise_model_events.proofs.ReleaseKeeps.{release_leads, release_holds}
use Rattle.assise_model_events.proofs.DeliveryKeeps.{delivery_leads, delivery_keeps}
use Rattle.assise_model_events.proofs.Shared.Raised.{raise_leads, raise_holds}
use Rattle.assise_model_events.proofs.Shared.Rejoined.{join_leads, join_holds}
use Rattle.assise_model_events.proofs.ReturnKeeps.{return_leads, return_holds, refill_leads, refill_holds}
use Rattle.assise_model_events.proofs.Shared.SyncKeeps.{noting_leads, noting_keeps, syncing_leads, syncing_keeps}
use Rattle.assise_model_events.proofs.EntriesTold.{opening_told, trying_told, fsyncing_told, sending_told, delivering_told, digesting_told, releasing_told}
use Rattle.assise_model_events.proofs.EntriesTold.{hot_told, crashing_told, failing_told, returning_told, refilling_told, joining_told, raising_told}

-- ---- what is told

pub event_told : (m m' : Machine) (e : ClusterEvent) (a : Answer) → Happens m e a m' → m'.history ≡ m.history ++ entries_of m.history e a
event_told m m' (open_client n u) a h = opening_told m m' n u a h
event_told m m' (try_call c op) a h = trying_told m m' c op a h
event_told m m' (try_fsync c) a h = fsyncing_told m m' c (durability_of c m.history) a h
event_told m m' (outgoing n) a h = sending_told m m' n a h
event_told m m' (deliver f n) a h = delivering_told m m' f n a h
event_told m m' (digest n) a h = digesting_told m m' n a h
event_told m m' release_ready a h = releasing_told m m' a h
event_told m m' (set_hot n capacity) a h = hot_told m m' n capacity a h
event_told m m' (crash c) a h = crashing_told m m' c a h
event_told m m' (fail n) a h = failing_told m m' n a h
event_told m m' (back n) a h = returning_told m m' n a h
event_told m m' (refill n) a h = refilling_told m m' n a h
event_told m m' (join n) a h = joining_told m m' n a h
event_told m m' (raise n) a h = raising_told m m' n a h

-- ---- frames that go out, what may be hot, and calls that are syncs

sending_leads : (m m' : Machine) (n : ℕ) (a : Answer) → Sending m n a m' → Leads m m'
sending_leads m m' n a h = grind (arith, same_leads)

sending_holds : (m m' : Machine) (n : ℕ) (a : Answer) → MachineInvariant m → Sending m n a m' → MachineInvariant m'
sending_holds m m' n a h s = grind (arith, same_holds)

pub hot_leads : (m m' : Machine) (n capacity : ℕ) (a : Answer) → SettingHot m n capacity a m' → Leads m m'
hot_leads m m' n capacity a h = grind (arith, same_leads)

pub hot_holds : (m m' : Machine) (n capacity : ℕ) (a : Answer) → MachineInvariant m → SettingHot m n capacity a m' → MachineInvariant m'
hot_holds m m' n capacity a h s = grind (arith, same_holds)

fsyncing_keeps : (m m' : Machine) (c : ℕ) (u : Durability) (a : Answer) → durability_of c m.history ≡ u → MachineInvariant m → Fsyncing u m c a m' →
    Leads m m' × MachineInvariant m'
fsyncing_keeps m m' c Pessimistic a is h s = (syncing_leads m m' c Fsync Pessimistic a refl h s, syncing_keeps m m' c Fsync Pessimistic a refl h s)
fsyncing_keeps m m' c Optimistic a is h s = (let sync = ap (is_sync Fsync) is in (noting_leads m m' c a sync h s, noting_keeps m m' c a sync h s))

dsyncing_keeps : (m m' : Machine) (c : ℕ) (u : Durability) (a : Answer) → MachineInvariant m → Dsyncing u m c a m' → Leads m m' × MachineInvariant m'
dsyncing_keeps m m' c Pessimistic a h s = (syncing_leads m m' c Dsync Pessimistic a refl h s, syncing_keeps m m' c Dsync Pessimistic a refl h s)
dsyncing_keeps m m' c Optimistic a h s = (coalesced_leads m m' c a h s, coalesced_holds m m' c a h s)

trying_keeps : (m m' : Machine) (c : ℕ) (op : Op) (a : Answer) → MachineInvariant m → Trying m c op a m' → Leads m m' × MachineInvariant m'
trying_keeps m m' c (Create p) a h s = calling_holds m m' c (Create p) a h refl s
trying_keeps m m' c (Mkdir p) a h s = calling_holds m m' c (Mkdir p) a h refl s
trying_keeps m m' c (Read p offset n) a h s = calling_holds m m' c (Read p offset n) a h refl s
trying_keeps m m' c (Write p offset bytes) a h s = calling_holds m m' c (Write p offset bytes) a h refl s
trying_keeps m m' c (Truncate p size) a h s = calling_holds m m' c (Truncate p size) a h refl s
trying_keeps m m' c (Rename p q) a h s = calling_holds m m' c (Rename p q) a h refl s
trying_keeps m m' c (Unlink p) a h s = calling_holds m m' c (Unlink p) a h refl s
trying_keeps m m' c (Rmdir p) a h s = calling_holds m m' c (Rmdir p) a h refl s
trying_keeps m m' c (ListCall p) a h s = calling_holds m m' c (ListCall p) a h refl s
trying_keeps m m' c (Stat p) a h s = calling_holds m m' c (Stat p) a h refl s
trying_keeps m m' c Fsync a h s = fsyncing_keeps m m' c (durability_of c m.history) a refl h s
trying_keeps m m' c Dsync a h s = dsyncing_keeps m m' c (durability_of c m.history) a h s

-- ---- what each keeps

event_holds : (m m' : Machine) (e : ClusterEvent) (a : Answer) → MachineInvariant m → Happens m e a m' → Leads m m' × MachineInvariant m'
event_holds m m' (open_client n u) a h s = (opening_leads m m' n u a h s, opening_keeps m m' n u a h s)
event_holds m m' (try_call c op) a h s = trying_keeps m m' c op a h s
event_holds m m' (try_fsync c) a h s = fsyncing_keeps m m' c (durability_of c m.history) a refl h s
event_holds m m' (outgoing n) a h s = (sending_leads m m' n a s, sending_holds m m' n a h s)
event_holds m m' (deliver f n) a h s = (delivery_leads m m' f n a h s, delivery_keeps m m' f n a h s)
event_holds m m' (digest n) a h s = (digesting_leads m m' n a h s, digesting_holds m m' n a h s)
event_holds m m' release_ready a h s = (release_leads m m' a h s, release_holds m m' a h s)
event_holds m m' (set_hot n capacity) a h s = (hot_leads m m' n capacity a s, hot_holds m m' n capacity a h s)
event_holds m m' (crash c) a h s = (crashing_leads m m' c a h s, crashing_keeps m m' c a h s)
event_holds m m' (fail n) a h s = (fail_leads m m' n a h s, fail_holds m m' n a h s)
event_holds m m' (back n) a h s = (return_leads m m' n a h s, return_holds m m' n a h s)
event_holds m m' (refill n) a h s = (refill_leads m m' n a h s, refill_holds m m' n a h s)
event_holds m m' (join n) a h s = (join_leads m m' n a h s, join_holds m m' n a h s)
event_holds m m' (raise n) a h s = (raise_leads m m' n a s, raise_holds m m' n a h s)

pub event_leads : (m m' : Machine) (e : ClusterEvent) (a : Answer) → MachineInvariant m → Happens m e a m' → Leads m m'
event_leads m m' e a h s = (event_holds m m' e a h s).0

pub event_keeps : (m m' : Machine) (e : ClusterEvent) (a : Answer) → MachineInvariant m → Happens m e a m' → MachineInvariant m'
event_keeps m m' e a h s = (event_holds m m' e a h s).1
