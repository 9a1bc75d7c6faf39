-- An event's answer tells exactly the entries that the history gets.
use Rattle.assise_model_events.proofs.Common.{◌≡◌, ℕ, List, ◌++◌, ap, ◌∙◌, append-nil, arith, Op, Create, Mkdir, Truncate, Rename, Unlink, Rmdir, ListCall}
use Rattle.assise_model_events.proofs.Common.{Stat, Fsync, Dsync, Durability, Pessimistic, Optimistic, durability_of, LogFrame, Answer, open_client, try_call}
use Rattle.assise_model_events.proofs.Common.{try_fsync, outgoing, deliver, digest, release_ready, set_hot, crash, fail, back, refill, join, raise, entries_of}
use Rattle.assise_model_events.proofs.Common.{EntryValue, Coalescing, Dsyncing, Fsyncing, Trying, Machine, Opening, Calling, Syncing, Noting, Crashing, Sending}
use Rattle.assise_model_events.proofs.Common.{Delivering, Digesting, Releasing, SettingHot, Failing, Returning, Refilling, Joining, Raising}
use Rattle.assise_names.specs.declared.call.Op.TheVariants.{Read, Write}

pub opening_told : (m m' : Machine) (n : ℕ) (u : Durability) (a : Answer) → Opening m n u a m' →
    m'.history ≡ m.history ++ entries_of m.history (open_client n u) a
opening_told m m' n u a h = grind (arith, append-nil)

pub calling_told : (m m' : Machine) (c : ℕ) (op : Op) (a : Answer) → Calling m c op a m' → m'.history ≡ m.history ++ entries_of m.history (try_call c op) a
calling_told m m' c op a h = grind (arith, append-nil)

pub syncing_told : (m m' : Machine) (c : ℕ) (op : Op) (a : Answer) → Syncing m c op a m' → m'.history ≡ m.history ++ entries_of m.history (try_call c op) a
syncing_told m m' c op a h = grind (arith, append-nil)

pub noting_told : (m m' : Machine) (c : ℕ) (a : Answer) → Noting m c a m' → m'.history ≡ m.history ++ entries_of m.history (try_call c Fsync) a
noting_told m m' c a h = grind (arith, append-nil)

pub coalescing_told : (m m' : Machine) (c : ℕ) (a : Answer) → Coalescing m c a m' → m'.history ≡ m.history ++ entries_of m.history (try_call c Dsync) a
coalescing_told m m' c a h = grind (arith, append-nil)

pub crashing_told : (m m' : Machine) (c : ℕ) (a : Answer) → Crashing m c a m' → m'.history ≡ m.history ++ entries_of m.history (crash c) a
crashing_told m m' c a h = grind (arith, append-nil)

pub sending_told : (m m' : Machine) (n : ℕ) (a : Answer) → Sending m n a m' → m'.history ≡ m.history ++ entries_of m.history (outgoing n) a
sending_told m m' n a h = grind (arith, append-nil)

pub delivering_told : (m m' : Machine) (f : LogFrame) (n : ℕ) (a : Answer) → Delivering m f n a m' →
    m'.history ≡ m.history ++ entries_of m.history (deliver f n) a
delivering_told m m' f n a h = grind (arith, append-nil)

pub digesting_told : (m m' : Machine) (n : ℕ) (a : Answer) → Digesting m n a m' → m'.history ≡ m.history ++ entries_of m.history (digest n) a
digesting_told m m' n a h = grind (arith, append-nil)

pub releasing_told : (m m' : Machine) (a : Answer) → Releasing m a m' → m'.history ≡ m.history ++ entries_of m.history release_ready a
releasing_told m m' a h = grind (arith, append-nil)

pub hot_told : (m m' : Machine) (n capacity : ℕ) (a : Answer) → SettingHot m n capacity a m' →
    m'.history ≡ m.history ++ entries_of m.history (set_hot n capacity) a
hot_told m m' n capacity a h = grind (arith, append-nil)

pub failing_told : (m m' : Machine) (n : ℕ) (a : Answer) → Failing m n a m' → m'.history ≡ m.history ++ entries_of m.history (fail n) a
failing_told m m' n a h = grind (arith, append-nil)

pub returning_told : (m m' : Machine) (n : ℕ) (a : Answer) → Returning m n a m' → m'.history ≡ m.history ++ entries_of m.history (back n) a
returning_told m m' n a h = grind (arith, append-nil)

pub refilling_told : (m m' : Machine) (n : ℕ) (a : Answer) → Refilling m n a m' → m'.history ≡ m.history ++ entries_of m.history (refill n) a
refilling_told m m' n a h = grind (arith, append-nil)

pub joining_told : (m m' : Machine) (n : ℕ) (a : Answer) → Joining m n a m' → m'.history ≡ m.history ++ entries_of m.history (join n) a
joining_told m m' n a h = grind (arith, append-nil)

pub raising_told : (m m' : Machine) (n : ℕ) (a : Answer) → Raising m n a m' → m'.history ≡ m.history ++ entries_of m.history (raise n) a
raising_told m m' n a h = grind (arith, append-nil)

-- an fsync, which has two names
by_either_name : (h : List EntryValue) (c : ℕ) (a : Answer) → entries_of h (try_call c Fsync) a ≡ entries_of h (try_fsync c) a
by_either_name h c a = grind arith

call_told : (m m' : Machine) (c : ℕ) (u : Durability) (a : Answer) → Fsyncing u m c a m' → m'.history ≡ m.history ++ entries_of m.history (try_call c Fsync) a
call_told m m' c Pessimistic a h = syncing_told m m' c Fsync a h
call_told m m' c Optimistic a h = noting_told m m' c a h

pub fsyncing_told : (m m' : Machine) (c : ℕ) (u : Durability) (a : Answer) → Fsyncing u m c a m' → m'.history ≡ m.history ++ entries_of m.history (try_fsync c)
    a
fsyncing_told m m' c u a h = call_told m m' c u a h ∙ ap (λ es. m.history ++ es) (by_either_name m.history c a)

dsyncing_told : (m m' : Machine) (c : ℕ) (u : Durability) (a : Answer) → Dsyncing u m c a m' → m'.history ≡ m.history ++ entries_of m.history (try_call c Dsync)
    a
dsyncing_told m m' c Pessimistic a h = syncing_told m m' c Dsync a h
dsyncing_told m m' c Optimistic a h = coalescing_told m m' c a h

-- a call that a client tries: a sync is one
pub trying_told : (m m' : Machine) (c : ℕ) (op : Op) (a : Answer) → Trying m c op a m' → m'.history ≡ m.history ++ entries_of m.history (try_call c op) a
trying_told m m' c (Create p) a h = calling_told m m' c (Create p) a h
trying_told m m' c (Mkdir p) a h = calling_told m m' c (Mkdir p) a h
trying_told m m' c (Read p offset n) a h = calling_told m m' c (Read p offset n) a h
trying_told m m' c (Write p offset bytes) a h = calling_told m m' c (Write p offset bytes) a h
trying_told m m' c (Truncate p size) a h = calling_told m m' c (Truncate p size) a h
trying_told m m' c (Rename p q) a h = calling_told m m' c (Rename p q) a h
trying_told m m' c (Unlink p) a h = calling_told m m' c (Unlink p) a h
trying_told m m' c (Rmdir p) a h = calling_told m m' c (Rmdir p) a h
trying_told m m' c (ListCall p) a h = calling_told m m' c (ListCall p) a h
trying_told m m' c (Stat p) a h = calling_told m m' c (Stat p) a h
trying_told m m' c Fsync a h = call_told m m' c (durability_of c m.history) a h
trying_told m m' c Dsync a h = dsyncing_told m m' c (durability_of c m.history) a h
