-- The events of a cluster, and their answers. One event is one call of the cluster.
-- Assise (OSDI 2020), section 3; van Renesse and Schneider, chain replication (OSDI 2004), section 2.
use Rattle.std.specs.Prelude.{ℕ, Bool, true, false, List, [], ◌∷◌, ◌++◌}
use Rattle.assise_names.specs.declared.call.Op.{Op}
use Rattle.assise_names.specs.declared.call.Op.TheVariants.{Fsync}
use Rattle.assise_names.specs.declared.durability.Durability.{Durability}
use Rattle.assise_names.specs.declared.refusal.Refusal.{Refusal}
use Rattle.assise_names.specs.declared.reply.Reply.{Reply}
use Rattle.assise_history.specs.declared.call.Loss.{Loss}
use Rattle.assise_history.specs.Entries.{EntryValue, opens, calls, crashes, fails, returns}
use Rattle.assise_history.specs.Legal.{calls_made}
use Rattle.assise_record.specs.LogFrame.{LogFrame}

pub data ClusterEvent : Type 0 where
  -- a client is opened on a node, to have its fsyncs served in one way
  open_client : (node : ℕ) → Durability → ClusterEvent
  -- a client tries a call, an fsync
  try_call : (client : ℕ) → Op → ClusterEvent
  try_fsync : (client : ℕ) → ClusterEvent
  -- a node's frames for the node behind it in each client's chain
  outgoing : (node : ℕ) → ClusterEvent
  -- a frame comes to a node
  deliver : LogFrame → (node : ℕ) → ClusterEvent
  -- a node digests what all full nodes have
  digest : (node : ℕ) → ClusterEvent
  -- leases that were asked for go, where they may
  release_ready : ClusterEvent
  -- `capacity` inodes may be hot at a node
  set_hot : (node capacity : ℕ) → ClusterEvent
  -- a client crashes
  crash : (client : ℕ) → ClusterEvent
  -- a node fails
  fail : (node : ℕ) → ClusterEvent
  -- a node that failed begins to come back, gets an inode that it may lack, and is full again
  back : (node : ℕ) → ClusterEvent
  refill : (node : ℕ) → ClusterEvent
  join : (node : ℕ) → ClusterEvent
  -- a node reads and sends marked frames from now on
  raise : (node : ℕ) → ClusterEvent

-- a client tries a call
abbrev pub is_call : ClusterEvent → Bool
is_call (open_client n u) = false
is_call (try_call c op) = true
is_call (try_fsync c) = false
is_call (outgoing n) = false
is_call (deliver f n) = false
is_call (digest n) = false
is_call release_ready = false
is_call (set_hot n capacity) = false
is_call (crash c) = false
is_call (fail n) = false
is_call (back n) = false
is_call (refill n) = false
is_call (join n) = false
is_call (raise n) = false

pub data Answer : Type 0 where
  refused : Refusal → Answer
  -- the number of the client that was opened
  opened : (client : ℕ) → Answer
  replied : Reply → Answer
  -- a lease or a replication is awaited
  not_yet : Answer
  -- frames, each with the node that it is for
  sent : List (LogFrame × ℕ) → Answer
  -- the place behind the last record of the frame's client that the node has
  received : (place : ℕ) → Answer
  -- how many records were digested, and how many clients' leases released
  digested : (count : ℕ) → Answer
  released : (count : ℕ) → Answer
  hot_set : Answer
  crashed : Answer
  -- the first lost call of each client that lost any
  failed : List Loss → Answer
  -- how many inodes the node may lack, at the beginning and then
  began : (stale : ℕ) → Answer
  left : (stale : ℕ) → Answer
  joined : Answer
  raised : Answer

-- ---- entries

abbrev pub call_entry : List EntryValue → ℕ → Op → Reply → List EntryValue
call_entry h c op reply = calls (record { client = c; number = calls_made c h; op = op; reply = reply }) ∷ []

-- the entries that an answer is told by, after a history: one where a client was opened, was answered or crashed, a node failed or
-- was taken in again, and none where the event was refused, is awaited, or is none of these
abbrev pub entries_of : List EntryValue → ClusterEvent → Answer → List EntryValue
entries_of h (open_client n u) (opened c) = opens c n u ∷ []
entries_of h (try_call c op) (replied reply) = call_entry h c op reply
entries_of h (try_fsync c) (replied reply) = call_entry h c Fsync reply
entries_of h (crash c) crashed = crashes c ∷ []
entries_of h (fail n) (failed losses) = fails n losses ∷ []
entries_of h (join n) joined = returns n ∷ []
entries_of h e a = []

-- events with their answers, one after another
abbrev pub all_entries : List EntryValue → List (ClusterEvent × Answer) → List EntryValue
all_entries h [] = []
all_entries h ((e, a) ∷ es) = entries_of h e a ++ all_entries (h ++ entries_of h e a) es
