-- The headline in words of a cluster's history and of its nodes' regions.
-- Assise (OSDI 2020), section 3 (CC-NVM: prefix crash consistency, replication along a chain, fail-over, node recovery).
use Rattle.std.specs.Prelude.{ℕ, zero, suc, ◌≤◌, min, nat_le, nat_lt, if◌then◌else◌, List, [], ◌∷◌, ◌++◌, filter, length, map, Ok}
use Rattle.assise_names.specs.declared.call.Op.TheVariants.{Fsync as FsyncCall}
use Rattle.assise_history.specs.declared.call.Call.{Call as AnsweredCall}
use Rattle.assise_history.specs.Entries.{EntryValue, opens, calls, crashes, fails, returns}
use Rattle.assise_history.specs.Kept.{kept}
use Rattle.assise_history.specs.Legal.{IsDown, IsPastSyncs, calls_made, clients_opened}
use Rattle.assise_private_log.specs.NumberedLog.{NumberedLog, end, records_from}
use Rattle.assise_record.specs.LogRecord.{LogRecord}
use Rattle.assise_digest.specs.Region.{RegionValue, no_log}
use Rattle.assise_machine_state.specs.Places.{item_at}
use Rattle.assise_machine_calls.specs.declared.turn.Turn.TheVariants.{Answered}
use Rattle.assise_machine.specs.declared.answer.Answer.{Answer}
use Rattle.assise_machine.specs.declared.answer.Answer.TheVariants.{Opened, Called, Crashed, Failed, Joined}
use Rattle.assise_machine.specs.declared.cluster.ClusterOf.{ClusterOf}
use Rattle.assise_machine.specs.declared.event.Event.{Event}
use Rattle.assise_machine.specs.declared.event.Event.TheVariants.{Open, Call, Fsync, Crash, Fail, Join}

-- ---- what is seen of a cluster

-- what was answered and what happened, in order
abbrev pub history_of : {C : Type 0} → ClusterOf C → List EntryValue
history_of cluster = cluster.sound.state.history.events

-- what each node has, from node 1 on
abbrev pub regions_of : {C : Type 0} → ClusterOf C → List RegionValue
regions_of cluster = cluster.sound.state.nodes

-- there is such a node, and it hasn't failed since it was last taken in
pub record IsUp {C : Type 0} (cluster : ClusterOf C) (n : ℕ) : Type 0 where
  pub least : 1 ≤ n
  pub most : n ≤ length (regions_of cluster)
  pub up : IsDown (history_of cluster) n → ⊥

-- ---- what is replicated

-- the client's log as far as the node received it, and none where the node isn't up
abbrev pub received_log : RegionValue → ℕ → NumberedLog
received_log r c = (item_at no_log r.logs c).log

-- the least place behind the last record of the client, at those nodes that have its log
abbrev pub least_end : ℕ → List RegionValue → (most : ℕ) → ℕ
least_end c [] most = most
least_end c (r ∷ rs) most = if nat_le c (length r.logs) then min (end (received_log r c)) (least_end c rs most) else least_end c rs most

-- the client's records below this place have come to all nodes that are up; it has no more of them than it made calls
abbrev pub acked_to : {C : Type 0} → ClusterOf C → ℕ → ℕ
acked_to cluster c = least_end c (regions_of cluster) (calls_made c (history_of cluster))

abbrev pub first_acked : {C : Type 0} → ClusterOf C → ℕ → List ℕ
first_acked cluster zero = []
first_acked cluster (suc m) = first_acked cluster m ++ acked_to cluster (suc m) ∷ []

-- this place for each client, from client 1 on
abbrev pub all_acked : {C : Type 0} → ClusterOf C → List ℕ
all_acked cluster = first_acked cluster (clients_opened (history_of cluster))

-- ---- what is replicated

-- the call of the first of some records, or the next call where there is none
abbrev pub first_call : List LogRecord → (next : ℕ) → ℕ
first_call [] next = next
first_call (r ∷ rs) next = r.call

-- the call of the client's first record from a place on that any node has, or its next call
abbrev pub call_from : (c place : ℕ) → List RegionValue → (next : ℕ) → ℕ
call_from c place [] next = next
call_from c place (r ∷ rs) next = first_call (records_from (received_log r c) place) (call_from c place rs next)

-- the client's calls below this number are replicated: it is that of its first call with a record that isn't replicated
abbrev pub replicated_to : {C : Type 0} → ClusterOf C → ℕ → ℕ
replicated_to cluster c = call_from c (acked_to cluster c) (regions_of cluster) (calls_made c (history_of cluster))

-- the calls that no failure took, each client's below a bound
abbrev pub kept_below : (ℕ → ℕ) → List EntryValue → List AnsweredCall
kept_below bound h = filter (λ x. nat_lt x.number (bound x.client)) (kept h)

abbrev pub replicated_calls : {C : Type 0} → ClusterOf C → List AnsweredCall
replicated_calls cluster = kept_below (replicated_to cluster) (history_of cluster)

-- each answered sync of the client lies below the bound
abbrev pub IsSynced : {C : Type 0} → ClusterOf C → ℕ → Type 0
IsSynced cluster c = IsPastSyncs (history_of cluster) (record { client = c; first = replicated_to cluster c })

-- ---- what a run tells

-- the entry that an event with its answer is told by, after a history; what is refused or awaited has none
abbrev pub entry_of : List EntryValue → Event → Answer → List EntryValue
entry_of h (Open n u) (Opened (Ok c)) = opens c n u ∷ []
entry_of h (Call c op) (Called (Ok (Answered reply))) = calls (record { client = c; number = calls_made c h; op = op; reply = reply }) ∷ []
entry_of h (Fsync c) (Called (Ok (Answered reply))) = calls (record { client = c; number = calls_made c h; op = FsyncCall; reply = reply }) ∷ []
entry_of h (Crash c) (Crashed (Ok _)) = crashes c ∷ []
entry_of h (Fail n) (Failed (Ok losses)) = fails n (map (λ pair. record { client = pair.0; first = pair.1 }) losses.items) ∷ []
entry_of h (Join n) (Joined (Ok _)) = returns n ∷ []
entry_of h e a = []

-- the history with these of all events, one after another
abbrev pub history_after : List EntryValue → List Event → List Answer → List EntryValue
history_after h [] answers = h
history_after h (e ∷ es) [] = h
history_after h (e ∷ es) (a ∷ answers) = history_after (h ++ entry_of h e a) es answers
