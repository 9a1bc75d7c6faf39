-- What clients do: each outcome with its answer, and what stands after it.
-- Assise (OSDI 2020), section 3 (CC-NVM: update logs, fsync, leases, process crash).
use Rattle.std.specs.Prelude.{◌≡◌, ℕ, suc, ◌<◌, true, ◌==◌, if◌then◌else◌, List, [], ◌∷◌, length, Some, None}
use Rattle.assise_names.specs.declared.call.Op.{Op}
use Rattle.assise_names.specs.declared.call.Op.TheVariants.{Fsync}
use Rattle.assise_names.specs.declared.durability.Durability.{Durability}
use Rattle.assise_names.specs.declared.mode.Mode.{Mode}
use Rattle.assise_names.specs.declared.mode.Mode.TheVariants.{Read, Write}
use Rattle.assise_names.specs.declared.refusal.Refusal.{Refusal}
use Rattle.assise_names.specs.declared.refusal.Refusal.TheVariants.{OutOfMemory, InodesSpent, LogFull}
use Rattle.assise_names.specs.declared.reply.Reply.{Reply}
use Rattle.assise_history.specs.Entries.{opens, crashes}
use Rattle.assise_record.specs.Records.{has_some}
use Rattle.assise_inode_table.specs.Effects.{touched, contains}
use Rattle.assise_inode_table.specs.Interaction.{Step}
use Rattle.assise_inode_table.specs.Numbers.{inode_number}
use Rattle.assise_inode_table.specs.Traces.{NumberedCall}
use Rattle.assise_inode_plan.specs.Leased.{LeaseView as Leased, first_missing, wants}
use Rattle.assise_lease_table.specs.Leases.{serves}
use Rattle.assise_model_world.specs.ClientSteps.{RaisesGoals}
use Rattle.assise_model_world.specs.World.{World, end_of_log, received_by_all, step_at_home, call_makes_inode}
use Rattle.assise_model_leases.specs.Handing.{OpensAt, CallsUnder, Grants, Asks, CrashesWith}
use Rattle.assise_model_leases.specs.Leases.{Leases, client_lease}
use Rattle.assise_model_members.specs.Returns.{OtherAreasStay}
use Rattle.assise_model_events.specs.Events.{Answer, refused, opened, replied, not_yet, crashed, call_entry}
use Rattle.assise_model_events.specs.Faults.{client_fault, call_fault, open_fault}
use Rattle.assise_model_events.specs.Machine.{Machine, Adds}

-- members stay, and so do the areas of nodes that aren't full
pub record KeepsMembers (m m' : Machine) : Type 0 where
  pub members : m'.members ≡ m.members
  pub others : OtherAreasStay m.world m'.world

-- ---- a client is opened

-- the next client is opened on full node n
pub record IsOpened (m : Machine) (n : ℕ) (u : Durability) (m' : Machine) : Type 0 where
  pub opening : OpensAt m.world m.leases n m'.world m'.leases
  pub adds : Adds m (opens (suc m.world.clients) n u ∷ []) m'
  pub keeps : KeepsMembers m m'

pub data Opening (m : Machine) (n : ℕ) (u : Durability) (a : Answer) (m' : Machine) : Type 0 where
  is_opened : open_fault m n ≡ None → a ≡ opened (suc m.world.clients) → IsOpened m n u m' → Opening m n u a m'
  is_refused : (r : Refusal) → open_fault m n ≡ Some r → a ≡ refused r → m' ≡ m → Opening m n u a m'
  lacks_memory : open_fault m n ≡ None → a ≡ refused OutOfMemory → m' ≡ m → Opening m n u a m'

-- ---- leases that a call takes

-- the call with its number, and with the number of the inode that it makes if it makes one
abbrev pub call_of_client : World → ℕ → Op → Reply → NumberedCall
call_of_client w c op reply = record { client = c; number = w.next c; op = op; reply = reply; fresh = inode_number c (w.made c) }

-- what the client's leases serve for
abbrev pub served_by : Leases → ℕ → Leased
served_by l c i mode = serves (client_lease l c i) mode

-- of what a step visits, for reading, and then of what it changes, for writing, this is the first that the client's leases don't
-- serve
abbrev pub IsFirstMissing : Leases → ℕ → Step → ℕ → Mode → Type 0
IsFirstMissing l c s i mode = first_missing (served_by l c) (wants s) ≡ Some (i, mode)

-- it is the first that the call lacks
abbrev pub IsMissing : World → Leases → NumberedCall → ℕ → Mode → Type 0
IsMissing w l x i mode = IsFirstMissing l x.client (step_at_home w x) i mode

-- all leases serve that the call needs
pub record HasServingLeases (w : World) (l : Leases) (x : NumberedCall) : Type 0 where
  pub visited : (i : ℕ) → contains (step_at_home w x).visits i ≡ true → serves (client_lease l x.client i) Read ≡ true
  pub changed : (i : ℕ) → contains (touched (step_at_home w x).effects) i ≡ true → serves (client_lease l x.client i) Write ≡ true

-- a lease that was granted, with the state after it
pub record Granted : Type 0 where
  pub inode : ℕ
  pub mode : Mode
  pub world : World
  pub leases : Leases

-- the call's client gets these leases, one after another: each is missing, and nobody stands against it
abbrev pub Gets : NumberedCall → World → Leases → List Granted → Type 0
Gets x w l [] = Unit {0}
Gets x w l (g ∷ gs) = IsMissing w l x g.inode g.mode × Grants w l x.client g.inode g.mode g.world g.leases × OtherAreasStay w g.world × Gets x g.world g.leases gs

abbrev pub last_world : World → List Granted → World
last_world w [] = w
last_world w (g ∷ gs) = last_world g.world gs

abbrev pub last_leases : Leases → List Granted → Leases
last_leases l [] = l
last_leases l (g ∷ gs) = last_leases g.leases gs

-- the call is made by a client that may, once it got these leases
pub record IsTried (m : Machine) (x : NumberedCall) (granted : List Granted) : Type 0 where
  pub fine : call_fault m x.client x.op ≡ None
  pub next : x.number ≡ m.world.next x.client
  pub fresh : x.fresh ≡ inode_number x.client (m.world.made x.client)
  pub gets : Gets x m.world m.leases granted

-- nothing but these leases changed
pub record KeepsGranted (m : Machine) (granted : List Granted) (m' : Machine) : Type 0 where
  pub world : m'.world ≡ last_world m.world granted
  pub leases : m'.leases ≡ last_leases m.leases granted
  pub members : m'.members ≡ m.members
  pub adds : Adds m [] m'

-- ---- a call

-- the call is answered: all leases that it needs serve, and its record has room in the client's log
pub record IsAnswered (m : Machine) (x : NumberedCall) (granted : List Granted) (m' : Machine) : Type 0 where
  pub tried : IsTried m x granted
  pub call : CallsUnder (last_world m.world granted) (last_leases m.leases granted) x m'.world
  pub room : has_some (step_at_home (last_world m.world granted) x).effects ≡ true → length (m.world.records x.client) < m.limit
  pub leases : m'.leases ≡ last_leases m.leases granted
  pub adds : Adds m (call_entry m.history x.client x.op x.reply) m'
  pub keeps : KeepsMembers m m'

-- a lease that the call needs isn't had yet: those who stand against it are asked for it
pub record IsAwaited (m : Machine) (x : NumberedCall) (granted : List Granted) (m' : Machine) : Type 0 where
  pub tried : IsTried m x granted
  pub inode : ℕ
  pub mode : Mode
  pub missing : IsMissing (last_world m.world granted) (last_leases m.leases granted) x inode mode
  pub asks : Asks (last_world m.world granted) (last_leases m.leases granted) x.client inode mode m'.world m'.leases
  pub adds : Adds m [] m'
  pub keeps : KeepsMembers m m'

-- the call would make an inode, and its client has made as many as it may
pub record IsSpent (m : Machine) (x : NumberedCall) (granted : List Granted) : Type 0 where
  pub tried : IsTried m x granted
  pub served : HasServingLeases (last_world m.world granted) (last_leases m.leases granted) x
  pub makes : call_makes_inode (last_world m.world granted) x ≡ true
  pub made : m.world.made x.client ≡ 1048576

-- the call needs a record, and its client's log is at its limit
pub record IsFull (m : Machine) (x : NumberedCall) (granted : List Granted) : Type 0 where
  pub tried : IsTried m x granted
  pub served : HasServingLeases (last_world m.world granted) (last_leases m.leases granted) x
  pub makes : call_makes_inode (last_world m.world granted) x ≡ true → m.world.made x.client < 1048576
  pub effects : has_some (step_at_home (last_world m.world granted) x).effects ≡ true
  pub at_limit : length (m.world.records x.client) ≡ m.limit

pub data Calling (m : Machine) (c : ℕ) (op : Op) (a : Answer) (m' : Machine) : Type 0 where
  is_answered : (reply : Reply) (granted : List Granted) → a ≡ replied reply → IsAnswered m (call_of_client m.world c op reply) granted m' → Calling m c op a m'
  is_awaited : (reply : Reply) (granted : List Granted) → a ≡ not_yet → IsAwaited m (call_of_client m.world c op reply) granted m' → Calling m c op a m'
  is_spent : (reply : Reply) (granted : List Granted) → a ≡ refused InodesSpent → IsSpent m (call_of_client m.world c op reply) granted →
      KeepsGranted m granted m' → Calling m c op a m'
  is_full : (reply : Reply) (granted : List Granted) → a ≡ refused LogFull → IsFull m (call_of_client m.world c op reply) granted →
      KeepsGranted m granted m' → Calling m c op a m'
  lacks_memory : (reply : Reply) (granted : List Granted) → a ≡ refused OutOfMemory → IsTried m (call_of_client m.world c op reply) granted →
      KeepsGranted m granted m' → Calling m c op a m'
  is_refused : (r : Refusal) → call_fault m c op ≡ Some r → a ≡ refused r → m' ≡ m → Calling m c op a m'

-- ---- a sync

-- all of the client's log is to be replicated
abbrev pub goal_of_sync : World → ℕ → ℕ → ℕ
goal_of_sync w c d = if d == c then end_of_log w c else 0

-- a sync is answered once all full nodes have all of the client's records
pub record AnswersSync (m : Machine) (x : NumberedCall) (m' : Machine) : Type 0 where
  pub replicated : received_by_all m.world x.client ≡ end_of_log m.world x.client
  pub between : World
  pub raises : RaisesGoals m.world (goal_of_sync m.world x.client) between
  pub others : OtherAreasStay m.world between
  pub call : CallsUnder between m.leases x m'.world
  pub leases : m'.leases ≡ m.leases
  pub adds : Adds m (call_entry m.history x.client x.op x.reply) m'
  pub keeps : KeepsMembers m m'

-- until then it is awaited
pub record IsReplicating (m : Machine) (c : ℕ) (m' : Machine) : Type 0 where
  pub lacking : received_by_all m.world c < end_of_log m.world c
  pub raises : RaisesGoals m.world (goal_of_sync m.world c) m'.world
  pub leases : m'.leases ≡ m.leases
  pub adds : Adds m [] m'
  pub keeps : KeepsMembers m m'

pub data Syncing (m : Machine) (c : ℕ) (op : Op) (a : Answer) (m' : Machine) : Type 0 where
  is_synced : (reply : Reply) → client_fault m c ≡ None → a ≡ replied reply → AnswersSync m (call_of_client m.world c op reply) m' → Syncing m c op a m'
  is_replicating : client_fault m c ≡ None → a ≡ not_yet → IsReplicating m c m' → Syncing m c op a m'
  lacks_memory : client_fault m c ≡ None → received_by_all m.world c ≡ end_of_log m.world c → a ≡ refused OutOfMemory → m' ≡ m → Syncing m c op a m'
  is_refused : (r : Refusal) → client_fault m c ≡ Some r → a ≡ refused r → m' ≡ m → Syncing m c op a m'

-- ---- an optimistic client's fsync

-- it is answered at once, and changes the history alone
pub record IsNoted (m : Machine) (x : NumberedCall) (m' : Machine) : Type 0 where
  pub call : CallsUnder m.world m.leases x m'.world
  pub leases : m'.leases ≡ m.leases
  pub adds : Adds m (call_entry m.history x.client x.op x.reply) m'
  pub keeps : KeepsMembers m m'

pub data Noting (m : Machine) (c : ℕ) (a : Answer) (m' : Machine) : Type 0 where
  is_noted : (reply : Reply) → client_fault m c ≡ None → a ≡ replied reply → IsNoted m (call_of_client m.world c Fsync reply) m' → Noting m c a m'
  lacks_memory : client_fault m c ≡ None → a ≡ refused OutOfMemory → m' ≡ m → Noting m c a m'
  is_refused : (r : Refusal) → client_fault m c ≡ Some r → a ≡ refused r → m' ≡ m → Noting m c a m'

-- ---- a crash

pub record IsCrashed (m : Machine) (c : ℕ) (m' : Machine) : Type 0 where
  pub crash : CrashesWith m.world m.leases c m'.world m'.leases
  pub adds : Adds m (crashes c ∷ []) m'
  pub keeps : KeepsMembers m m'

pub data Crashing (m : Machine) (c : ℕ) (a : Answer) (m' : Machine) : Type 0 where
  is_crashed : client_fault m c ≡ None → a ≡ crashed → IsCrashed m c m' → Crashing m c a m'
  lacks_memory : client_fault m c ≡ None → a ≡ refused OutOfMemory → m' ≡ m → Crashing m c a m'
  is_refused : (r : Refusal) → client_fault m c ≡ Some r → a ≡ refused r → m' ≡ m → Crashing m c a m'
