-- What nodes do: each outcome with its answer, and what stands after it.
-- Assise (OSDI 2020), section 3 (CC-NVM: replication, digests, leases); Strata (SOSP 2017), section 3; van Renesse and Schneider,
-- chain replication (OSDI 2004), section 2.
use Rattle.std.specs.Prelude.{◌≡◌, ℕ, zero, suc, ◌+◌, ◌-◌, ◌<◌, ◌≤◌, min, nat_le, Bool, true, ◌&&◌, List, [], ◌∷◌, ◌++◌, length, Option, Some, None}
use Rattle.std.specs.Ordering.{nat_cmp}
use Rattle.std.specs.FinSet as set
use Rattle.assise_names.specs.declared.refusal.Refusal.{Refusal}
use Rattle.assise_names.specs.declared.refusal.Refusal.TheVariants.{OutOfMemory, StaleMessage}
use Rattle.assise_chain.specs.Chains.{chain, behind}
use Rattle.assise_chain.specs.Messages.{message_of}
use Rattle.assise_lease_table.specs.Leases.{lease_of}
use Rattle.assise_lease_tree.specs.Levels.{is_revoked}
use Rattle.assise_lease_tree.specs.TwoLevels.{IsIdle}
use Rattle.assise_private_log.specs.NumberedLog.{NumberedLog}
use Rattle.assise_record.specs.LogFrame.{LogFrame}
use Rattle.assise_record.specs.LogRecord.{LogRecord}
use Rattle.assise_manager.specs.Membership.{Membership}
use Rattle.assise_manager.specs.NodeLevels.{level_of, sends_marks}
use Rattle.assise_manager.specs.Standings.{full_nodes}
use Rattle.assise_model_world.specs.NodeSteps.{Delivers, Drops}
use Rattle.assise_model_world.specs.World.{World, Full, digested_by_all, received_by_all}
use Rattle.assise_model_leases.specs.Handing.{ReleasesReady, FreesNode}
use Rattle.assise_model_leases.specs.Leases.{Leases, client_lease}
use Rattle.assise_model_members.specs.Returns.{OtherAreasStay, DigestsNoted}
use Rattle.assise_model_history.specs.State.{IsNode}
use Rattle.assise_model_events.specs.ClientEvents.{KeepsMembers}
use Rattle.assise_model_events.specs.Events.{Answer, refused, sent, received, digested, released, hot_set}
use Rattle.assise_model_events.specs.Faults.{node_fault, delivery_fault, place_after, IsTimelyDelivery}
use Rattle.assise_model_events.specs.Machine.{Machine, Adds, state_of, with_hot}

-- ---- frames go out

-- the node behind node n in the chain that begins at the client's home
abbrev pub next_node : Machine → ℕ → ℕ → Option ℕ
next_node m n c = behind n (chain (full_nodes m.members.nodes) (m.world.home c))

-- of each of these records, from a place of a log on, whether it begins a group, where these are the borders of groups
abbrev pub border_marks : (ℕ → Bool) → ℕ → List LogRecord → List Bool
border_marks border k [] = []
border_marks border k (r ∷ rs) = border k ∷ border_marks border (suc k) rs

-- node n's log of the client
abbrev pub node_log : Machine → ℕ → ℕ → NumberedLog
node_log m n c = record {
  first = m.world.first c;
  limit = m.limit;
  records = m.world.log n c;
  begins = border_marks (m.world.border c) (m.world.first c) (m.world.log n c);
}

abbrev pub for_node : ℕ → Option LogFrame → List (LogFrame × ℕ)
for_node k None = []
for_node k (Some f) = (f, k) ∷ []

-- what node k lacks of the client's records that node n has, up to the client's goal, in the version that node n sends
abbrev pub frame_for : Machine → ℕ → ℕ → Option ℕ → List (LogFrame × ℕ)
frame_for m n c None = []
frame_for m n c (Some k) =
    for_node k (message_of (node_log m n c) (sends_marks (level_of m.members.levels n)) m.members.epoch c (m.world.received k c) (min (m.world.goal c) (m.world.received n c)))

-- of clients 1 to this
abbrev pub frames_to : Machine → ℕ → ℕ → List (LogFrame × ℕ)
frames_to m n zero = []
frames_to m n (suc c) = frames_to m n c ++ frame_for m n (suc c) (next_node m n (suc c))

pub data Sending (m : Machine) (n : ℕ) (a : Answer) (m' : Machine) : Type 0 where
  is_sent : node_fault m n ≡ None → a ≡ sent (frames_to m n m.world.clients) → m' ≡ m → Sending m n a m'
  lacks_memory : node_fault m n ≡ None → 0 < length (frames_to m n m.world.clients) → a ≡ refused OutOfMemory → m' ≡ m → Sending m n a m'
  is_refused : (r : Refusal) → node_fault m n ≡ Some r → a ≡ refused r → m' ≡ m → Sending m n a m'

-- ---- a frame comes in

pub record IsDelivered (m : Machine) (f : LogFrame) (n : ℕ) (m' : Machine) : Type 0 where
  pub timely : IsTimelyDelivery m f n
  pub delivers : Delivers m.world n f.client (place_after m f n) m'.world
  pub leases : m'.leases ≡ m.leases
  pub adds : Adds m [] m'
  pub keeps : KeepsMembers m m'

pub data Delivering (m : Machine) (f : LogFrame) (n : ℕ) (a : Answer) (m' : Machine) : Type 0 where
  is_delivered : delivery_fault m f n ≡ None → a ≡ received (place_after m f n) → IsDelivered m f n m' → Delivering m f n a m'
  is_stale : delivery_fault m f n ≡ None → (IsTimelyDelivery m f n → ⊥) → a ≡ refused StaleMessage → m' ≡ m → Delivering m f n a m'
  lacks_memory : delivery_fault m f n ≡ None → IsTimelyDelivery m f n → a ≡ refused OutOfMemory → m' ≡ m → Delivering m f n a m'
  is_refused : (r : Refusal) → delivery_fault m f n ≡ Some r → a ≡ refused r → m' ≡ m → Delivering m f n a m'

-- ---- a digest

-- how many of the client's records all full nodes have and node n has not digested, and those of clients 1 to m
abbrev pub undigested : World → ℕ → ℕ → ℕ
undigested w n c = received_by_all w c - w.digested n c

abbrev pub undigested_to : World → ℕ → ℕ → ℕ
undigested_to w n zero = 0
undigested_to w n (suc c) = undigested_to w n c + undigested w n (suc c)

-- the most records of one digest
abbrev pub most_digested : ℕ
most_digested = 64

-- the client's part of the next `count` records, of clients by ascending number
abbrev pub part_of : World → ℕ → ℕ → ℕ → ℕ
part_of w n count zero = 0
part_of w n count (suc c) = min (undigested w n (suc c)) (count - undigested_to w n c)

-- clients 1 to m's parts are digested one after another, and the manager notes the inodes
pub record DigestsNext (n count : ℕ) (c : ℕ) (w₀ w : World) (o : Membership) (w' : World) (o' : Membership) : Type 0 where
  pub inodes : set.FinSet nat_cmp
  pub digests : DigestsNoted w o n c (w.digested n c + part_of w₀ n count c) inodes w' o'

abbrev pub DigestsTo : (n count : ℕ) → World → World → Membership → ℕ → World → Membership → Type 0
DigestsTo n count w₀ w o zero w' o' = (w' ≡ w) × (o' ≡ o)
DigestsTo n count w₀ w o (suc c) w' o' =
    (v : World) × ((p : Membership) × (DigestsTo n count w₀ w o c v p × DigestsNext n count (suc c) w₀ v p w' o'))

-- `count` records are digested at node n, at most 64, and none only where there is none; then prefixes of logs go that all full nodes
-- have digested
pub record IsDigested (m : Machine) (n count : ℕ) (m' : Machine) : Type 0 where
  pub few : count ≤ min most_digested (undigested_to m.world n m.world.clients)
  pub some : 0 < undigested_to m.world n m.world.clients → 0 < count
  pub between : World
  pub digests : DigestsTo n count m.world m.world m.members m.world.clients between m'.members
  pub drops : Drops between (digested_by_all between) m'.world
  pub others : OtherAreasStay between m'.world
  pub leases : m'.leases ≡ m.leases
  pub adds : Adds m [] m'

pub data Digesting (m : Machine) (n : ℕ) (a : Answer) (m' : Machine) : Type 0 where
  is_digested : (count : ℕ) → node_fault m n ≡ None → a ≡ digested count → IsDigested m n count m' → Digesting m n a m'
  lacks_memory : node_fault m n ≡ None → 0 < undigested_to m.world n m.world.clients → a ≡ refused OutOfMemory → m' ≡ m → Digesting m n a m'
  is_refused : (r : Refusal) → node_fault m n ≡ Some r → a ≡ refused r → m' ≡ m → Digesting m n a m'

-- ---- leases go

-- the client's lease of the inode is revoked, and all full nodes have digested what lies before its cut
abbrev pub is_ready : World → Leases → ℕ → ℕ → Bool
is_ready w l c i = is_revoked (client_lease l c i) && nat_le (l.cut c i) (digested_by_all w c)

-- a client's lease of an inode that went, with the state after it
pub record Gone : Type 0 where
  pub client : ℕ
  pub inode : ℕ
  pub world : World
  pub leases : Leases

-- these leases go, one after another
abbrev pub LetsGo : World → Leases → List Gone → Type 0
LetsGo w l [] = Unit {0}
LetsGo w l (g ∷ gs) = ReleasesReady w l g.client g.inode g.world g.leases × OtherAreasStay w g.world × LetsGo g.world g.leases gs

abbrev pub world_after : World → List Gone → World
world_after w [] = w
world_after w (g ∷ gs) = world_after g.world gs

abbrev pub leases_after : Leases → List Gone → Leases
leases_after l [] = l
leases_after l (g ∷ gs) = leases_after g.leases gs

-- a node that gave up its leases, with the leases after it
pub record Freed : Type 0 where
  pub node : ℕ
  pub leases : Leases

abbrev pub Frees : World → Leases → List Freed → Type 0
Frees w l [] = Unit {0}
Frees w l (f ∷ fs) = FreesNode w l f.node f.leases × Frees w f.leases fs

abbrev pub leases_freed : Leases → List Freed → Leases
leases_freed l [] = l
leases_freed l (f ∷ fs) = leases_freed f.leases fs

-- no client's lease is ready any more, and no node that isn't full and whose clients hold nothing was left out
pub record IsReleased (m : Machine) (gone : List Gone) (freed : List Freed) (m' : Machine) : Type 0 where
  -- each that went was ready, by ReleasesReady, and none is left that was
  pub releases : LetsGo m.world m.leases gone
  pub none_left : (c i : ℕ) → is_ready m.world m.leases c i ≡ true → client_lease (leases_after m.leases gone) c i ≡ None
  pub frees : Frees m.world (leases_after m.leases gone) freed
  pub all_freed : (n : ℕ) → IsNode (state_of m) n → (Full m.world n → ⊥) → IsIdle (leases_after m.leases gone).levels n →
      (i : ℕ) → lease_of (m'.leases.levels.nodes i) n ≡ None
  pub world : m'.world ≡ world_after m.world gone
  pub leases : m'.leases ≡ leases_freed (leases_after m.leases gone) freed
  pub adds : Adds m [] m'
  pub members : m'.members ≡ m.members

-- it is never refused, and takes no memory
pub data Releasing (m : Machine) (a : Answer) (m' : Machine) : Type 0 where
  is_released : (gone : List Gone) (freed : List Freed) → a ≡ released (length gone) → IsReleased m gone freed m' → Releasing m a m'

-- ---- how many inodes may be hot

-- what is hot changes no answer: how many inodes may be is all that is observed of it
pub data SettingHot (m : Machine) (n capacity : ℕ) (a : Answer) (m' : Machine) : Type 0 where
  is_set : node_fault m n ≡ None → a ≡ hot_set → m' ≡ with_hot m n capacity → SettingHot m n capacity a m'
  lacks_memory : node_fault m n ≡ None → a ≡ refused OutOfMemory → m' ≡ m → SettingHot m n capacity a m'
  is_refused : (r : Refusal) → node_fault m n ≡ Some r → a ≡ refused r → m' ≡ m → SettingHot m n capacity a m'
