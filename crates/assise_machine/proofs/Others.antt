-- What happens at one node leaves what other full nodes have.
use Rattle.assise_machine.proofs.Common.{◌≡◌, ◌≢◌, ℕ, zero, suc, ◌-◌, drop, List, [], ◌∷◌, refl, ap, sym, subst, ◌∙◌, arith, drop-drop, Op, Fsync, Dsync}
use Rattle.assise_machine.proofs.Common.{Durability, Reply, durability_of, LogFrame, NumberedCall, Membership, Digests, Drops, World, Full, undigested_records}
use Rattle.assise_machine.proofs.Common.{digested_by_all, digested_by_all-below, Calling, Crashing, Gets, Granted, IsTried, KeepsGranted, Noting, Opening}
use Rattle.assise_machine.proofs.Common.{Syncing, call_of_client, last_world, Coalescing, Answer, Dsyncing, Fsyncing, Trying, Machine, Joining, Raising}
use Rattle.assise_machine.proofs.Common.{Refilling, Returning, Delivering, Digesting, DigestsTo, Gone, LetsGo, Releasing, Sending, SettingHot, world_after}
use Rattle.assise_machine.proofs.Common.{full_after}
use Rattle.assise_names.specs.declared.durability.Durability.TheVariants.{Pessimistic, Optimistic}
use Rattle.assise_model_world.specs.ClientSteps.{MakesCall}
use Rattle.assise_model_world.specs.Staying.{SameLogs, SameClients, SameNode, SameNodes}
use Rattle.assise_model_leases.specs.Leases.{Leases}
use Rattle.assise_model_events.specs.ClientEvents as client
use Rattle.assise_model_events.specs.Dsyncs as dsync
use Rattle.assise_model_events.specs.NodeEvents as node

-- ---- what one node has

-- the node's area stays, and what it has of each client and has not digested
pub record Leaves (w w' : World) (j : ℕ) : Type 0 where
  pub area : (i : ℕ) → w'.area j i ≡ w.area j i
  pub ahead : (c : ℕ) → undigested_records w' j c ≡ undigested_records w j c

ahead_as : (w w' : World) (j c : ℕ) → w'.digested j c ≡ w.digested j c → w'.first c ≡ w.first c → w'.log j c ≡ w.log j c → undigested_records w' j c
    ≡ undigested_records w j c
unfolding undigested_records
ahead_as w w' j c digested first log = λ i. drop (digested i - first i) (log i)

pub leaves_node : (w w' : World) (j : ℕ) → SameLogs w w' → SameNode w w' j → Leaves w w' j
leaves_node w w' j logs node = grind (arith, ahead_as)

pub leaves_nodes : (w w' : World) (j : ℕ) → SameLogs w w' → SameNodes w w' → Full w j → Leaves w w' j
leaves_nodes w w' j logs nodes there = leaves_node w w' j logs (nodes.same j there)

pub leaves_all : (m m' : Machine) (j : ℕ) → m' ≡ m → Leaves m.world m'.world j
leaves_all m m' j same = record { area = λ i. ap (λ x. x.world.area j i) same; ahead = λ c. ap (λ x. undigested_records x.world j c) same }

-- ---- what leaves all full nodes as they are

pub opening_leaves : (m m' : Machine) (n : ℕ) (u : Durability) (a : Answer) → Opening m n u a m' → (j : ℕ) → Full m.world j → Leaves m.world m'.world j
opening_leaves m m' n u a s j there = grind (arith, leaves_nodes, leaves_all)

pub sending_leaves : (m m' : Machine) (n : ℕ) (a : Answer) → Sending m n a m' → (j : ℕ) → Leaves m.world m'.world j
sending_leaves m m' n a s j = grind (arith, leaves_all)

pub setting_leaves : (m m' : Machine) (n capacity : ℕ) (a : Answer) → SettingHot m n capacity a m' → (j : ℕ) → Leaves m.world m'.world j
setting_leaves m m' n capacity a s j = grind (arith, leaves_all)

pub raising_leaves : (m m' : Machine) (n : ℕ) (a : Answer) → Raising m n a m' → (j : ℕ) → Leaves m.world m'.world j
raising_leaves m m' n a s j = grind (arith, leaves_all)

pub crashing_leaves : (m m' : Machine) (c : ℕ) (a : Answer) → Crashing m c a m' → (j : ℕ) → Full m.world j → Leaves m.world m'.world j
crashing_leaves m m' c a s j there = grind (arith, leaves_nodes, leaves_all)

pub returning_leaves : (m m' : Machine) (n : ℕ) (a : Answer) → Returning m n a m' → (j : ℕ) → Full m.world j → Leaves m.world m'.world j
returning_leaves m m' n a s j there = grind (arith, leaves_nodes, leaves_all)

pub refilling_leaves : (m m' : Machine) (n : ℕ) (a : Answer) → Refilling m n a m' → (j : ℕ) → Full m.world j → Leaves m.world m'.world j
refilling_leaves m m' n a s j there = grind (arith, leaves_nodes, leaves_all)

pub joining_leaves : (m m' : Machine) (n : ℕ) (a : Answer) → Joining m n a m' → (j : ℕ) → Full m.world j → Leaves m.world m'.world j
joining_leaves m m' n a s j there = grind (arith, leaves_node, leaves_all)

-- ---- leases come and go

-- logs, clients and what nodes have stay
pub record Rested (w w' : World) : Type 0 where
  pub logs : SameLogs w w'
  pub clients : SameClients w w'
  pub nodes : SameNodes w w'

all_rest : (w : World) → Rested w w
all_rest w = assumption

rested_after : (w v u : World) → Rested w v → Rested v u → Rested w u
rested_after w v u a b = grind arith

gets_rested : (x : NumberedCall) (w : World) (l : Leases) (gs : List Granted) → Gets x w l gs → Rested w (last_world w gs)
gets_rested x w l [] e = all_rest w
gets_rested x w l (g ∷ gs) (missing, grants, others, rest) = grind (arith, gets_rested x g.world g.leases gs rest)

goes_rested : (w : World) (l : Leases) (gs : List Gone) → LetsGo w l gs → Rested w (world_after w gs)
goes_rested w l [] e = all_rest w
goes_rested w l (g ∷ gs) (releases, others, rest) = grind (arith, goes_rested g.world g.leases gs rest)

pub rested_leaves : (w w' : World) (j : ℕ) → Rested w w' → Full w j → Leaves w w' j
rested_leaves w w' j e there = leaves_nodes w w' j e.logs e.nodes there

pub releasing_leaves : (m m' : Machine) (a : Answer) → Releasing m a m' → (j : ℕ) → Full m.world j → Leaves m.world m'.world j
releasing_leaves m m' a (node.is_released gone freed is e) j there = grind (arith, rested_leaves, goes_rested)

-- ---- a call

-- all areas stay, and what other nodes than the client's home have of it
pub record LeavesElse (w w' : World) (c j : ℕ) : Type 0 where
  pub area : (i : ℕ) → w'.area j i ≡ w.area j i
  pub ahead : j ≢ w.home c → (d : ℕ) → undigested_records w' j d ≡ undigested_records w j d

leaves_else : (w w' : World) (c j : ℕ) → Leaves w w' j → LeavesElse w w' c j
leaves_else w w' c j e = record { area = e.area; ahead = λ other. e.ahead }

pub made_leaves : (w u w' : World) (x : NumberedCall) (j : ℕ) → Rested w u → MakesCall u x w' → Full w j → LeavesElse w w' x.client j
made_leaves w u w' x j rested e there = search (ahead_as, arith) parts 3

pub granted_leaves : (m m' : Machine) (c : ℕ) (op : Op) (reply : Reply) (granted : List Granted) →
    IsTried m (call_of_client m.world c op reply) granted → KeepsGranted m granted m' → (j : ℕ) → Full m.world j → LeavesElse m.world m'.world c j
granted_leaves m m' c op reply granted tried keeps j there = grind (arith, leaves_else, rested_leaves, gets_rested)

pub calling_leaves : (m m' : Machine) (c : ℕ) (op : Op) (a : Answer) → Calling m c op a m' → (j : ℕ) → Full m.world j → LeavesElse m.world m'.world c j
calling_leaves m m' c op a (client.is_answered reply granted is e) j there =
    let x = call_of_client m.world c op reply in
    made_leaves m.world (last_world m.world granted) m'.world x j (gets_rested x m.world m.leases granted e.tried.gets) e.call.call there
calling_leaves m m' c op a (client.is_awaited reply granted is e) j there = grind (arith, leaves_else, rested_leaves, gets_rested)
calling_leaves m m' c op a (client.is_spent reply granted is e keeps) j there = granted_leaves m m' c op reply granted e.tried keeps j there
calling_leaves m m' c op a (client.is_full reply granted is e keeps) j there = granted_leaves m m' c op reply granted e.tried keeps j there
calling_leaves m m' c op a (client.lacks_memory reply granted is e keeps) j there = granted_leaves m m' c op reply granted e keeps j there
calling_leaves m m' c op a (client.is_refused r fault is same) j there = leaves_else m.world m'.world c j (leaves_all m m' j same)

syncing_leaves : (m m' : Machine) (c : ℕ) (op : Op) (a : Answer) → Syncing m c op a m' → (j : ℕ) → Full m.world j → LeavesElse m.world m'.world c j
syncing_leaves m m' c op a (client.is_synced reply fine is e) j there =
    made_leaves m.world e.between m'.world (call_of_client m.world c op reply) j
    (record { logs = e.raises.logs; clients = e.raises.clients; nodes = e.raises.nodes }) e.call.call there
syncing_leaves m m' c op a (client.is_replicating fine is e) j there = grind (arith, leaves_else, leaves_nodes)
syncing_leaves m m' c op a (client.lacks_memory fine all is same) j there = leaves_else m.world m'.world c j (leaves_all m m' j same)
syncing_leaves m m' c op a (client.is_refused r fault is same) j there = leaves_else m.world m'.world c j (leaves_all m m' j same)

noting_leaves : (m m' : Machine) (c : ℕ) (a : Answer) → Noting m c a m' → (j : ℕ) → Full m.world j → LeavesElse m.world m'.world c j
noting_leaves m m' c a (client.is_noted reply fine is e) j there =
    made_leaves m.world m.world m'.world (call_of_client m.world c Fsync reply) j (all_rest m.world) e.call.call there
noting_leaves m m' c a (client.lacks_memory fine is same) j there = leaves_else m.world m'.world c j (leaves_all m m' j same)
noting_leaves m m' c a (client.is_refused r fault is same) j there = leaves_else m.world m'.world c j (leaves_all m m' j same)

pub fsyncing_leaves : (m m' : Machine) (u : Durability) (c : ℕ) (a : Answer) → Fsyncing u m c a m' → (j : ℕ) → Full m.world j → LeavesElse m.world m'.world c j
fsyncing_leaves m m' Pessimistic c a s j there = syncing_leaves m m' c Fsync a s j there
fsyncing_leaves m m' Optimistic c a s j there = noting_leaves m m' c a s j there

coalescing_leaves : (m m' : Machine) (c : ℕ) (a : Answer) → Coalescing m c a m' → (j : ℕ) → Full m.world j → LeavesElse m.world m'.world c j
coalescing_leaves m m' c a (dsync.is_synced reply fine is e) j there = syncing_leaves m m' c Dsync a (client.is_synced reply fine is e) j there
coalescing_leaves m m' c a (dsync.is_coalesced fine is e) j there = grind (arith, ahead_as)
coalescing_leaves m m' c a (dsync.lacks_memory fine is same) j there = leaves_else m.world m'.world c j (leaves_all m m' j same)
coalescing_leaves m m' c a (dsync.is_refused r fault is same) j there = leaves_else m.world m'.world c j (leaves_all m m' j same)

pub dsyncing_leaves : (m m' : Machine) (u : Durability) (c : ℕ) (a : Answer) → Dsyncing u m c a m' → (j : ℕ) → Full m.world j → LeavesElse m.world m'.world c j
dsyncing_leaves m m' Pessimistic c a s j there = syncing_leaves m m' c Dsync a s j there
dsyncing_leaves m m' Optimistic c a s j there = coalescing_leaves m m' c a s j there

pub trying_leaves : (m m' : Machine) (c : ℕ) (op : Op) (a : Answer) → Trying m c op a m' → (j : ℕ) → Full m.world j → LeavesElse m.world m'.world c j
trying_leaves m m' c Fsync a s j there = fsyncing_leaves m m' (durability_of c m.history) c a s j there
trying_leaves m m' c Dsync a s j there = dsyncing_leaves m m' (durability_of c m.history) c a s j there
trying_leaves m m' c op a s j there = calling_leaves m m' c op a s j there

-- ---- a frame comes in

-- all areas stay, and what other nodes than this have
pub record LeavesBeside (w w' : World) (n j : ℕ) : Type 0 where
  pub area : (i : ℕ) → w'.area j i ≡ w.area j i
  pub ahead : j ≢ n → (c : ℕ) → undigested_records w' j c ≡ undigested_records w j c

leaves_beside : (w w' : World) (n j : ℕ) → Leaves w w' j → LeavesBeside w w' n j
leaves_beside w w' n j e = record { area = e.area; ahead = λ other. e.ahead }

pub delivering_leaves : (m m' : Machine) (f : LogFrame) (n : ℕ) (a : Answer) → Delivering m f n a m' → (j : ℕ) → Full m.world j →
    LeavesBeside m.world m'.world n j
delivering_leaves m m' f n a s j there = grind (arith, ahead_as, leaves_beside, leaves_all)

-- ---- a digest

part_ahead : (w w' : World) (n c k j d : ℕ) → Digests w n c k w' → Full w j → j ≢ n → undigested_records w' j d ≡ undigested_records w j d
part_ahead w w' n c k j d e there other = ahead_as w w' j d (e.digested_else j d there (λ here of_client. other here)) (e.logs.first d) (e.log j d there)

parts_full : (n count : ℕ) (w₀ w : World) (o : Membership) (c : ℕ) (u : World) (p : Membership) → DigestsTo n count w₀ w o c u p → u.full ≡ w.full
parts_full n count w₀ w o zero u p (same, stay) = ap (λ x. x.full) same
parts_full n count w₀ w o (suc c) u p (v, (q, (before, step))) = step.digests.digests.full ∙ parts_full n count w₀ w o c v q before

parts_leave : (n count : ℕ) (w₀ w : World) (o : Membership) (c : ℕ) (u : World) (p : Membership) → DigestsTo n count w₀ w o c u p →
    (j : ℕ) → Full w j → j ≢ n → Leaves w u j
parts_leave n count w₀ w o zero u p (same, stay) j there other = subst (λ x. Leaves w x j) (sym same) (record { area = λ i. refl; ahead = λ c. refl })
parts_leave n count w₀ w o (suc c) u p (v, (q, (before, step))) j there other = grind
    (arith, parts_leave n count w₀ w o c v q before j there other, parts_full, part_ahead)

-- what all have digested goes from the front
pub dropped_ahead : (w w' : World) (j c : ℕ) → Drops w (digested_by_all w) w' → Full w j → undigested_records w' j c ≡ undigested_records w j c
unfolding undigested_records
dropped_ahead w w' j c e there = grind (arith, digested_by_all-below, drop-drop)

pub digesting_leaves : (m m' : Machine) (n : ℕ) (a : Answer) → Digesting m n a m' → (j : ℕ) → Full m.world j → j ≢ n → Leaves m.world m'.world j
digesting_leaves m m' n a (node.is_digested k fine is e) j there other = grind (
  arith,
  full_after m.world e.between j (parts_full n k m.world m.world m.members m.world.clients e.between m'.members e.digests) there,
  parts_leave n k m.world m.world m.members m.world.clients e.between m'.members e.digests j there other,
  dropped_ahead,
)
digesting_leaves m m' n a (node.lacks_memory fine some is same) j there other = leaves_all m m' j same
digesting_leaves m m' n a (node.is_refused r fault is same) j there other = leaves_all m m' j same
