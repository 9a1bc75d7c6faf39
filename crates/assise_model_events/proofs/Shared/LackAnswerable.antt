-- What a call lacks can be answered.
use Rattle.assise_model_events.proofs.Common.{◌≡◌, ℕ, ◌<◌, true, List, [], length, None, refl, sym, append-nil, Op, Reply, InodesSpent, LogFull, OutOfMemory}
use Rattle.assise_model_events.proofs.Common.{has_some, call_makes_inode, step_at_home, Calling, is_spent, is_full, lacks_memory, Granted, HasServingLeases}
use Rattle.assise_model_events.proofs.Common.{KeepsGranted, call_of_client, last_leases, last_world, refused, call_fault, Machine}
use Rattle.assise_model_events.proofs.Shared.Answerable.{is_tried}

-- the machine once the call's client got these leases
abbrev pub with_granted : Machine → List Granted → Machine
with_granted m gs = record m { world = last_world m.world gs; leases = last_leases m.leases gs }

pub keeps_them : (m : Machine) (gs : List Granted) → KeepsGranted m gs (with_granted m gs)
keeps_them m gs = record { world = refl; leases = refl; members = refl; adds = record { history = sym (append-nil m.history); limit = refl; hot = refl } }

pub spent_can : (m : Machine) (c : ℕ) (op : Op) (reply : Reply) → call_fault m c op ≡ None →
    HasServingLeases m.world m.leases (call_of_client m.world c op reply) →
    call_makes_inode m.world (call_of_client m.world c op reply) ≡ true → m.world.made c ≡ 1048576 → Calling m c op (refused InodesSpent) m
spent_can m c op reply fine served makes made =
    is_spent reply [] refl (record { tried = is_tried m c op reply fine; served = served; makes = makes; made = made }) (keeps_them m [])

pub full_can : (m : Machine) (c : ℕ) (op : Op) (reply : Reply) → call_fault m c op ≡ None →
    HasServingLeases m.world m.leases (call_of_client m.world c op reply) →
    (call_makes_inode m.world (call_of_client m.world c op reply) ≡ true → m.world.made c < 1048576) →
    has_some (step_at_home m.world (call_of_client m.world c op reply)).effects ≡ true → length (m.world.records c) ≡ m.limit →
    Calling m c op (refused LogFull) m
full_can m c op reply fine served makes some at_limit =
    is_full reply [] refl (record { tried = is_tried m c op reply fine; served = served; makes = makes; effects = some; at_limit = at_limit }) (keeps_them m [])

pub memory_can : (m : Machine) (c : ℕ) (op : Op) (reply : Reply) → call_fault m c op ≡ None → Calling m c op (refused OutOfMemory) m
memory_can m c op reply fine = lacks_memory reply [] refl (is_tried m c op reply fine) (keeps_them m [])
