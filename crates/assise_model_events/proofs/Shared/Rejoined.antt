-- A node that lacks no inode gets its donor's logs, and is full again.
use Rattle.assise_model_events.proofs.Common.{◌≡◌, ℕ, zero, suc, ◌+◌, ◌-◌, ◌≤◌, Some, List, [], ◌∷◌, length, refl, ap, arith, length-append, slice_get}
use Rattle.assise_model_events.proofs.Common.{none-some, returns, Standing, standing_of, full, returning, Joins, AreDropped, World, Full, digested_by_all}
use Rattle.assise_model_events.proofs.Common.{least_of-below, least_of-above, least_of-end, end-same, logs_keep, comeback, IsNode, Answer, Leads, Machine}
use Rattle.assise_model_events.proofs.Common.{MachineInvariant, state_of, Joining}
use Rattle.assise_model_members.proofs.Shared.JoinKeeps.{rejoin_joins, rejoin_keeps}
use Rattle.assise_model_events.specs.MemberEvents.Joining.{is_joined, lacks_memory, is_refused}
use Rattle.assise_model_events.proofs.Shared.EventTraces.{leads_sound, leads_recorded, same_leads, same_holds}
use Rattle.assise_model_events.proofs.ReturnKeeps.{as_many}

-- ---- a node that stands somehow is one of the cluster

within : (nodes : List Standing) (i : ℕ) (s : Standing) → slice_get nodes i ≡ Some s → suc i ≤ length nodes
within [] i s at = absurd (none-some s at)
within (x ∷ xs) zero s at = omega arith
within (x ∷ xs) (suc i) s at = omega (arith, within xs i s at)

node_within : (nodes : List Standing) (n : ℕ) (s : Standing) → standing_of nodes n ≡ Some s → (1 ≤ n) × (n ≤ length nodes)
node_within nodes zero s at = absurd (none-some s at)
node_within nodes (suc place) s at = (omega arith, within nodes place s at)

pub stands_is_node : (m : Machine) (n : ℕ) (s : Standing) → standing_of m.members.nodes n ≡ Some s → IsNode (state_of m) n
stands_is_node m n s at = node_within m.members.nodes n s at

-- ---- prefixes of logs stay

-- what a full node has digested now some full node had digested before
digested_before : (w u : World) (n donor c m : ℕ) → Joins w n donor u → Full u m → digested_by_all w c ≤ u.digested m c
unfolding digested_by_all
digested_before w u n donor c m e h = grind (arith, least_of-below)

digested_up : (w u : World) (n donor c : ℕ) → Joins w n donor u → digested_by_all w c ≤ digested_by_all u c
unfolding digested_by_all
digested_up w u n donor c e = grind (arith, least_of-above, end-same, least_of-end, digested_before)

digested_down : (w u : World) (n donor c : ℕ) → Joins w n donor u → digested_by_all u c ≤ digested_by_all w c
unfolding digested_by_all
digested_down w u n donor c e = grind (arith, least_of-above, end-same, least_of-end, least_of-below)

join_dropped : (w u : World) (n donor : ℕ) → Joins w n donor u → AreDropped w → AreDropped u
unfolding AreDropped
join_dropped w u n donor e dropped c = grind (arith, digested_up, digested_down)

-- ---- a node is full again

pub join_leads : (m m' : Machine) (n : ℕ) (a : Answer) → MachineInvariant m → Joining m n a m' → Leads m m'
join_leads m m' n a h (is_joined fine is e) = record {
  states = state_of m' ∷ [];
  trace = (
    comeback n e.rejoins.donor
        (grind (
          arith,
          as_many m.members.nodes (n - 1) full,
          stands_is_node m n (returning e.rejoins.since e.rejoins.donor e.rejoins.stale) e.rejoins.stands,
          rejoin_joins m.world m'.world m.members m'.members n h.members e.rejoins,
        )),
    tt,
  );
  last = refl;
}
join_leads m m' n a h (lacks_memory fine is same) = same_leads m m' same
join_leads m m' n a h (is_refused r fault is same) = same_leads m m' same

pub join_holds : (m m' : Machine) (n : ℕ) (a : Answer) → MachineInvariant m → Joining m n a m' → MachineInvariant m'
join_holds m m' n a h (is_joined fine is e) =
    let l : Leads m m' = join_leads m m' n a h (is_joined fine is e) in
    let j : Joins m.world n e.rejoins.donor m'.world = rejoin_joins m.world m'.world m.members m'.members n h.members e.rejoins in
    let epoch : m'.members.epoch ≡ m.members.epoch + 1 = ap (λ o. o.epoch) e.rejoins.members in
    record {
      sound = leads_sound m m' h l;
      dropped = join_dropped m.world m'.world n e.rejoins.donor j h.dropped;
      recorded = leads_recorded m m' h l;
      leases = rw e.leases (logs_keep m.world m'.world m.leases j.logs j.clients j.leases (λ c. rw (j.goals c) (omega arith)) h.leases);
      members = rejoin_keeps m.world m'.world m.members m'.members n h.members e.rejoins;
      epochs = rw (e.adds.history, length-append m.history (returns n ∷ []), epoch) (omega (arith, h.epochs));
      logs = λ c. rw (j.logs.records c, e.adds.limit) (h.logs c);
      clients = rw j.clients.clients h.clients;
    }
join_holds m m' n a h (lacks_memory fine is same) = same_holds m m' same h
join_holds m m' n a h (is_refused r fault is same) = same_holds m m' same h
