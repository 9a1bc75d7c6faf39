-- What nodes do keeps the invariant: a node digests what all full nodes have.
use Rattle.assise_model_events.proofs.Common.{◌≡◌, ℕ, zero, suc, ◌+◌, ◌-◌, ◌≤◌, List, [], ◌∷◌, ◌++◌, length, refl, ap, sym, subst, ◌∙◌, arith, length-map}
use Rattle.assise_model_events.proofs.Common.{length-drop, World, digested_by_all, drop_dropped, EntryHappens, IsTrace, last_of, digests, drops, State}
use Rattle.assise_model_events.proofs.Common.{AreLeases, logs_keep, drop_keeps, AreMembers, digest_keeps, stale_again, Membership, Answer, Leads, Machine}
use Rattle.assise_model_events.proofs.Common.{MachineInvariant, state_of, part_of, DigestsNext, DigestsTo, IsDigested, Digesting, is_digested}
use Rattle.assise_model_events.specs.NodeEvents.Digesting.{lacks_memory, is_refused}
use Rattle.assise_model_events.proofs.Shared.EventTraces.{same_leads, same_holds, with_world, quietly, ends_as}
use Rattle.assise_model_events.proofs.DeliveryKeeps.{quiet_holds, areas_stay}

-- ---- a trace with one step more

further_trace : (s : State) (ts : List State) (t : State) → IsTrace s ts → EntryHappens (last_of s ts) t → IsTrace s (ts ++ t ∷ [])
further_trace s [] t go step = (step, tt)
further_trace s (x ∷ xs) t (first, rest) step = (first, further_trace x xs t rest step)

further_last : (s : State) (ts : List State) (t : State) → last_of s (ts ++ t ∷ []) ≡ t
further_last s [] t = refl
further_last s (x ∷ xs) t = further_last x xs t

-- ---- clients' records are digested one after another

-- a trace from the machine's state to this world and these members, and what holds of them
record Reached (m : Machine) (w : World) (o : Membership) : Type 0 where
  states : List State
  trace : IsTrace (state_of m) states
  last : last_of (state_of m) states ≡ with_world m w
  leases : AreLeases w m.leases
  members : AreMembers w o
  records : (c : ℕ) → w.records c ≡ m.world.records c
  clients : w.clients ≡ m.world.clients
  epoch : o.epoch ≡ m.members.epoch
  nodes : length o.nodes ≡ length m.members.nodes

at_first : (m : Machine) → MachineInvariant m → Reached m m.world m.members
at_first m h = grind arith

-- the trace with a quiet step more
step_trace : (m : Machine) (w u : World) (o : Membership) (r : Reached m w o) → EntryHappens (with_world m w) (with_world m u) →
    IsTrace (state_of m) (r.states ++ with_world m u ∷ [])
step_trace m w u o r step = further_trace (state_of m) r.states (with_world m u) r.trace (subst (λ s. EntryHappens s (with_world m u)) (sym r.last) step)

next_reached : (m : Machine) (n count c : ℕ) (w u : World) (o p : Membership) → Reached m w o → DigestsNext n count c m.world w o u p → Reached m u p
next_reached m n count c w u o p r e = record {
  states = r.states ++ with_world m u ∷ [];
  trace = step_trace m w u o r (quietly m w u (digests n c (w.digested n c + part_of m.world n count c) e.digests.digests));
  last = further_last (state_of m) r.states (with_world m u);
  leases = logs_keep w u m.leases e.digests.digests.logs e.digests.digests.clients e.digests.digests.leases (λ d. rw (e.digests.digests.goals d) (omega arith))
      r.leases;
  members = digest_keeps w u o p n c (w.digested n c + part_of m.world n count c) e.inodes r.members e.digests;
  records = λ d. e.digests.digests.logs.records d ∙ r.records d;
  clients = e.digests.digests.clients.clients ∙ r.clients;
  epoch = ap (λ x. x.epoch) e.digests.members ∙ r.epoch;
  nodes = ap (λ x. length x.nodes) e.digests.members ∙ length-map o.nodes (stale_again n e.inodes) ∙ r.nodes;
}

all_reached : (m : Machine) (n count c : ℕ) (w : World) (o : Membership) → MachineInvariant m → DigestsTo n count m.world m.world m.members c w o →
    Reached m w o
all_reached m n count zero w o h (world, members) = rw (world, members) (at_first m h)
all_reached m n count (suc c) w o h (v, (p, (before, e))) = next_reached m n count (suc c) v w p o (all_reached m n count c v p h before) e

-- ---- then prefixes of logs go

module _ (m m' : Machine) (n count : ℕ) (h : MachineInvariant m) (e : IsDigested m n count m') where
  reached : Reached m e.between m'.members
  reached = all_reached m n count m.world.clients e.between m'.members h e.digests

  digested_leads : Leads m m'
  digested_leads = grind (
    arith,
    step_trace m e.between m'.world m'.members reached (quietly m e.between m'.world (drops (digested_by_all e.between) e.drops)),
    further_last
        (state_of m) reached.states (with_world m m'.world),
    ends_as m m' m'.world reached.nodes e.adds refl,
  )

  fewer : (c : ℕ) → length (m'.world.records c) ≤ length (m.world.records c)
  fewer c =
      rw (e.drops.records c, reached.records c, length-drop (digested_by_all e.between c - e.between.first c) (m.world.records c)) (omega arith)

  digested_holds : MachineInvariant m'
  digested_holds =
      quiet_holds m m' h digested_leads e.adds
      (drop_dropped e.between m'.world e.drops)
      (subst (AreLeases m'.world) (sym e.leases) (drop_keeps e.between m'.world m.leases (digested_by_all e.between) reached.leases e.drops))
      (areas_stay e.between m'.world m'.members e.drops.full (λ k i full. e.drops.area k i full) e.others reached.members)
      reached.epoch
      fewer
      (e.drops.clients.clients ∙ reached.clients)

pub digesting_leads : (m m' : Machine) (n : ℕ) (a : Answer) → MachineInvariant m → Digesting m n a m' → Leads m m'
digesting_leads m m' n a h (is_digested count fine is e) = digested_leads m m' n count h e
digesting_leads m m' n a h (lacks_memory fine more is same) = same_leads m m' same
digesting_leads m m' n a h (is_refused r why is same) = same_leads m m' same

pub digesting_holds : (m m' : Machine) (n : ℕ) (a : Answer) → MachineInvariant m → Digesting m n a m' → MachineInvariant m'
digesting_holds m m' n a h (is_digested count fine is e) = digested_holds m m' n count h e
digesting_holds m m' n a h (lacks_memory fine more is same) = same_holds m m' same h
digesting_holds m m' n a h (is_refused r why is same) = same_holds m m' same h
