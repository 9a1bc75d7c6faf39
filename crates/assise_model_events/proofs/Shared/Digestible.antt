-- A node can digest what all full nodes have.
use Rattle.assise_model_events.proofs.Common.{◌≡◌, ℕ, zero, suc, ◌+◌, ◌<◌, ◌≤◌, min, true, None, refl, ◌∙◌, arith, append-nil, WrongPhase, Membership, sym}
use Rattle.assise_model_events.proofs.Common.{standing_of, Digests, WorldInvariant, World, Full, end_of_log, received_by_all, least_of-same, step_sound}
use Rattle.assise_model_events.proofs.Common.{may_digest, digested, node_fault, MachineInvariant, Machine, DigestsTo, Digesting, most_digested, part_of}
use Rattle.assise_model_events.proofs.Common.{undigested_to, is_digested}
use Rattle.assise_model_world.specs.Chances.{MayDigest}
use Rattle.assise_model_world.specs.Runs.{digests}
use Rattle.assise_model_events.proofs.Shared.Failable.{dropped_world, drops_them}
use Rattle.assise_model_events.proofs.Shared.Faultless.{stands_full}
use Rattle.assise_model_events.proofs.Shared.LeaseSteps.{full_after}

-- ---- a step keeps what the next one needs

-- the same nodes are full, with the same records, and only what is digested changed
record SameRecords (w v : World) : Type 0 where
  sound : WorldInvariant v
  full : v.full ≡ w.full
  received : (c : ℕ) → received_by_all v c ≡ received_by_all w c
  border : (c k : ℕ) → v.border c k ≡ w.border c k

pub same_received : (w v : World) (n c k : ℕ) → Digests w n c k v → (d : ℕ) → received_by_all v d ≡ received_by_all w d
unfolding received_by_all end_of_log
same_received w v n c k e d = grind (arith, least_of-same, end_of_log)

next_same : (w v u : World) (n c k : ℕ) → SameRecords w v → Digests v n c k u → SameRecords w u
next_same w v u n c k s e = record {
  sound = step_sound v u s.sound (digests n c k e);
  full = e.full ∙ s.full;
  received = λ d. same_received v u n c k e d ∙ s.received d;
  border = λ d j. e.logs.border d j ∙ s.border d j;
}

-- ---- clients' parts are digested one after another

-- those of clients 1 to c
record DigestedTo (m : Machine) (n count c : ℕ) : Type 0 where
  world : World
  members : Membership
  trace : DigestsTo n count m.world m.world m.members c world members
  same : SameRecords m.world world
  later : (d : ℕ) → c < d → world.digested n d ≡ m.world.digested n d

module _ (m : Machine) (n count : ℕ) (h : MachineInvariant m) (here : Full m.world n)
    (borders : (c : ℕ) → m.world.border c (m.world.digested n c + part_of m.world n count c) ≡ true) where
  may_next : (c : ℕ) (r : DigestedTo m n count c) → MayDigest r.world n (suc c) (r.world.digested n (suc c) + part_of m.world n count (suc c))
  may_next c r = grind (arith, full_after)

  next_digested : (c : ℕ) → DigestedTo m n count c → DigestedTo m n count (suc c)
  next_digested c r =
      let place : ℕ = r.world.digested n (suc c) + part_of m.world n count (suc c) in
      let (inodes, u, o, e) = may_digest r.world r.members n (suc c) place (may_next c r) in
      record {
        world = u;
        members = o;
        trace = (r.world, (r.members, (r.trace, record { inodes = inodes; digests = e })));
        same = next_same m.world r.world u n (suc c) place r.same e.digests;
        later = λ d above. e.digests.digested_else n d e.digests.full_node (λ is own. omega (arith, above, own)) ∙ r.later d (omega (arith, above));
      }

  digested_to : (c : ℕ) → DigestedTo m n count c
  digested_to zero = grind arith
  digested_to (suc c) = next_digested c (digested_to c)

-- ---- then prefixes of logs go

pub digested_can : (m : Machine) (n count : ℕ) → MachineInvariant m → node_fault m n ≡ None →
    count ≤ min most_digested (undigested_to m.world n m.world.clients) →
    (0 < undigested_to m.world n m.world.clients → 0 < count) →
    ((c : ℕ) → m.world.border c (m.world.digested n c + part_of m.world n count c) ≡ true) → (m' : Machine) × Digesting m n (digested count) m'
digested_can m n count h fine few some borders =
    let here : Full m.world n = h.members.nodes_full n (stands_full WrongPhase (standing_of m.members.nodes n) fine) in
    let r : DigestedTo m n count m.world.clients = digested_to m n count h here borders m.world.clients in (
      record m { world = dropped_world r.world; members = r.members },
      is_digested count fine refl (record {
        few = few;
        some = some;
        between = r.world;
        digests = r.trace;
        drops = drops_them r.world r.same.sound;
        others = λ k i away. refl;
        leases = refl;
        adds = record { history = sym (append-nil m.history); limit = refl; hot = refl };
      }),
    )
