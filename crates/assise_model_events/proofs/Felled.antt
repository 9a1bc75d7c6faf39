-- Nodes fail: a full one, whose clients' logs are cut, and one that was coming back.
use Rattle.assise_model_events.proofs.Common.{◌≡◌, ℕ, ◌+◌, ◌-◌, ◌≤◌, Option, Some, None, [], ◌∷◌, ◌++◌, length, refl, ap, arith, length-append, nat_cmp}
use Rattle.assise_model_events.proofs.Common.{length-map, length-take, length-drop, fails, failed_as, is_returning, Membership, Standing, standing_of, full}
use Rattle.assise_model_events.proofs.Common.{down, returning, never, Rests, World, digested_by_all, records_between, drop_dropped, fail_sound, AreLeases}
use Rattle.assise_model_events.proofs.Common.{leases_fail, logs_keep, drop_keeps, AreMembers, again_keeps, areas_keep, keeps_areas, returning_is, failure}
use Rattle.assise_model_events.proofs.Common.{failure_again, rests, drops, losses_of, State, Answer, Leads, Machine, MachineInvariant, state_of, Failing}
use Rattle.assise_model_events.proofs.Common.{IsFailed, IsFailedAgain}
use Rattle.std.specs.FinSet as set
use Rattle.assise_model_members.proofs.Shared.NodesFail.{fail_keeps as members_fail}
use Rattle.assise_model_history.specs.Traces.EntryHappens.{quiet}
use Rattle.assise_model_events.specs.MemberEvents.Failing.{is_failed, is_failed_again, lacks_memory, is_refused}
use Rattle.assise_model_events.proofs.Shared.EventTraces.{leads_sound, leads_recorded, same_leads, same_holds}
use Rattle.assise_model_events.proofs.ReturnKeeps.{as_many, rest_holds}
use Rattle.assise_model_events.proofs.Shared.Rejoined.{stands_is_node}

-- ---- the nodes stay as many, and an epoch begins where a full one fails

full_many : (o : Membership) (n : ℕ) (inodes : set.FinSet nat_cmp) → length (failed_as o n inodes (Some full)).nodes ≡ length o.nodes
full_many o n inodes = grind (arith, length-map, as_many)

failed_many : (o : Membership) (n : ℕ) (inodes : set.FinSet nat_cmp) (s : Option Standing) → length (failed_as o n inodes s).nodes ≡ length o.nodes
failed_many o n inodes None = refl
failed_many o n inodes (Some full) = full_many o n inodes
failed_many o n inodes (Some (down since)) = refl
failed_many o n inodes (Some (returning since donor stale)) = as_many o.nodes (n - 1) (down since)

failed_epoch : (o : Membership) (n : ℕ) (inodes : set.FinSet nat_cmp) (s : Option Standing) → (failed_as o n inodes s).epoch ≤ o.epoch + 1
failed_epoch o n inodes s = grind arith

-- ---- a full node fails

-- the history has its entry, and this is the world
abbrev told_with : Machine → ℕ → World → State
told_with m n w = record { nodes = length m.members.nodes; history = m.history ++ fails n (losses_of m.world n) ∷ []; world = w }

full_leads : (m m' : Machine) (n : ℕ) → IsFailed m n m' → Leads m m'
full_leads m m' n e =
    let many : length m'.members.nodes ≡ length m.members.nodes =
    grind (arith, failed_many, standing_of) in
    record {
      states = told_with m n e.cut ∷ told_with m n e.refreshed ∷ told_with m n m'.world ∷ [];
      trace = (
        failure n (record { adds = record { nodes = refl; entry = refl }; world = e.failure.fails }),
        (
          quiet (record { nodes = refl; entries = refl; world = rests e.failure.rests }),
          (quiet (record { nodes = refl; entries = refl; world = drops (digested_by_all e.refreshed) e.drops }), tt),
        ),
      );
      last = rw (many, e.adds.history) refl;
    }

-- records are cut and dropped
cut_short : (w : World) (c j k : ℕ) → length (records_between w c j k) ≤ length (w.records c)
unfolding records_between
cut_short w c j k = grind (arith, length-take, length-drop)

full_short : (m m' : Machine) (n c : ℕ) → IsFailed m n m' → length (m'.world.records c) ≤ length (m.world.records c)
full_short m m' n c e = grind (arith, length-drop, cut_short)

full_leases : (m m' : Machine) (n : ℕ) → MachineInvariant m → IsFailed m n m' → AreLeases m'.world m'.leases
full_leases m m' n h e =
    let r : Rests e.cut e.refreshed = e.failure.rests in
    drop_keeps e.refreshed m'.world m'.leases (digested_by_all e.refreshed)
    (logs_keep e.cut e.refreshed m'.leases r.logs r.clients r.leases (λ c. rw (r.goals c) (omega arith))
    (leases_fail m.world e.cut m.leases m'.leases n h.leases e.leases
    (fail_sound m.world e.cut n h.sound e.failure.fails)))
    e.drops

full_members : (m m' : Machine) (n : ℕ) → MachineInvariant m → IsFailed m n m' → AreMembers m'.world m'.members
full_members m m' n h e = grind (
  arith,
  areas_keep e.refreshed m'.world m'.members (members_fail m.world e.cut e.refreshed m.members m'.members n e.inodes h.sound h.members e.failure)
      (keeps_areas e.refreshed m'.world e.drops.full e.drops.area e.others),
)

full_holds : (m m' : Machine) (n : ℕ) → MachineInvariant m → IsFailed m n m' → MachineInvariant m'
full_holds m m' n h e =
    let l : Leads m m' = full_leads m m' n e in
    let same : m'.members.epoch ≡ (failed_as m.members n e.inodes (standing_of m.members.nodes n)).epoch = ap (λ o. o.epoch) e.failure.members in
    let epoch : (failed_as m.members n e.inodes (standing_of m.members.nodes n)).epoch ≤ m.members.epoch + 1 = grind (arith, failed_epoch, standing_of) in
    record {
      sound = leads_sound m m' h l;
      dropped = drop_dropped e.refreshed m'.world e.drops;
      recorded = leads_recorded m m' h l;
      leases = full_leases m m' n h e;
      members = full_members m m' n h e;
      epochs = rw (e.adds.history, length-append m.history (fails n (losses_of m.world n) ∷ [])) (omega (arith, same, epoch, h.epochs));
      logs = λ c. (let short = full_short m m' n c e in let limit = e.adds.limit in omega (arith, short, limit, h.logs c));
      clients = rw (e.drops.clients.clients, e.failure.rests.clients.clients, e.failure.fails.clients) h.clients;
    }

-- ---- a node fails that was coming back

again_leads : (m m' : Machine) (n : ℕ) → MachineInvariant m → IsFailedAgain m n m' → Leads m m'
again_leads m m' n h e =
    let (since, donor, stale, stands) = returning_is (standing_of m.members.nodes n) e.failure.was_returning in
    record {
      states = state_of m' ∷ [];
      trace = (
        failure_again n (grind (arith, failed_many, standing_of, stands_is_node, returning, never, is_returning)),
        tt,
      );
      last = refl;
    }

again_holds : (m m' : Machine) (n : ℕ) → MachineInvariant m → IsFailedAgain m n m' → MachineInvariant m'
again_holds m m' n h e = grind (
  arith,
  rest_holds m m' (fails n [] ∷ []) h (again_leads m m' n h e) e.failure.rests e.leases e.adds
      (rw e.failure.members (failed_epoch m.members n set.empty (standing_of m.members.nodes n)))
      (again_keeps m.world m'.world m.members m'.members n e.failure h.members),
)

-- ---- a node fails

pub fail_leads : (m m' : Machine) (n : ℕ) (a : Answer) → MachineInvariant m → Failing m n a m' → Leads m m'
fail_leads m m' n a h (is_failed fine is e) = full_leads m m' n e
fail_leads m m' n a h (is_failed_again fine is e) = again_leads m m' n h e
fail_leads m m' n a h (lacks_memory fine is same) = same_leads m m' same
fail_leads m m' n a h (is_refused r fault is same) = same_leads m m' same

pub fail_holds : (m m' : Machine) (n : ℕ) (a : Answer) → MachineInvariant m → Failing m n a m' → MachineInvariant m'
fail_holds m m' n a h (is_failed fine is e) = full_holds m m' n h e
fail_holds m m' n a h (is_failed_again fine is e) = again_holds m m' n h e
fail_holds m m' n a h (lacks_memory fine is same) = same_holds m m' same h
fail_holds m m' n a h (is_refused r fault is same) = same_holds m m' same h
