-- A node can fail: a full one beside others, and one that was coming back.
use Rattle.assise_model_events.proofs.Common.{◌≡◌, ◌≢◌, ℕ, zero, suc, ◌+◌, ◌-◌, ◌<◌, ◌==◌, true, if◌then◌else◌, drop, List, [], ◌∷◌, ◌++◌, length, Option, Some}
use Rattle.assise_model_events.proofs.Common.{None, refl, ap, sym, ◌∙◌, arith, eq-eqb, slice_set, cases_eq, ne_eqb, nil_from_length, none-some, same_Some}
use Rattle.assise_model_events.proofs.Common.{BadNode, WrongPhase, Loss, fails, early, revoke, lives, failure_fault, failure_fault_of, is_returning, Membership}
use Rattle.assise_model_events.proofs.Common.{lowest_full, Standing, standing_of, with_standing, full_from, full_nodes, full, down, returning, never}
use Rattle.assise_model_events.proofs.Common.{one_full_less, Drops, Fails, fails_node, WorldInvariant, World, Full, end_of_log, digested_by_all}
use Rattle.assise_model_events.proofs.Common.{digested_by_all-first, least_of-is, step_sound, LeasesFail, Leases, may_fail, may_fail_again, may_list}
use Rattle.assise_model_events.proofs.Common.{lowest_stands, set_here, set_else, losses_of, failed, MachineInvariant, Machine, Failing}
use Rattle.assise_manager.specs.Standings.{is_full}
use Rattle.assise_model_world.specs.Runs.{rests}
use Rattle.assise_model_events.specs.MemberEvents.Failing.{is_failed, is_failed_again}

-- ---- another node is full

-- the others that are full, where one is down
some_left : (o : Membership) (n : ℕ) → standing_of o.nodes n ≡ Some full → failure_fault o n ≡ None → 0 < length (full_nodes (with_standing o.nodes n (down 0)))
some_left o zero at fine = absurd (none-some full at)
some_left o (suc place) at fine = grind (arith, full_from, slice_set, down, full_nodes, one_full_less, cases_eq, none-some, failure_fault_of, eq-eqb)

beside : (o : Membership) (n : ℕ) → standing_of o.nodes n ≡ Some full → failure_fault o n ≡ None → (k : ℕ) × ((k ≢ n) × (standing_of o.nodes k ≡ Some full))
beside o n at fine =
    let left : List Standing = with_standing o.nodes n (down 0) in
    let k : ℕ = lowest_full left in
    let stands : standing_of left k ≡ Some full = lowest_stands left (some_left o n at fine) in
    let other : k ≢ n = grind (arith, never, is_full, same_Some, down, full, set_here, standing_of) in
    (k, (other, sym (set_else o.nodes n k full (down 0) at other) ∙ stands))

-- ---- a client that wasn't opened has no records

no_records : (m : Machine) → MachineInvariant m → (c : ℕ) → m.world.clients < c → m.world.records c ≡ []
unfolding end_of_log
no_records m h c above = grind (arith, early, nil_from_length)

-- ---- what a failure leads to

-- the leases that it leaves, where this is the world
left_leases : (w v : World) (l : Leases) (n : ℕ) → Fails w n v → (k : Leases) × LeasesFail w l n v k
left_leases w v l n e = (
  record {
    levels = record { home = l.levels.home; clients = λ i. revoke (λ b. lives l.levels.home b.holder n) (l.levels.clients i); nodes = l.levels.nodes };
    cut = λ d i. if w.home d == n then end_of_log v d else l.cut d i;
  },
  record {
    fails = e;
    home = λ d. refl;
    clients = λ i. refl;
    nodes = λ i. refl;
    cut_here = λ d i is. rw (eq-eqb (w.home d) n is) refl;
    cut_else = λ d i other. rw (ne_eqb (w.home d) n other) refl;
  },
)

-- prefixes of logs go that all full nodes have digested
pub digested_border : (w : World) → WorldInvariant w → (c : ℕ) → w.border c (digested_by_all w c) ≡ true
unfolding digested_by_all
digested_border w s c =
    least_of-is (λ k. w.border c k ≡ true) w.full (λ n. w.digested n c) (end_of_log w c) (s.coherent.end_border c)
    (λ n h. (s.coherent.order n c h).digested_border)

abbrev pub dropped_world : World → World
dropped_world w = record w {
  first = digested_by_all w;
  records = λ c. drop (digested_by_all w c - w.first c) (w.records c);
  log = λ n c. drop (digested_by_all w c - w.first c) (w.log n c);
}

pub drops_them : (w : World) → WorldInvariant w → Drops w (digested_by_all w) (dropped_world w)
drops_them w s = grind (arith, digested_by_all-first, digested_border)

full_can : (m : Machine) (n : ℕ) → MachineInvariant m → failure_fault m.members n ≡ None → standing_of m.members.nodes n ≡ Some full →
    (m' : Machine) × ((losses : List Loss) × Failing m n (failed losses) m')
full_can m n h fine at =
    let here : Full m.world n = h.members.nodes_full n at in
    let (k, other) = beside m.members n at fine in
    let (inodes, may) = may_list m.world n m.world.clients here (k, (other.0, h.members.nodes_full k other.1)) (no_records m h) in
    let (v, u, o, e) = may_fail m.world m.members n inodes h.members may in
    let (left, leases) = left_leases m.world v m.leases n e.fails in
    let sound : WorldInvariant u = step_sound v u (step_sound m.world v h.sound (fails_node n e.fails)) (rests e.rests) in (
      record m { history = m.history ++ fails n (losses_of m.world n) ∷ []; world = dropped_world u; leases = left; members = o },
      (
        losses_of m.world n,
        is_failed fine refl (search (drops_them, arith) parts 3),
      ),
    )

again_can : (m : Machine) (n : ℕ) → failure_fault m.members n ≡ None → is_returning (standing_of m.members.nodes n) ≡ true →
    (m' : Machine) × ((losses : List Loss) × Failing m n (failed losses) m')
again_can m n fine was =
    let (u, o, e) = may_fail_again m.world m.members n was in (
      record m { history = m.history ++ fails n [] ∷ []; world = u; members = o },
      ([], is_failed_again fine refl (record { failure = e; leases = refl; adds = record { history = refl; limit = refl; hot = refl } })),
    )

failed_as_stands : (m : Machine) (n : ℕ) → MachineInvariant m → (s : Option Standing) → standing_of m.members.nodes n ≡ s → failure_fault m.members n ≡ None →
    (m' : Machine) × ((losses : List Loss) × Failing m n (failed losses) m')
failed_as_stands m n h None at fine = absurd (none-some BadNode (sym fine ∙ ap (failure_fault_of m.members) at))
failed_as_stands m n h (Some full) at fine = full_can m n h fine at
failed_as_stands m n h (Some (down since)) at fine = absurd (none-some WrongPhase (sym fine ∙ ap (failure_fault_of m.members) at))
failed_as_stands m n h (Some (returning since donor stale)) at fine = again_can m n fine (ap is_returning at)

pub failed_can : (m : Machine) (n : ℕ) → MachineInvariant m → failure_fault m.members n ≡ None →
    (m' : Machine) × ((losses : List Loss) × Failing m n (failed losses) m')
failed_can m n h fine = failed_as_stands m n h (standing_of m.members.nodes n) refl fine
