-- Each step of leases can be made: the state to which it leads.
use Rattle.assise_model_leases.proofs.Common.{◌≡◌, ℕ, suc, ◌≤◌, ◌==◌, ◌&&◌, not, inl, inr, Bool, true, false, if◌then◌else◌, List, Option, Some, None, refl, ap}
use Rattle.assise_model_leases.proofs.Common.{sym, ◌∙◌, arith, eq-eqb, list_any, and_from, and_parts, both_ways, cases_Bool, eqb-true, false_from_ne_true, Mode}
use Rattle.assise_model_leases.proofs.Common.{NumberedCall, Lease, Becomes, Among, lease_of, new_lease, without_holder, revoke, revoked_if, is_own, serves}
use Rattle.assise_model_leases.proofs.Common.{any_among, among_any, map_among, Homes, AskedBelow, in_way, is_free, is_revoked, lives, raised_mode}
use Rattle.assise_model_leases.proofs.Common.{clients_granted, nodes_granted, nodes_asked, nodes_released, TwoLevels, IsGranted, IsAskedFor, IsIdle}
use Rattle.assise_model_leases.proofs.Common.{strong_raised, WorldInvariant, World, Full, end_of_log, HoldsAsLeased, Asks, CallsUnder, CrashesWith}
use Rattle.assise_model_leases.proofs.Common.{FailsWithLeases, FreesNode, Grants, OpensAt, ReleasesReady, asked_goal, AreLeases, Leases, is_held, is_written}
use Rattle.assise_model_leases.proofs.Common.{client_lease, lease_among, with_own, with_other}
use Rattle.assise_model_world.specs.Chances.{MayFail}
use Rattle.assise_model_world.proofs.Shared.Possible.{chosen, passed, may_open, may_call, may_raise, may_crash, may_fail}
use Rattle.assise_model_leases.specs.Chances.{MayAsk, MayCallUnder, MayGrant, MayRelease}
use Rattle.assise_model_leases.proofs.Shared.LookUps.{still_revoked}
use Rattle.assise_model_leases.proofs.CutsCover.{covers_end}

-- one inode has other leases
abbrev pub with_at : (ℕ → List Lease) → ℕ → List Lease → ℕ → List Lease
with_at f i ls j = if j == i then ls else f j

pub becomes : (f : ℕ → List Lease) (i : ℕ) (ls : List Lease) → Becomes f (with_at f i ls) i ls
becomes f i ls = search (chosen, passed) parts 1

-- the world whose clients hold what the leases say
abbrev pub holding : World → Leases → World
holding w l = record w { holds = λ c i. is_held (client_lease l c i); writes = λ c i. is_written (client_lease l c i) }

pub holds_them : (w : World) (l : Leases) → HoldsAsLeased w (holding w l) l
holds_them w l = search parts 3

-- ---- opening and calls

pub may_open_at : (w : World) (l : Leases) (n : ℕ) → Full w n → (u : World) × (k : Leases) × OpensAt w l n u k
may_open_at w l n f =
    let (u, e) = may_open w n f in
    let c : ℕ = suc w.clients in
    let home : ℕ → Option ℕ = λ d. if d == c then Some n else l.levels.home d in
    (u, record l { levels = record l.levels { home = home } }, search (e, chosen, passed) parts 3)

pub may_call_under : (w : World) (l : Leases) (x : NumberedCall) → WorldInvariant w → MayCallUnder w l x → (u : World) × CallsUnder w l x u
may_call_under w l x s m = (let (u, e) = may_call w x s m.may in (u, search e parts 1))

-- ---- granting

module _ (t : TwoLevels) (c n i : ℕ) (mode : Mode) where
  granted : TwoLevels
  granted = record t {
    clients = with_at t.clients i (clients_granted c mode (t.clients i));
    nodes = with_at t.nodes i (nodes_granted t.home (t.clients i) n mode (t.nodes i));
  }

  abbrev given : Lease
  given = new_lease c (raised_mode mode (lease_of (t.clients i) c))

  is_granted : IsGranted t granted c n i mode
  unfolding granted clients_granted
  is_granted = record {
    home = λ d. refl;
    clients = becomes t.clients i (clients_granted c mode (t.clients i));
    nodes = becomes t.nodes i (nodes_granted t.home (t.clients i) n mode (t.nodes i));
    held = ap (λ ls. serves (lease_of ls c) mode) (chosen i i (clients_granted c mode (t.clients i)) (t.clients i) refl)
        ∙ ap (λ o. serves o mode) (with_own given (t.clients i)) ∙ strong_raised mode (lease_of (t.clients i) c);
    others = λ j d other. elim (cases_Bool (j == i)) [
      | inl is ↦ rw is (with_other given (t.clients i) d other ∙ ap (λ j. lease_of (t.clients j) d) (sym (eqb-true j i is)))
      | inr away ↦ rw away refl
    ];
  }

pub may_grant : (w : World) (l : Leases) (c i : ℕ) (mode : Mode) → MayGrant w l c i mode → (u : World) × (k : Leases) × Grants w l c i mode u k
may_grant w l c i mode m =
    let k : Leases = record l { levels = granted l.levels c (w.home c) i mode } in (holding w k, k, search (is_granted, holds_them) parts 1)

-- ---- asking

-- where the mode isn't granted, some client holds the inode revoked
module _ (home : Homes) (cs ns : List Lease) (c n : ℕ) (mode : Mode) (below : AskedBelow home cs ns) where
  abbrev SomeRevoked : Type 0
  SomeRevoked = list_any (λ b. b.revoked) (revoke (in_way home ns c n mode) cs) ≡ true

  found_revoked : (b : Lease) → Among cs b → (revoked_if (in_way home ns c n mode b) b).revoked ≡ true → SomeRevoked
  found_revoked b a h = among_any (λ (z : Lease). z.revoked) (revoke (in_way home ns c n mode) cs) (revoked_if (in_way home ns c n mode b) b)
      (map_among (λ z. revoked_if (in_way home ns c n mode z) z) cs b a) h

  was_found : (b : Lease) → Among cs b → b.revoked ≡ true → SomeRevoked
  was_found b a h = found_revoked b a (still_revoked (in_way home ns c n mode) (Some b) h)

  own_revoked : (o : Option Lease) → lease_of cs c ≡ o → is_revoked o ≡ true → SomeRevoked
  own_revoked None is h = cc
  own_revoked (Some b) is h = was_found b (lease_among cs c b is).0 h

  node_revoked : (o : Option Lease) → lease_of ns n ≡ o → is_revoked o ≡ true → SomeRevoked
  node_revoked None is h = cc
  node_revoked (Some m) is h =
      let held = below m (lease_among ns n m is).0 h in
      let b = any_among (λ z. lives home z.holder m.holder) cs held.0 in
      was_found b.0 b.1 (held.1 b.0 b.1 b.2)

  some_revoked : is_free home cs ns c n mode ≡ false → SomeRevoked
  some_revoked refused = grind (arith, cases_Bool, any_among, found_revoked, own_revoked, node_revoked, both_ways)

first_end : (w : World) (c : ℕ) → w.first c ≤ end_of_log w c
unfolding end_of_log
first_end w c = omega arith

module _ (w : World) (l : Leases) (c i : ℕ) (mode : Mode) (a : AreLeases w l) (m : MayAsk w l c i mode) where
  asked_clients : List Lease
  asked_clients = revoke (in_way l.levels.home (l.levels.nodes i) c (w.home c) mode) (l.levels.clients i)

  abbrev asked : TwoLevels
  asked = record l.levels {
    clients = with_at l.levels.clients i asked_clients;
    nodes = with_at l.levels.nodes i (nodes_asked l.levels.home (l.levels.clients i) (w.home c) mode (l.levels.nodes i));
  }

  -- who is asked
  abbrev now : ℕ → Bool
  now d = not (is_revoked (lease_of (l.levels.clients i) d)) && is_revoked (lease_of (asked.clients i) d)

  -- each answers its log's end
  abbrev answers : Leases
  answers = record { levels = asked; cut = λ d j. if (j == i) && now d then end_of_log w d else l.cut d j }

  cut_now : (d : ℕ) → now d ≡ true → answers.cut d i ≡ end_of_log w d
  cut_now d h = rw (and_from (i == i) (now d) (eq-eqb i i refl) h) refl

  goal_there : (d : ℕ) → asked_goal l answers i d ≤ end_of_log w d
  goal_there d = grind (arith, cases_Bool, and_from, eq-eqb)

  is_asked_for : IsAskedFor l.levels asked c (w.home c) i mode
  unfolding asked_clients
  is_asked_for = search (becomes l.levels.clients i asked_clients, becomes, chosen, asked_clients, some_revoked, arith) parts 3

  pub may_ask : WorldInvariant w → (u : World) × (k : Leases) × Asks w l c i mode u k
  may_ask s =
      let (u, e) = may_raise w (asked_goal l answers i) goal_there in (
        u,
        answers,
        record {
          lives_on = m.lives_on;
          running = m.running;
          not_free = m.not_free;
          asked = is_asked_for;
          answered = λ d h. rw (cut_now d h) (covers_end w d i);
          from_first = λ d h. rw (cut_now d h) (first_end w d);
          border = λ d h. rw (cut_now d h) (s.coherent.end_border d);
          cuts_else = λ d j other. rw (false_from_ne_true ((j == i) && now d) (λ t. let p = and_parts (j == i) (now d) t in other (eqb-true j i p.0) p.1)) refl;
          goals = e;
        },
      )

-- ---- handing over

pub may_release : (w : World) (l : Leases) (c i : ℕ) → MayRelease w l c i → (u : World) × (k : Leases) × ReleasesReady w l c i u k
may_release w l c i m =
    let left : List Lease = without_holder c (l.levels.clients i) in
    let above : List Lease = nodes_released l.levels.home left (w.home c) (l.levels.nodes i) in
    let k : Leases = record l { levels = record l.levels { clients = with_at l.levels.clients i left; nodes = with_at l.levels.nodes i above } } in
    (holding w k, k, search (becomes, holds_them) parts 3)

pub may_free : (w : World) (l : Leases) (n : ℕ) → (Full w n → ⊥) → IsIdle l.levels n → (k : Leases) × FreesNode w l n k
may_free w l n away idle =
    let k : Leases = record l { levels = record l.levels { nodes = λ i. without_holder n (l.levels.nodes i) } } in (k, search (away, idle) parts 3)

-- ---- clients that are over

pub may_crash_with : (w : World) (l : Leases) (c : ℕ) → w.lives c ≡ true → w.crashed c ≡ false → (u : World) × (k : Leases) × CrashesWith w l c u k
may_crash_with w l c alive running =
    let (u, e) = may_crash w c alive running in
    let k : Leases = record {
      levels = record l.levels { clients = λ i. revoke (is_own c) (l.levels.clients i) };
      cut = λ d i. if d == c then end_of_log w d else l.cut d i;
    } in
    (u, k, search (e, chosen, passed) parts 3)

pub may_fail_with : (w : World) (l : Leases) (n : ℕ) → MayFail w n → (u : World) × (k : Leases) × FailsWithLeases w l n u k
may_fail_with w l n m =
    let (u, e) = may_fail w n m in
    let k : Leases = record {
      levels = record l.levels { clients = λ i. revoke (λ b. lives l.levels.home b.holder n) (l.levels.clients i) };
      cut = λ d i. if w.home d == n then end_of_log u d else l.cut d i;
    } in
    (u, k, search (e, chosen, passed) parts 3)
