-- A full node that failed, as the laws have it.
use Rattle.assise_machine_failures.proofs.Common.{◌≡◌, ◌≢◌, ℕ, ◌<◌, true, List, if◌then◌else◌, Some, None, length, refl, ap, sym, subst, ◌∙◌, arith, ∥∥₁_elim}
use Rattle.assise_machine_failures.proofs.Common.{∥∥₁_map, Coded-set, coded_ℕ, nat_cmp, all_effects, contains, touched, Asked, Among, revoke, lease_of}
use Rattle.assise_machine_failures.proofs.Common.{TwoLevels, donor_of, failed, failure_fault, stale_of, full, standing_of, Drops, Fails, kept_at_failure}
use Rattle.assise_machine_failures.proofs.Common.{WorldInvariant, Full, World, digested_by_all, fail_sound, FailsWithMembers, losses_of, fail_event}
use Rattle.assise_machine_failures.proofs.Common.{failed_answer, MachineInvariant, Failing, IsFailed, is_failed, event_keeps, after_failure, drops_to, observed}
use Rattle.assise_machine_failures.proofs.Common.{world_of, AreLeft, CutsInvariant, ShapeInvariant, StateValue, leases_of, standings, failure_noted}
use Rattle.assise_machine_failures.proofs.Common.{noted_known, still_noted, seen_full, failure_keeps, survivor_left}
use Rattle.std.specs.FinSet as set
use Rattle.assise_lease_table.specs.LeaseMaps.{SameLeases as SameLeasesOf}
use Rattle.assise_lease_tree.specs.Levels.{is_revoked, lives}
use Rattle.assise_model_world.proofs.Shared.ClientsStaying.{rest_sound}
use Rattle.assise_model_leases.specs.Handing.{FailsWithLeases as LeasesFail}
use Rattle.assise_machine_state.proofs.Shared.Dropped.{StillDropping, all_dropped, same_dropping}
use Rattle.assise_machine_state.proofs.Shared.FailureSeen.{failure_areas, failure_seen, failure_shaped}
use Rattle.assise_machine_failures.proofs.FailSettled.{fails_settled}
use Rattle.assise_machine_failures.proofs.LostCopies.{AllLoseAt, StillLosing, all_still, one_loses, others_stay}
use Rattle.assise_machine_failures.proofs.Shared.TakenDown.{few_clients}

-- who holds what is the same where all is that it is made of
same_leases : (t v : StateValue) → v.levels ≡ t.levels → v.cuts ≡ t.cuts → v.clients ≡ t.clients → leases_of v ≡ leases_of t
unfolding leases_of
same_leases t v levels cuts clients = (λ i. leases_of (record t { levels = levels i; cuts = cuts i; clients = clients i }))

-- ---- what is known before and after

-- a full node that may fail, in a state where all invariants hold
pub record MayFail (s : StateValue) (n : ℕ) : Type 0 where
  pub holds : ∥ MachineInvariant (observed s) ∥₁
  pub shape : ShapeInvariant s
  pub noted : CutsInvariant s
  pub stands : standing_of (standings s) n ≡ Some full
  pub fine : failure_fault s.members n ≡ None

-- the node is down, and the records of its clients are cut
pub record IsCut (s : StateValue) (n : ℕ) (t : StateValue) : Type 0 where
  pub fails : Fails (world_of s) n (world_of t)
  pub shape : ShapeInvariant t

-- the event, with the invariant after it
pub record Gives (s : StateValue) (n : ℕ) (v : StateValue) : Type 0 where
  pub happens : Failing (observed s) n (failed_answer (losses_of (world_of s) n)) (observed v)
  pub holds : ∥ MachineInvariant (observed v) ∥₁
  pub shape : ShapeInvariant v
  pub noted : CutsInvariant v

-- the nodes that were filled from it have lost their copies, and the event has happened as soon as prefixes are dropped
pub record IsRefreshed (s : StateValue) (n : ℕ) (u : StateValue) : Type 0 where
  pub shape : ShapeInvariant u
  pub sound : ∥ WorldInvariant (world_of u) ∥₁
  pub few : length u.clients < 4294967296
  pub gives : Gives s n (drops_to u (length u.clients))

-- ---- what is revoked

pub record RevokesBelow (s : StateValue) (n : ℕ) (levels : TwoLevels) (asked : List Asked) : Type 0 where
  pub home : (c : ℕ) → levels.home c ≡ s.levels.home c
  pub clients : (i : ℕ) → levels.clients i ≡ revoke (λ a. lives s.levels.home a.holder n) (s.levels.clients i)
  pub nodes : SameLeasesOf s.levels.nodes levels.nodes
  pub left : AreLeft s (λ c. lives s.levels.home c n) asked

-- the inodes are those that records touch which still stand in a log
pub record AreTouched (w : World) (inodes : set.FinSet nat_cmp) : Type 0 where
  pub only : (i : ℕ) → set.contains inodes i ≡ true → (c : ℕ) × (contains (touched (all_effects (w.records c))) i ≡ true)
  pub all : (c i : ℕ) → contains (touched (all_effects (w.records c))) i ≡ true → set.contains inodes i ≡ true

-- the nodes are those that are filled from the node
pub record AreFilled (s : StateValue) (n : ℕ) (ks : List ℕ) : Type 0 where
  pub only : (k : ℕ) → Among ks k → donor_of (standing_of (standings s) k) ≡ Some n
  pub all : (k : ℕ) → donor_of (standing_of (standings s) k) ≡ Some n → Among ks k

module _ (s : StateValue) (n : ℕ) (inodes : set.FinSet nat_cmp) (levels : TwoLevels) (asked : List Asked) (may : MayFail s n)
    (revokes : RevokesBelow s n levels asked) where
  abbrev w : World
  w = world_of s

  abbrev t : StateValue
  t = after_failure s n inodes levels asked

  seen_some : ∥ LeasesFail w (leases_of s) n (world_of t) (leases_of t) ∥₁
  unfolding observed
  seen_some =
      ∥∥₁_map may.holds
      (λ h. failure_seen s n inodes levels asked may.shape may.stands h.sound may.fine revokes.clients revokes.home revokes.nodes revokes.left h.leases)

  survivor : (m : ℕ) × ((m ≢ n) × Full w m)
  survivor = grind (arith, survivor_left, seen_full)

  node_fails : Fails w n (world_of t)
  node_fails = fails_settled w n (world_of t) (∥∥₁_map seen_some (λ f. f.fails)) survivor

  seen : LeasesFail w (leases_of s) n (world_of t) (leases_of t)
  unfolding leases_of
  seen = record {
    fails = node_fails;
    home = revokes.home;
    clients = revokes.clients;
    nodes = revokes.nodes;
    cut_here = λ c i here. ∥∥₁_elim seen_some (Coded-set coded_ℕ ((leases_of t).cut c i) _) (λ f. f.cut_here c i here);
    cut_else = λ c i other. ∥∥₁_elim seen_some (Coded-set coded_ℕ ((leases_of t).cut c i) _) (λ f. f.cut_else c i other);
  }

  cut_shaped : ShapeInvariant t
  unfolding observed
  cut_shaped = failure_shaped s n inodes levels asked may.shape may.stands (∥∥₁_map may.holds (λ h. h.sound)) may.fine

  cut_sound : ∥ WorldInvariant (world_of t) ∥₁
  unfolding observed
  cut_sound = ∥∥₁_map may.holds (λ h. fail_sound w (world_of t) n h.sound node_fails)

  cut_noted : CutsInvariant t
  unfolding observed
  cut_noted = noted_known t (∥∥₁_map may.holds (λ h. failure_noted s n inodes levels asked may.noted h.leases revokes.clients revokes.left))

  pub is_cut : IsCut s n t
  is_cut = record { fails = node_fails; shape = cut_shaped }

  module _ (ks : List ℕ) (u : StateValue) (filled : AreFilled s n ks) (lose : AllLoseAt t ks u) where
    losing : StillLosing t u
    losing = all_still t ks u cut_shaped lose

    lost_sound : ∥ WorldInvariant (world_of u) ∥₁
    lost_sound = ∥∥₁_map cut_sound (λ h. rest_sound (world_of t) (world_of u) h losing.rests)

    dropping : StillDropping u (drops_to u (length u.clients))
    dropping = same_dropping u losing.shape lost_sound (length u.clients) (omega arith)

    abbrev v : StateValue
    v = drops_to u (length u.clients)

    drops : Drops (world_of u) (digested_by_all (world_of u)) (world_of v)
    drops = all_dropped u losing.shape lost_sound

    leases_end : leases_of v ≡ leases_of t
    unfolding leases_of
    leases_end = same_leases u v dropping.levels dropping.cuts dropping.clients ∙ ap leases_of losing.same

    members_end : v.members ≡ failed s.members n inodes
    members_end = dropping.members ∙ ap (λ x. x.members) losing.same

    fails_with : AreTouched (world_of t) inodes → FailsWithMembers w s.members n inodes (world_of t) (world_of u) v.members
    fails_with touches = record {
      fails = node_fails;
      rests = losing.rests;
      members = members_end;
      touched_only = touches.only;
      touched_all = touches.all;
      over = λ k stale from lacks i.
          one_loses t ks u k i stale lose (filled.all k from) (ap (λ m. stale_of (standing_of m.nodes k)) (sym members_end) ∙ lacks)
          ∙ ap (λ x. if set.contains stale i then None else x) (failure_areas s n k i inodes levels asked);
      area_else = λ k i other. others_stay t ks u k i lose (λ there. other (filled.only k there)) ∙ failure_areas s n k i inodes levels asked;
    }

    is_so : AreTouched (world_of t) inodes → IsFailed (observed s) n (observed v)
    unfolding observed
    is_so touches = record {
      was_full = may.stands;
      cut = world_of t;
      refreshed = world_of u;
      inodes = inodes;
      failure = fails_with touches;
      leases = subst (LeasesFail w (leases_of s) n (world_of t)) (sym leases_end) seen;
      drops = drops;
      others = λ k i away. dropping.area k i;
      adds = record {
        history = dropping.history ∙ ap (λ x. x.history) losing.same;
        limit = dropping.limit ∙ ap (λ x. x.limit) losing.same;
        hot = dropping.hot ∙ losing.hot ∙ failure_keeps s.nodes n s.clients (kept_at_failure w n) (length s.clients);
      };
    }

    happens_so : AreTouched (world_of t) inodes → Failing (observed s) n (failed_answer (losses_of w n)) (observed v)
    unfolding observed
    happens_so touches = is_failed may.fine refl (is_so touches)

    gives : AreTouched (world_of t) inodes → Gives s n v
    gives touches = record {
      happens = happens_so touches;
      holds = ∥∥₁_map may.holds (λ h. event_keeps (observed s) (observed v) (fail_event n) (failed_answer (losses_of w n)) h (happens_so touches));
      shape = dropping.shape;
      noted =
          still_noted t v (dropping.cuts ∙ ap (λ x. x.cuts) losing.same) (omega (arith, ap length dropping.clients, ap (λ x. length x.clients) losing.same))
          (λ c i. ap (λ l. is_revoked (lease_of (l.clients i) c)) (dropping.levels ∙ ap (λ x. x.levels) losing.same)) cut_noted;
    }

    pub is_refreshed : AreTouched (world_of t) inodes → IsRefreshed s n u
    is_refreshed touches = record {
      shape = losing.shape;
      sound = lost_sound;
      few = (let few = few_clients v (gives touches).holds in let same = ap length dropping.clients in omega (arith, same, few));
      gives = gives touches;
    }
