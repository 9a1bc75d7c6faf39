-- A node that was coming back and is down again, as the laws have it.
use Rattle.assise_machine_failures.proofs.Common.{◌≡◌, ℕ, true, List, [], ◌∷◌, ◌++◌, Option, Some, None, Ok, Err, length, refl, sym, subst, arith, true≢false}
use Rattle.assise_machine_failures.proofs.Common.{∥∥₁_map, Refusal, WrongPhase, Loss, EntryValue, fails, failed, failed_as, failure_fault_of, is_returning}
use Rattle.assise_machine_failures.proofs.Common.{Membership, Standing, down, full, phase_of, returning, standing_of, Rests, fail_event, failed_answer}
use Rattle.assise_machine_failures.proofs.Common.{MachineInvariant, Failing, IsFailedAgain, is_failed_again, event_keeps, after_members, is_full_in, observed}
use Rattle.assise_machine_failures.proofs.Common.{own_seen, world_of, CutsInvariant, ShapeInvariant, StateValue, leases_of, standings, still_noted}
use Rattle.assise_machine_failures.proofs.Common.{members_rest, members_shaped, full_as, full_else, full_here, same_count}
use Rattle.std.specs.FinSet as set
use Rattle.assise_history.proofs.Shared.ClientCounts.{durability-still}
use Rattle.assise_manager.specs.declared.phase.Phase.TheVariants.{Down}
use Rattle.assise_model_history.proofs.Shared.NumberedCalls.{kept_fail_none}

-- ---- how it stood

pub bad_node : (m : Membership) (o : Option Standing) (e : Refusal) → phase_of o ≡ Err e → failure_fault_of m o ≡ Some e
bad_node m o e is = grind arith

pub down_fault : (m : Membership) (o : Option Standing) → phase_of o ≡ Ok Down → failure_fault_of m o ≡ Some WrongPhase
down_fault m o is = grind arith

pub back_fine : (m : Membership) (o : Option Standing) → is_returning o ≡ true → failure_fault_of m o ≡ None
back_fine m o is = grind arith

-- ---- the same are full

module _ (m : Membership) (n : ℕ) where
  abbrev left : Option Standing → List Standing
  left o = (failed_as m n set.empty o).nodes

  as_many : (o : Option Standing) → is_returning o ≡ true → length (left o) ≡ length m.nodes
  as_many o is = grind (arith, same_count)

  full_still : (o : Option Standing) → standing_of m.nodes n ≡ o → is_returning o ≡ true → (k : ℕ) → is_full_in (left o) k ≡ is_full_in m.nodes k
  full_still None at is k = absurd (true≢false (sym is))
  full_still (Some full) at is k = absurd (true≢false (sym is))
  full_still (Some (down since)) at is k = absurd (true≢false (sym is))
  full_still (Some (returning since donor stale)) at is k = grind (arith, full_here, full_as, full_else)

-- ---- it fails

-- node n comes back, in a state where all invariants hold
pub record WasReturning (s : StateValue) (n : ℕ) : Type 0 where
  pub holds : ∥ MachineInvariant (observed s) ∥₁
  pub shape : ShapeInvariant s
  pub noted : CutsInvariant s
  pub returning : is_returning (standing_of (standings s) n) ≡ true

module _ {s : StateValue} {n : ℕ} (was : WasReturning s n) where
  abbrev m : Membership
  m = failed s.members n set.empty

  abbrev u : StateValue
  u = after_members s m

  abbrev t : StateValue
  t = record u { history = s.history ++ fails n [] ∷ [] }

  long : length m.nodes ≡ length (standings s)
  long = as_many s.members n (standing_of (standings s) n) was.returning

  same : (k : ℕ) → is_full_in m.nodes k ≡ is_full_in (standings s) k
  same = full_still s.members n (standing_of (standings s) n) refl was.returning

  -- the entry takes no call
  same_world : world_of t ≡ world_of u
  unfolding world_of own_seen leases_of
  same_world = (λ i. record (world_of u) { calls = kept_fail_none s.history n i })

  rests : Rests (world_of s) (world_of t)
  rests = subst (Rests (world_of s)) (sym same_world) (members_rest s m long same)

  fails_again : IsFailedAgain (observed s) n (observed t)
  unfolding observed world_of leases_of
  fails_again = assumption rests

  again_happens : Failing (observed s) n (failed_answer []) (observed t)
  unfolding observed
  again_happens = is_failed_again (back_fine s.members (standing_of (standings s) n) was.returning) refl fails_again

  again_holds : ∥ MachineInvariant (observed t) ∥₁
  again_holds = ∥∥₁_map was.holds (λ h. event_keeps (observed s) (observed t) (fail_event n) (failed_answer []) h again_happens)

  again_shaped : ShapeInvariant t
  unfolding own_seen
  again_shaped = grind (arith, members_shaped, long, same, durability-still)

  again_noted : CutsInvariant t
  again_noted = still_noted s t refl (omega arith) (λ c i. refl) was.noted

-- ---- as the code has it

-- the membership and the history once node n is down again
pub record IsDownAgain (s : StateValue) (n : ℕ) (now : Membership) (h : List EntryValue) : Type 0 where
  pub was : WasReturning s n
  pub members : now ≡ failed s.members n (set.from_list [])
  pub told : h ≡ s.history ++ fails n [] ∷ []

module _ {s : StateValue} {n : ℕ} {now : Membership} {h : List EntryValue} (down_again : IsDownAgain s n now h) where
  abbrev x : StateValue
  x = record s { members = now; history = h }

  so : x ≡ t down_again.was
  so = (λ i. record s { members = down_again.members i; history = down_again.told i })

  pub happens_again : (answer : List Loss) → answer ≡ [] → Failing (observed s) n (failed_answer answer) (observed x)
  happens_again answer none = grind (arith, again_happens down_again.was)

  pub holds_again : ∥ MachineInvariant (observed x) ∥₁
  holds_again = subst (λ y. ∥ MachineInvariant (observed y) ∥₁) (sym so) (again_holds down_again.was)

  pub shaped_again : ShapeInvariant x
  shaped_again = subst ShapeInvariant (sym so) (again_shaped down_again.was)

  pub noted_again : CutsInvariant x
  noted_again = subst CutsInvariant (sym so) (again_noted down_again.was)
