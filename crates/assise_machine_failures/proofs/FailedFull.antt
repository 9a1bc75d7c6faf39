-- A full node that failed, as the code lists and does it.
use Rattle.assise_machine_failures.proofs.Common.{◌≡◌, ◌≢◌, ℕ, suc, ◌+◌, ◌<◌, true, List, [], ◌∷◌, Option, Some, None, inl, inr, length, map, take}
use Rattle.assise_machine_failures.proofs.Common.{slice_index_or, refl, ap, sym, subst, ◌∙◌, arith, eq-eqb, option_map, cases_Bool, ne_eqb, take_all, nat_cmp}
use Rattle.assise_machine_failures.proofs.Common.{Refusal, LastNode, OutOfMemory, Among, TwoLevels, donor_of, failed, failure_fault, failure_fault_of}
use Rattle.assise_machine_failures.proofs.Common.{is_returning, refilled_from, Membership, Standing, full, full_nodes, down, standing_of, mapped_at, set_else}
use Rattle.assise_machine_failures.proofs.Common.{Answer, failed_answer, refused, Failing, is_refused, lacks_memory, after_failure, drops_to, observed}
use Rattle.assise_machine_failures.proofs.Common.{world_of, ShapeInvariant, StateValue, standings, loss_of, AllLose, AreReturning, LosesStale}
use Rattle.std.proofs.Math.Seq.{take-suc}
use Rattle.std.specs.FinSet as set
use Rattle.assise_machine_failures.specs.declared.failure.Failure.{Failure}
use Rattle.assise_machine_failures.specs.Failures.{RevokesBelow, IsListed}
use Rattle.assise_machine_failures.proofs.Failed.{AreFilled, AreTouched, RevokesBelow as Revokes, Gives, IsCut, IsRefreshed, MayFail, is_cut, is_refreshed}
use Rattle.assise_machine_failures.proofs.Listed.{filled_all, filled_only, touched_all, touched_only}
use Rattle.assise_machine_failures.proofs.LostCopies.{all_at, lose_more}

-- ---- what is wrong about it

module _ (m : Membership) (n : ℕ) (counted : List ℕ) (stands : standing_of m.nodes n ≡ Some full) (is : counted ≡ full_nodes m.nodes) where
  -- the one full node that was counted can't fail
  pub last_fault : length counted ≡ 1 → failure_fault m n ≡ Some LastNode
  last_fault one = ap (failure_fault_of m) stands ∙ rw (eq-eqb (length (full_nodes m.nodes)) 1 (sym (ap length is) ∙ one)) refl

  -- where others were counted too, it may
  pub no_fault : length counted ≢ 1 → failure_fault m n ≡ None
  no_fault more = ap (failure_fault_of m) stands ∙ rw (ne_eqb (length (full_nodes m.nodes)) 1 (λ one. more (ap length is ∙ one))) refl

pub refused_as : (s : StateValue) (n : ℕ) (r : Refusal) (a : Answer) → failure_fault s.members n ≡ Some r → a ≡ refused r →
    Failing (observed s) n a (observed s)
unfolding observed
refused_as s n r a fault is = is_refused r fault is refl

pub lacks_so : (s t : StateValue) (n : ℕ) (a : Answer) → failure_fault s.members n ≡ None → a ≡ refused OutOfMemory → t ≡ s →
    Failing (observed s) n a (observed t)
unfolding observed
lacks_so s t n a fine is same = lacks_memory fine is (ap observed same)

-- ---- who is filled from the node comes back still

back_still : (written : ℕ → set.FinSet nat_cmp) (low n : ℕ) (o : Option Standing) → donor_of o ≡ Some n →
    is_returning (option_map (refilled_from written low n) o) ≡ true
back_still written low n o is = grind (arith, cases_Bool)

module _ (m : Membership) (n : ℕ) (inodes : set.FinSet nat_cmp) (stands : standing_of m.nodes n ≡ Some full) where
  other : (k : ℕ) → donor_of (standing_of m.nodes k) ≡ Some n → k ≢ n
  other k from same = absurd (let bad : ◌≡◌ {A = Option ℕ} None (Some n) = sym (ap donor_of (ap (standing_of m.nodes) same ∙ stands)) ∙ from in cc)

  filled_back : (k : ℕ) → donor_of (standing_of m.nodes k) ≡ Some n → is_returning (standing_of (failed m n inodes).nodes k) ≡ true
  filled_back k from = grind (arith, mapped_at, set_else)

all_back : (t : StateValue) (ks : List ℕ) → ((k : ℕ) → Among ks k → is_returning (standing_of (standings t) k) ≡ true) → AreReturning t ks
all_back t [] each = tt
all_back t (k ∷ ks) each = (each k (inl refl), all_back t ks (λ j there. each j (inr there)))

-- ---- copies that go, node by node

-- the loop's copies are those of all nodes
pub lose_all : (t u : StateValue) (ks : List ℕ) (count : ℕ) → count ≡ length ks → AllLose t (take count ks) u → AllLose t ks u
lose_all t u ks count all lose = subst (λ l. AllLose t l u) (ap (λ k. take k ks) all ∙ take_all (length ks) ks (omega arith)) lose

-- one node more
pub lose_next : (t v u : StateValue) (ks : List ℕ) (count : ℕ) → count < length ks → AllLose t (take count ks) v →
    LosesStale v (slice_index_or ks count 0) u → AllLose t (take (count + 1) ks) u
lose_next t v u ks count few all one =
    let next : suc count ≡ count + 1 = omega arith in
    subst (λ l. AllLose t l u) (sym (take-suc ks count 0 few) ∙ ap (λ k. take k ks) next)
    (lose_more t v u (take count ks) (slice_index_or ks count 0) all one)

-- ---- what is known, step by step

-- the node is taken down as listed: t is the state then, and ks are the nodes that were filled from it
pub record IsTakenDown (s : StateValue) (n : ℕ) (f : Failure) (t : StateValue) (ks : List ℕ) : Type 0 where
  pub may : MayFail s n
  pub listed : IsListed s n f
  pub levels : TwoLevels
  pub revoked : RevokesBelow s.levels levels n
  pub down : t ≡ after_failure s n (set.from_list f.inodes.items) levels f.asked.items
  pub filled : ks ≡ f.filled.items

-- then all nodes that were filled from it have lost their copies, and u is the state
pub record AreCopiesDropped (s : StateValue) (n : ℕ) (f : Failure) (u : StateValue) : Type 0 where
  pub taken : StateValue
  pub nodes : List ℕ
  pub is_down : IsTakenDown s n f taken nodes
  pub lose : AllLose taken nodes u

-- then the prefixes of all clients are dropped, and x is the state
pub record ArePrefixesDropped (s : StateValue) (n : ℕ) (f : Failure) (x : StateValue) : Type 0 where
  pub refreshed : StateValue
  pub copies : AreCopiesDropped s n f refreshed
  pub last : ℕ
  pub all : last ≡ length refreshed.clients
  pub drops : x ≡ drops_to refreshed last

-- ---- what follows from the failure as it was listed

module _ (s : StateValue) (n : ℕ) (f : Failure) (levels : TwoLevels) (may : MayFail s n) (listed : IsListed s n f)
    (revoked : RevokesBelow s.levels levels n) where
  abbrev inodes : set.FinSet nat_cmp
  inodes = set.from_list f.inodes.items

  abbrev t : StateValue
  t = after_failure s n inodes levels f.asked.items

  revokes : Revokes s n levels f.asked.items
  revokes = record { home = revoked.home; clients = revoked.clients; nodes = revoked.nodes; left = listed.asked }

  cut : IsCut s n t
  cut = is_cut s n inodes levels f.asked.items may revokes

  touches : AreTouched (world_of t) inodes
  touches = grind (
    arith,
    touched_only s n (world_of t) f.inodes.items listed.inodes cut.fails.records,
    touched_all s n
        (world_of t) f.inodes.items listed.inodes cut.fails.records may.shape,
  )

  filled : AreFilled s n f.filled.items
  filled = record { only = filled_only s n f.filled.items listed.filled; all = filled_all s n f.filled.items listed.filled may.shape }

  down_shaped : ShapeInvariant t
  down_shaped = cut.shape

  filled_returning : AreReturning t f.filled.items
  filled_returning = all_back t f.filled.items (λ k there. filled_back s.members n inodes may.stands k (filled.only k there))

  all_refreshed : (u : StateValue) → AllLose t f.filled.items u → IsRefreshed s n u
  all_refreshed u lose =
      is_refreshed s n inodes levels f.asked.items may revokes f.filled.items u filled (all_at t f.filled.items u cut.shape filled_returning lose) touches

-- ---- the same, by the states that the code comes to

module _ {s : StateValue} {n : ℕ} {f : Failure} where
  pub returning_now : {t : StateValue} {ks : List ℕ} → IsTakenDown s n f t ks → AreReturning t ks
  returning_now {t} {ks} d = grind (arith, filled_returning s n f d.levels d.may d.listed d.revoked)

  pub shaped_now : {t : StateValue} {ks : List ℕ} → IsTakenDown s n f t ks → ShapeInvariant t
  shaped_now d = subst ShapeInvariant (sym d.down) (down_shaped s n f d.levels d.may d.listed d.revoked)

  pub refreshed_now : {u : StateValue} → AreCopiesDropped s n f u → IsRefreshed s n u
  refreshed_now {u} c = grind (arith, all_refreshed)

  pub given_now : {x : StateValue} → ArePrefixesDropped s n f x → Gives s n x
  given_now d = subst (Gives s n) (sym (d.drops ∙ ap (drops_to d.refreshed) d.all)) (refreshed_now d.copies).gives

  -- the answer tells what was listed as lost
  pub happens_now : {x : StateValue} (losses : List (ℕ × ℕ)) → ArePrefixesDropped s n f x → losses ≡ f.losses.items →
      Failing (observed s) n (failed_answer (map loss_of losses)) (observed x)
  happens_now {x} losses d is = grind (arith, given_now)
