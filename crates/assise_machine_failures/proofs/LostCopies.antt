-- Nodes that lose their copies of what they may lack, one after another.
use Rattle.assise_machine_failures.proofs.Common.{◌≡◌, ◌≢◌, ℕ, zero, suc, ◌<◌, Bool, true, if◌then◌else◌, List, [], ◌∷◌, ◌++◌, take, drop, slice_index_or}
use Rattle.assise_machine_failures.proofs.Common.{arith, Option, Some, None, inl, inr, length, refl, ap, sym, subst, ◌∙◌, cases_eq, take-append-drop, nat_cmp}
use Rattle.assise_machine_failures.proofs.Common.{Among, Content, is_returning, stale_of, standing_of, Rests, LosesCopies, world_of, ShapeInvariant, StateValue}
use Rattle.assise_machine_failures.proofs.Common.{standings, hot_capacities, AllLose, AreReturning, LosesStale}
use Rattle.std.specs.FinSet as set
use Rattle.assise_machine_failures.proofs.DroppedCopies.{lost_count, lost_else, lost_here, lost_hot, lost_is, lost_rests, lost_shaped, rests_still}

-- all of the state is as it was but what nodes have that aren't full
pub record StillLosing (t u : StateValue) : Type 0 where
  pub same : u ≡ record t { nodes = u.nodes }
  pub hot : hot_capacities u.nodes ≡ hot_capacities t.nodes
  pub count : length u.nodes ≡ length t.nodes
  pub rests : Rests (world_of t) (world_of u)
  pub shape : ShapeInvariant u

-- node k lost its copies of what it may lack
pub record LosesAt (t : StateValue) (k : ℕ) (u : StateValue) : Type 0 where
  pub still : StillLosing t u
  pub here : (stale : set.FinSet nat_cmp) → stale_of (standing_of (standings t) k) ≡ Some stale → LosesCopies (world_of t) (world_of u) k stale
  pub elsewhere : (j i : ℕ) → j ≢ k → (world_of u).area j i ≡ (world_of t).area j i

-- these nodes did, one after another
abbrev pub AllLoseAt : StateValue → List ℕ → StateValue → Type 0
AllLoseAt t [] u = u ≡ t
AllLoseAt t (k ∷ ks) u = (v : StateValue) × (LosesAt t k v × AllLoseAt v ks u)

-- ---- what stays where nodes lose copies

pub still_same : (t : StateValue) → ShapeInvariant t → StillLosing t t
still_same t shape = assumption (rests_still (world_of t))

pub still_twice : (t v u : StateValue) → StillLosing t v → StillLosing v u → StillLosing t u
still_twice t v u a b = grind arith

pub all_still : (t : StateValue) (ks : List ℕ) (u : StateValue) → ShapeInvariant t → AllLoseAt t ks u → StillLosing t u
all_still t [] u shape lose = subst (StillLosing t) (sym lose) (still_same t shape)
all_still t (k ∷ ks) u shape (v, (first, rest)) = still_twice t v u first.still (all_still v ks u first.still.shape rest)

-- ---- and what each has then

abbrev lost : Bool → Option Content → Option Content
lost gone had = if gone then None else had

lost_twice : (gone : Bool) (had : Option Content) → lost gone (lost gone had) ≡ lost gone had
lost_twice gone had = grind arith

-- what it may lack is the same after each
same_stale : (t v : StateValue) (k : ℕ) (stale : set.FinSet nat_cmp) → StillLosing t v → stale_of (standing_of (standings t) k) ≡ Some stale →
    stale_of (standing_of (standings v) k) ≡ Some stale
same_stale t v k stale still is = ap (λ x. stale_of (standing_of (standings x) k)) still.same ∙ is

lost_now : (t v : StateValue) (j k i : ℕ) (stale : set.FinSet nat_cmp) → LosesAt t j v → k ≡ j → stale_of (standing_of (standings t) k) ≡ Some stale →
    (world_of v).area k i ≡ lost (set.contains stale i) ((world_of t).area k i)
lost_now t v j k i stale loses same is = rw same (loses.here stale (rw same at is) i)

-- a node that lost its copies has lost them in the end
keeps_lost : (t : StateValue) (ks : List ℕ) (u : StateValue) (k i : ℕ) (stale : set.FinSet nat_cmp) (had : Option Content) → AllLoseAt t ks u →
    stale_of (standing_of (standings t) k) ≡ Some stale →
    (world_of t).area k i ≡ lost (set.contains stale i) had → (world_of u).area k i ≡ lost (set.contains stale i) had
keeps_lost t [] u k i stale had lose is before = ap (λ s. (world_of s).area k i) lose ∙ before
keeps_lost t (j ∷ ks) u k i stale had (v, (first, rest)) is before =
    keeps_lost v ks u k i stale had rest (same_stale t v k stale first.still is)
    (elim (cases_eq k j) [
      | inl same ↦ lost_now t v j k i stale first same is ∙ ap (lost (set.contains stale i)) before ∙ lost_twice (set.contains stale i) had
      | inr other ↦ first.elsewhere k i other ∙ before
    ])

pub one_loses : (t : StateValue) (ks : List ℕ) (u : StateValue) (k i : ℕ) (stale : set.FinSet nat_cmp) → AllLoseAt t ks u → Among ks k →
    stale_of (standing_of (standings t) k) ≡ Some stale →
    (world_of u).area k i ≡ (if set.contains stale i then None else (world_of t).area k i)
one_loses t [] u k i stale lose there is = elim there [ ]
one_loses t (j ∷ ks) u k i stale (v, (first, rest)) there is =
    elim (cases_eq k j) [
      | inl same ↦
          grind (arith, keeps_lost)
      | inr other ↦
          one_loses v ks u k i stale rest (elim there [ inl same ↦ absurd (other same) | inr later ↦ later ]) (same_stale t v k stale first.still is)
          ∙ ap (lost (set.contains stale i)) (first.elsewhere k i other)
    ]

pub others_stay : (t : StateValue) (ks : List ℕ) (u : StateValue) (k i : ℕ) → AllLoseAt t ks u → (Among ks k → ⊥) →
    (world_of u).area k i ≡ (world_of t).area k i
others_stay t [] u k i lose none = ap (λ s. (world_of s).area k i) lose
others_stay t (j ∷ ks) u k i (v, (first, rest)) none = others_stay v ks u k i rest (λ later. none (inr later)) ∙ first.elsewhere k i (λ same. none (inl same))

-- ---- as the code has it

-- what is returning stays so
still_returning : (t v : StateValue) (ks : List ℕ) → v ≡ record t { nodes = v.nodes } → AreReturning t ks → AreReturning v ks
still_returning t v [] same are = tt
still_returning t v (k ∷ ks) same (first, rest) = (ap (λ x. is_returning (standing_of (standings x) k)) same ∙ first, still_returning t v ks same rest)

pub loses_at : (t : StateValue) (k : ℕ) (v : StateValue) → ShapeInvariant t → is_returning (standing_of (standings t) k) ≡ true →
    LosesStale t k v → LosesAt t k v
loses_at t k v shape is loses = search (lost_is, lost_hot, lost_count, lost_rests, lost_shaped, lost_here, lost_else, arith) parts 3

pub all_at : (t : StateValue) (ks : List ℕ) (u : StateValue) → ShapeInvariant t → AreReturning t ks → AllLose t ks u → AllLoseAt t ks u
all_at t [] u shape are lose = lose
all_at t (k ∷ ks) u shape (first, rest) (v, (loses, more)) =
    let at : LosesAt t k v = loses_at t k v shape first loses in
    (v, (at, all_at v ks u at.still.shape (still_returning t v ks at.still.same rest) more))

-- one more, behind the others
pub lose_more : (t v u : StateValue) (ks : List ℕ) (k : ℕ) → AllLose t ks v → LosesStale v k u → AllLose t (ks ++ k ∷ []) u
lose_more t v u [] k all one = (u, (subst (λ s. LosesStale s k u) all one, refl))
lose_more t v u (j ∷ ks) k (s, (first, rest)) one = (s, (first, lose_more s v u ks k rest one))

-- what some that come back have lost leaves all of them so
some_at : (t v : StateValue) (ks js : List ℕ) → ShapeInvariant t → AreReturning t (ks ++ js) → AllLose t ks v → AllLoseAt t ks v
some_at t v ks js shape are lose = all_at t ks v shape (prefix_returning t ks js are) lose
  where
    prefix_returning : (t : StateValue) (ks js : List ℕ) → AreReturning t (ks ++ js) → AreReturning t ks
    prefix_returning t [] js are = tt
    prefix_returning t (k ∷ ks) js (first, rest) = (first, prefix_returning t ks js rest)

module _ (t v : StateValue) (ks : List ℕ) (count : ℕ) (shape : ShapeInvariant t) (are : AreReturning t ks) (lose : AllLose t (take count ks) v) where
  losing_some : StillLosing t v
  losing_some = all_still t (take count ks) v shape
      (some_at t v (take count ks) (drop count ks) shape (subst (AreReturning t) (sym (take-append-drop count ks)) are) lose)

  pub some_shaped : ShapeInvariant v
  some_shaped = losing_some.shape

  one_returning : (ks : List ℕ) (i : ℕ) → AreReturning v ks → i < length ks → is_returning (standing_of (standings v) (slice_index_or ks i 0)) ≡ true
  one_returning [] i are low = absurd (omega (arith, low))
  one_returning (k ∷ ks) zero (first, rest) low = first
  one_returning (k ∷ ks) (suc i) (first, rest) low = one_returning ks i rest (omega (arith, low))

  pub next_returning : (i : ℕ) → i < length ks → is_returning (standing_of (standings v) (slice_index_or ks i 0)) ≡ true
  next_returning i low = one_returning ks i (still_returning t v ks losing_some.same are) low
