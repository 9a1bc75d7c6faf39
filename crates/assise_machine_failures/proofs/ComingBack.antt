-- A node that was down begins to come back, as the laws have it.
use Rattle.assise_machine_failures.proofs.Common.{◌≡◌, List, false, ℕ, true, if◌then◌else◌, length, Option, Some, None, inl, inr, refl, ap, sym, subst, ◌∙◌}
use Rattle.assise_machine_failures.proofs.Common.{append-nil, arith, option_map, nat_cmp, none-some, same_Some, Refusal, back, back_as, is_returning}
use Rattle.assise_machine_failures.proofs.Common.{return_fault, stale_of, Membership, lowest_full, written_since, Standing, down, is_full, returning}
use Rattle.assise_machine_failures.proofs.Common.{standing_of, with_standing, BeginsReturn, down_is, set_here, Answer, began, refused, IsBack, Returning}
use Rattle.assise_machine_failures.proofs.Common.{count_of, stale_at, after_members, is_full_in, observed, world_of, CutsInvariant, ShapeInvariant, StateValue}
use Rattle.assise_machine_failures.proofs.Common.{leases_of, standings, members_areas, members_rest, members_shaped, full_as, full_else, full_here, same_count}
use Rattle.assise_machine_failures.proofs.Common.{LosesStale}
use Rattle.std.specs.FinSet as set
use Rattle.assise_model_events.specs.MemberEvents.Returning.{is_back, is_refused, lacks_memory}
use Rattle.assise_machine_failures.proofs.DroppedCopies.{lost_else, lost_here, lost_hot, lost_is, lost_rests, lost_shaped, rests_more}
use Rattle.assise_machine_failures.proofs.Shared.RefusedFailures.{IsFaultOr, same_after}

-- ---- it is refused

pub back_refused : (s : StateValue) (n : ℕ) (m : Membership) (e : Refusal) (a : Answer) → m ≡ s.members → a ≡ refused e →
    IsFaultOr (return_fault s.members n) e →
    Returning (observed s) n a (observed (after_members s m))
unfolding observed
back_refused s n m e a same is (inl (fine, memory)) = lacks_memory fine (is ∙ ap refused memory) (ap observed (same_after s m same))
back_refused s n m e a same is (inr fault) = is_refused e fault is (ap observed (same_after s m same))

-- ---- a node that isn't full stands otherwise, not full

pub still_full : (nodes : List Standing) (n : ℕ) (old now : Standing) → standing_of nodes n ≡ Some old → is_full old ≡ false → is_full now ≡ false →
    (k : ℕ) → is_full_in (with_standing nodes n now) k ≡ is_full_in nodes k
still_full nodes n old now stands was is k = grind (arith, full_here, full_as, full_else)

-- ---- a node stands down

-- how many inodes it may lack
pub counted : (o : Option (set.FinSet nat_cmp)) (n : ℕ) → option_map set.len o ≡ Some n → n ≡ count_of o
counted o n is = grind (arith, none-some, same_Some)

-- node n was down, and begins to come back: m is the membership then
pub record IsComing (s : StateValue) (n : ℕ) (m : Membership) : Type 0 where
  pub shape : ShapeInvariant s
  pub fine : return_fault s.members n ≡ None
  pub members : m ≡ back s.members n

module _ {s : StateValue} {n : ℕ} {m : Membership} (comes : IsComing s n m) where
  abbrev since : ℕ
  since = (down_is (standing_of (standings s) n) comes.fine).0

  stands : standing_of (standings s) n ≡ Some (down since)
  stands = (down_is (standing_of (standings s) n) comes.fine).1

  abbrev now : Standing
  now = returning since (lowest_full (standings s)) (written_since s.members since)

  nodes_are : m.nodes ≡ (back_as s.members n (Some (down since))).nodes
  nodes_are = ap (λ o. o.nodes) comes.members ∙ ap (λ o. (back_as s.members n o).nodes) stands

  as_many : length m.nodes ≡ length (standings s)
  as_many = ap length nodes_are ∙ same_count (standings s) n now

  stands_now : standing_of m.nodes n ≡ Some now
  stands_now = ap (λ nodes. standing_of nodes n) nodes_are ∙ set_here (standings s) n (down since) now stands

  as_full : (k : ℕ) → is_full_in m.nodes k ≡ is_full_in (standings s) k
  as_full k = ap (λ nodes. is_full_in nodes k) nodes_are ∙ still_full (standings s) n (down since) now stands refl refl k

  abbrev t : StateValue
  t = after_members s m

  pub back_returning : is_returning (standing_of m.nodes n) ≡ true
  back_returning = ap is_returning stands_now

  pub back_shaped : ShapeInvariant t
  back_shaped = members_shaped s m comes.shape as_many as_full

  module _ {u : StateValue} (lost : LosesStale t n u) where
    rest_is : u ≡ record t { nodes = u.nodes }
    rest_is = lost_is t n u back_shaped back_returning lost

    node_back : BeginsReturn (world_of s) s.members n (world_of u) u.members
    node_back = record {
      fine = comes.fine;
      members = ap (λ v. v.members) rest_is ∙ comes.members;
      rests = rests_more (world_of s) (world_of t) (world_of u) (members_rest s m as_many as_full) (lost_rests t n u back_shaped back_returning lost);
      area_here = λ stale known i.
          lost_here t n u back_shaped back_returning lost stale (ap (λ o. stale_of (standing_of o.nodes n)) (sym (ap (λ v. v.members) rest_is)) ∙ known) i
          ∙ ap (λ x. if set.contains stale i then None else x) (members_areas s m n i);
      area_else = λ k i other. lost_else t n u back_shaped back_returning lost k i other ∙ members_areas s m k i;
    }

    is_so : IsBack (observed s) n (observed u)
    unfolding observed leases_of
    is_so = record {
      comes = node_back;
      leases = ap leases_of rest_is;
      adds = record {
        history = ap (λ v. v.history) rest_is ∙ sym (append-nil s.history);
        limit = ap (λ v. v.limit) rest_is;
        hot =
            lost_hot t n u back_shaped back_returning lost;
      };
    }

    pub back_happens : (count : ℕ) → option_map set.len (stale_of (standing_of m.nodes n)) ≡ Some count → Returning (observed s) n (began count) (observed u)
    unfolding observed
    back_happens count some =
        let same : count ≡ stale_at u.members n = counted (stale_of (standing_of m.nodes n)) count some
        ∙ ap (λ o. stale_at o n) (sym (ap (λ v. v.members) rest_is)) in
        is_back comes.fine (ap began same) is_so

    pub back_left : ShapeInvariant u
    back_left = lost_shaped t n u back_shaped back_returning lost

    pub back_noted : CutsInvariant s → CutsInvariant u
    back_noted noted = subst CutsInvariant (sym rest_is) (record { once = noted.once; known = noted.known; noted = noted.noted })
