-- How nodes stand before and after a change.
use Rattle.assise_model_members.proofs.Common.{Bool, ◌≡◌, ◌≢◌, ◌⊎◌, inl, inr, ℕ, zero, suc, ◌+◌, ◌-◌, ◌<◌, true, false, cond, Option, Some, None, List, [], ◌∷◌}
use Rattle.assise_model_members.proofs.Common.{map, length, refl, sym, ap, ◌∙◌, arith, eq-eqb, ◌==◌, list_all, list_any, slice_get, slice_set, slice_index_or}
use Rattle.assise_model_members.proofs.Common.{option_map, nat_cmp, len-empty, cases_eq, or_left, or_right, ne_eqb, cond_both, both_ways, false_from_ne_true}
use Rattle.assise_model_members.proofs.Common.{none-some, same_Some, slice_get-map, contains, since_of, BadNode, Busy, WrongPhase, LastNode, fulls}
use Rattle.assise_model_members.proofs.Common.{refilled_from, stale_again, donor_of, stale_of, is_returning, failure_fault, failure_fault_of, return_fault_of}
use Rattle.assise_model_members.proofs.Common.{join_fault_of, Membership, IsMembership, first_listed, lowest_full, Standing, standing_of, with_standing}
use Rattle.assise_model_members.proofs.Common.{full_from, full_nodes, is_full, full, down, returning, down_listed, return_listed, list_there}
use Rattle.std.specs.FinSet as set
use Rattle.assise_names.specs.declared.refusal.Refusal.{Refusal}
use Rattle.assise_manager.proofs.Shared.Nodes.{never, full_there, first_there, others_stay, one_full_less, slice_get_set, full_from_map, list_all_place}

-- ---- places

less_one : (n : ℕ) → suc n - 1 ≡ n
less_one n = omega arith

-- each node is changed
pub mapped_at : (f : Standing → Standing) (nodes : List Standing) (k : ℕ) → standing_of (map f nodes) k ≡ option_map f (standing_of nodes k)
mapped_at f nodes zero = refl
mapped_at f nodes (suc place) = slice_get-map f nodes place

get_else : (xs : List Standing) (i j : ℕ) (s : Standing) → j ≢ i → slice_get (slice_set xs i s) j ≡ slice_get xs j
get_else [] i j s other = refl
get_else (x ∷ xs) zero zero s other = absurd (other refl)
get_else (x ∷ xs) zero (suc j) s other = refl
get_else (x ∷ xs) (suc i) zero s other = refl
get_else (x ∷ xs) (suc i) (suc j) s other = get_else xs i j s (λ e. other (ap suc e))

-- one node is changed
pub set_here : (nodes : List Standing) (n : ℕ) (old s : Standing) → standing_of nodes n ≡ Some old → standing_of (with_standing nodes n s) n ≡ Some s
set_here nodes zero old s at = absurd (none-some old at)
set_here nodes (suc place) old s at = ap (λ i. slice_get (slice_set nodes i s) place) (less_one place) ∙ slice_get_set nodes place old s at

pub set_else : (nodes : List Standing) (n k : ℕ) (old s : Standing) → standing_of nodes n ≡ Some old → k ≢ n →
    standing_of (with_standing nodes n s) k ≡ standing_of nodes k
set_else nodes n k old s at other = grind (arith, none-some, less_one, get_else)

-- ---- full nodes

full_in : (k : ℕ) (xs : List Standing) (i : ℕ) (n : ℕ) → slice_get xs i ≡ Some full → n ≡ k + i → list_any (λ j. j == n) (full_from k xs) ≡ true
full_in k [] i n at e = absurd (none-some full at)
full_in k (full ∷ xs) zero n at e = or_left (k == n) (list_any (λ j. j == n) (full_from (suc k) xs)) (eq-eqb k n (omega arith))
full_in k (down since ∷ xs) zero n at e = never (ap is_full (same_Some (down since) full at))
full_in k (returning since donor stale ∷ xs) zero n at e = never (ap is_full (same_Some (returning since donor stale) full at))
full_in k (full ∷ xs) (suc i) n at e = or_right (k == n) (list_any (λ j. j == n) (full_from (suc k) xs)) (full_in (suc k) xs i n at (omega arith))
full_in k (down since ∷ xs) (suc i) n at e = full_in (suc k) xs i n at (omega arith)
full_in k (returning since donor stale ∷ xs) (suc i) n at e = full_in (suc k) xs i n at (omega arith)

-- the list of full nodes has those that stand so, and no other
pub full_listed : (nodes : List Standing) (n : ℕ) → standing_of nodes n ≡ Some full → contains (full_nodes nodes) n ≡ true
full_listed nodes zero at = absurd (none-some full at)
full_listed nodes (suc place) at = full_in 1 nodes place (suc place) at (omega arith)

pub listed_full : (nodes : List Standing) (n : ℕ) → contains (full_nodes nodes) n ≡ true → standing_of nodes n ≡ Some full
listed_full nodes n there = grind (arith, full_there)

pub lowest_stands : (nodes : List Standing) → 0 < length (full_nodes nodes) → standing_of nodes (lowest_full nodes) ≡ Some full
lowest_stands nodes some = listed_full nodes (lowest_full nodes) (first_there (full_nodes nodes) some)

some_in : (xs : List ℕ) (k : ℕ) → contains xs k ≡ true → 0 < length xs
some_in [] k there = never there
some_in (x ∷ xs) k there = omega arith

-- two full nodes: the one's failure isn't refused
pub may_fail_beside : (m : Membership) (n k : ℕ) → standing_of m.nodes n ≡ Some full → standing_of m.nodes k ≡ Some full → k ≢ n → failure_fault m n ≡ None
may_fail_beside m zero k at there other = absurd (none-some full at)
may_fail_beside m (suc place) k at there other =
    let rest : List ℕ = full_from 1 (slice_set m.nodes place (down 0)) in
    let some : 0 < length rest = some_in rest k (others_stay 1 k m.nodes place (down 0) refl (full_listed m.nodes k there) (λ e. other (omega (arith, e)))) in
    let less : length rest + 1 ≡ length (full_nodes m.nodes) = one_full_less 1 m.nodes place (down 0) refl at in
    ap (failure_fault_of m) at
    ∙ ap (λ b. cond b (Some LastNode) None) (ne_eqb (length (full_nodes m.nodes)) 1 (λ e. absurd (omega (arith, some, less, e))))

-- ---- one standing

abbrev is_busy : Option Refusal → Bool
is_busy None = false
is_busy (Some BadNode) = false
is_busy (Some Busy) = true
is_busy (Some r) = false

pub away_not_full : (o : Option Standing) (since : ℕ) → since_of o ≡ Some since → o ≢ Some full
away_not_full o since at is = none-some since (sym (ap since_of is) ∙ at)

pub cases_donor : (o : Option ℕ) (n : ℕ) → (o ≡ Some n) ⊎ (o ≢ Some n)
cases_donor None n = inr (none-some n)
cases_donor (Some d) n = elim (cases_eq d n) [ inl is ↦ inl (ap Some is) | inr other ↦ inr (λ e. other (same_Some d n e)) ]

pub full_no_donor : (o : Option Standing) (n : ℕ) → o ≡ Some full → donor_of o ≢ Some n
full_no_donor o n at e = none-some n (sym (ap donor_of at) ∙ e)

-- a node that is filled from n
pub filled_from : (o : Option Standing) (n : ℕ) → donor_of o ≡ Some n → (since : ℕ) × (stale : set.FinSet nat_cmp) × (o ≡ Some (returning since n stale))
filled_from None n e = absurd (none-some n e)
filled_from (Some full) n e = absurd (none-some n e)
filled_from (Some (down since)) n e = absurd (none-some n e)
filled_from (Some (returning since donor stale)) n e = (since, stale, ap (λ d. Some (returning since d stale)) (same_Some donor n e))

-- a node that comes back
pub returning_is : (o : Option Standing) → is_returning o ≡ true → (since donor : ℕ) × (stale : set.FinSet nat_cmp) × (o ≡ Some (returning since donor stale))
returning_is None e = never e
returning_is (Some full) e = never e
returning_is (Some (down since)) e = never e
returning_is (Some (returning since donor stale)) e = (since, donor, stale, refl)

pub lacks_is : (o : Option Standing) (stale : set.FinSet nat_cmp) → stale_of o ≡ Some stale → (since donor : ℕ) × (o ≡ Some (returning since donor stale))
lacks_is o stale e = grind (arith, none-some, same_Some)

-- a node that was down, whose return isn't refused
pub down_is : (o : Option Standing) → return_fault_of o ≡ None → (since : ℕ) × (o ≡ Some (down since))
down_is o e = grind (arith, none-some)

-- a node whose joining isn't refused
pub returning_may_join : (o : Option Standing) → join_fault_of o ≡ None → (since donor : ℕ) × (stale : set.FinSet nat_cmp)
    × (o ≡ Some (returning since donor stale))
returning_may_join None e = absurd (none-some BadNode (sym e))
returning_may_join (Some full) e = absurd (none-some WrongPhase (sym e))
returning_may_join (Some (down since)) e = absurd (none-some WrongPhase (sym e))
returning_may_join (Some (returning since donor stale)) e = (since, donor, stale, refl)

-- a node whose joining is refused since it may lack inodes
pub busy_lacks : (o : Option Standing) → join_fault_of o ≡ Some Busy → (stale : set.FinSet nat_cmp) × (stale_of o ≡ Some stale) × (stale ≢ set.empty)
busy_lacks None e = never (ap is_busy e)
busy_lacks (Some full) e = never (ap is_busy e)
busy_lacks (Some (down since)) e = never (ap is_busy e)
busy_lacks (Some (returning since donor stale)) e =
    (stale, refl, λ is. never (ap is_busy (sym (ap (λ b. cond b None (Some Busy)) (eq-eqb (set.len stale) 0 (ap set.len is ∙ len-empty nat_cmp))) ∙ e)))

-- a node that isn't full
pub since_is : (o : Option Standing) (e : ℕ) → since_of o ≡ Some e →
    (o ≡ Some (down e)) ⊎ ((donor : ℕ) × (stale : set.FinSet nat_cmp) × (o ≡ Some (returning e donor stale)))
since_is None e at = absurd (none-some e at)
since_is (Some full) e at = absurd (none-some e at)
since_is (Some (down since)) e at = inl (ap (λ s. Some (down s)) (same_Some since e at))
since_is (Some (returning since donor stale)) e at = inr (donor, stale, ap (λ s. Some (returning s donor stale)) (same_Some since e at))

-- its first failure's epoch has a list
pub since_listed : (m : Membership) (k e : ℕ) → IsMembership m → since_of (standing_of m.nodes k) ≡ Some e → e - first_listed m < length m.written
since_listed m k e lawful at = grind (arith, since_is, down_listed, list_there, return_listed)

-- where a node isn't full, not all are
pub not_all : (nodes : List Standing) (k e : ℕ) → since_of (standing_of nodes k) ≡ Some e → list_all is_full nodes ≡ false
not_all nodes k e at = grind (arith, none-some, false_from_ne_true, both_ways, list_all_place)

fulls_at : (count place : ℕ) → since_of (slice_get (fulls count) place) ≡ None
fulls_at zero place = refl
fulls_at (suc count) zero = refl
fulls_at (suc count) (suc place) = fulls_at count place

-- where all begin full, no node has failed
pub none_failed : (count k : ℕ) → since_of (standing_of (fulls count) k) ≡ None
none_failed count zero = refl
none_failed count (suc place) = fulls_at count place

-- ---- who was filled from a failed node starts over

pub refilled_here : (written : ℕ → set.FinSet nat_cmp) (low n since : ℕ) (stale : set.FinSet nat_cmp) (o : Option Standing) →
    o ≡ Some (returning since n stale) →
    option_map (refilled_from written low n) o ≡ Some (returning since low (written since))
refilled_here written low n since stale o at = grind (arith, eq-eqb)

pub refilled_else : (written : ℕ → set.FinSet nat_cmp) (low n : ℕ) (o : Option Standing) → donor_of o ≢ Some n → option_map (refilled_from written low n) o ≡ o
refilled_else written low n o other = grind (arith, ne_eqb)

pub refilled_full : (written : ℕ → set.FinSet nat_cmp) (low n : ℕ) (s : Standing) → is_full (refilled_from written low n s) ≡ is_full s
refilled_full written low n s = grind (arith, cond_both)

-- the same nodes are full, so the same is the lowest
pub same_lowest : (written : ℕ → set.FinSet nat_cmp) (low n : ℕ) (nodes : List Standing) → lowest_full (map (refilled_from written low n) nodes)
    ≡ lowest_full nodes
same_lowest written low n nodes = ap (λ l. slice_index_or l 0 0) (full_from_map (refilled_from written low n) (refilled_full written low n) 1 nodes)

-- ---- what was written at a donor is stale again

pub noted_here : (n since : ℕ) (inodes stale : set.FinSet nat_cmp) (o : Option Standing) → o ≡ Some (returning since n stale) →
    option_map (stale_again n inodes) o ≡ Some (returning since n (set.union stale inodes))
noted_here n since inodes stale o at = grind arith

pub noted_else : (n : ℕ) (inodes : set.FinSet nat_cmp) (o : Option Standing) → donor_of o ≢ Some n → option_map (stale_again n inodes) o ≡ o
noted_else n inodes o other = grind (arith, ne_eqb)

-- ---- two ways to say that a node comes back

pub same_since : (o : Option Standing) (s t d e : ℕ) (a b : set.FinSet nat_cmp) → o ≡ Some (returning s d a) → o ≡ Some (returning t e b) → s ≡ t
same_since o s t d e a b one two = same_Some s t (ap since_of (sym one ∙ two))

pub same_donor : (o : Option Standing) (s t d e : ℕ) (a b : set.FinSet nat_cmp) → o ≡ Some (returning s d a) → o ≡ Some (returning t e b) → d ≡ e
same_donor o s t d e a b one two = same_Some d e (ap donor_of (sym one ∙ two))

pub same_stale : (o : Option Standing) (s t d e : ℕ) (a b : set.FinSet nat_cmp) → o ≡ Some (returning s d a) → o ≡ Some (returning t e b) → a ≡ b
same_stale o s t d e a b one two = same_Some a b (ap stale_of (sym one ∙ two))
