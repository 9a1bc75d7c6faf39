-- Which nodes are full once the members change.
use Rattle.assise_machine_state.proofs.Common.{◌≡◌, ◌≢◌, ℕ, zero, suc, ◌+◌, ◌-◌, ◌<◌, ◌≤◌, true, false, if◌then◌else◌, List, [], ◌∷◌, length, filter, map}
use Rattle.assise_machine_state.proofs.Common.{slice_get, Option, Some, None, refl, ap, sym, ◌∙◌, arith, eq-eqb, true≢false, nat_cmp, length-map, length-set}
use Rattle.assise_machine_state.proofs.Common.{contains, failed, failed_as, failure_fault, refilled_from, with_epoch, Membership, lowest_full, written_since}
use Rattle.assise_machine_state.proofs.Common.{Standing, down, full, full_from, full_nodes, is_full, standing_of, with_standing, down_from, ClientValue}
use Rattle.assise_machine_state.proofs.Common.{full_in, is_full_in, own_node, stands_full}
use Rattle.std.specs.List.{slice_index_or}
use Rattle.std.specs.FinSet as set
use Rattle.std.proofs.lemmas.Option.{none-some, slice_get_within}
use Rattle.assise_manager.proofs.Shared.Nodes.{one_full_less}
use Rattle.assise_model_members.proofs.Shared.NodeStandings.{full_listed, listed_full, lowest_stands, mapped_at, refilled_full, set_else, set_here}
use Rattle.assise_machine_state.proofs.Shared.ItemSeen.{less_one}

-- ---- lists of nodes of which the same are full

same_from : (k : ℕ) (xs ys : List Standing) → length xs ≡ length ys → ((i : ℕ) → stands_full (slice_get xs i) ≡ stands_full (slice_get ys i)) →
    full_from k xs ≡ full_from k ys
same_from k [] [] long same = refl
same_from k [] (y ∷ ys) long same = absurd (omega (arith, long))
same_from k (x ∷ xs) [] long same = absurd (omega (arith, long))
same_from k (x ∷ xs) (y ∷ ys) long same =
    let head : is_full x ≡ is_full y = same zero in
    let rest : full_from (suc k) xs ≡ full_from (suc k) ys = same_from (suc k) xs ys (omega (arith, long)) (λ i. same (suc i)) in
    λ i. if head i then k ∷ rest i else rest i

same_lowest : (xs ys : List Standing) → length xs ≡ length ys → ((n : ℕ) → is_full_in xs n ≡ is_full_in ys n) → lowest_full xs ≡ lowest_full ys
unfolding is_full_in
same_lowest xs ys long same = ap (λ ns. slice_index_or ns 0 0) (same_from 1 xs ys long (λ i. same (suc i)))

pub same_full : (xs ys : List Standing) → length xs ≡ length ys → ((n : ℕ) → is_full_in xs n ≡ is_full_in ys n) → full_in xs ≡ full_in ys
unfolding full_in
same_full xs ys long same = λ i. filter (λ n. same n i) (down_from (long i))

pub same_own : (xs ys : List Standing) → length xs ≡ length ys → ((n : ℕ) → is_full_in xs n ≡ is_full_in ys n) → (x : ClientValue) →
    own_node xs x ≡ own_node ys x
same_own xs ys long same x = ap (λ low. if x.failed then low else x.home) (same_lowest xs ys long same)

-- each node stands full exactly where it did
pub mapped_full : (f : Standing → Standing) → ((x : Standing) → is_full (f x) ≡ is_full x) → (nodes : List Standing) (n : ℕ) → is_full_in (map f nodes) n
    ≡ is_full_in nodes n
unfolding is_full_in
mapped_full f same nodes n = grind (arith, mapped_at)

-- ---- a full node stands so

full_stands : (o : Option Standing) → stands_full o ≡ true → o ≡ Some full
full_stands o h1 = grind arith

pub stands_so : (nodes : List Standing) (n : ℕ) → is_full_in nodes n ≡ true → standing_of nodes n ≡ Some full
unfolding is_full_in
stands_so nodes n f = full_stands (standing_of nodes n) f

pub full_as : (nodes : List Standing) (n : ℕ) (s : Standing) → standing_of nodes n ≡ Some s → is_full_in nodes n ≡ is_full s
unfolding is_full_in
full_as nodes n s stands = ap stands_full stands

-- a node that stands somehow has a number
pub numbers : (nodes : List Standing) (n : ℕ) (s : Standing) → standing_of nodes n ≡ Some s → (1 ≤ n) × (n ≤ length nodes)
numbers nodes n s h1 = grind (arith, none-some, slice_get_within)

-- the list of full nodes has those that are full, and no other
pub is_listed : (nodes : List Standing) (n : ℕ) → is_full_in nodes n ≡ true → contains (full_nodes nodes) n ≡ true
is_listed nodes n f = full_listed nodes n (stands_so nodes n f)

pub listed_is_full : (nodes : List Standing) (n : ℕ) → contains (full_nodes nodes) n ≡ true → is_full_in nodes n ≡ true
listed_is_full nodes n listed = full_as nodes n full (listed_full nodes n listed)

-- where some node is full, the lowest one is
pub lowest_listed : (nodes : List Standing) → 0 < length (full_nodes nodes) → is_full_in nodes (lowest_full nodes) ≡ true
lowest_listed nodes some = full_as nodes (lowest_full nodes) full (lowest_stands nodes some)

some_of : (ns : List ℕ) (n : ℕ) → contains ns n ≡ true → 0 < length ns
some_of [] n there = cc
some_of (m ∷ ns) n there = omega arith

pub lowest_is_full : (nodes : List Standing) (n : ℕ) → is_full_in nodes n ≡ true → is_full_in nodes (lowest_full nodes) ≡ true
lowest_is_full nodes n f = lowest_listed nodes (some_of (full_nodes nodes) n (is_listed nodes n f))

-- ---- one node stands otherwise

pub full_here : (nodes : List Standing) (n : ℕ) (old s : Standing) → standing_of nodes n ≡ Some old → is_full_in (with_standing nodes n s) n ≡ is_full s
full_here nodes n old s stands = full_as (with_standing nodes n s) n s (set_here nodes n old s stands)

pub full_else : (nodes : List Standing) (n k : ℕ) (old s : Standing) → standing_of nodes n ≡ Some old → k ≢ n → is_full_in (with_standing nodes n s) k
    ≡ is_full_in nodes k
unfolding is_full_in
full_else nodes n k old s stands other = ap stands_full (set_else nodes n k old s stands other)

pub same_count : (nodes : List Standing) (n : ℕ) (s : Standing) → length (with_standing nodes n s) ≡ length nodes
same_count nodes n s = length-set nodes (n - 1) s

-- ---- a full node fails

module _ (m : Membership) (n : ℕ) (inodes : set.FinSet nat_cmp) (stands : standing_of m.nodes n ≡ Some full) where
  abbrev now_down : List Standing
  now_down = (with_epoch m n inodes).nodes

  abbrev refilled : List Standing
  refilled = map (refilled_from (written_since (with_epoch m n inodes)) (lowest_full now_down) n) now_down

  failed_nodes : (failed m n inodes).nodes ≡ refilled
  failed_nodes = ap (λ o. (failed_as m n inodes o).nodes) stands

  full_then : (k : ℕ) → is_full_in (failed m n inodes).nodes k ≡ is_full_in now_down k
  full_then k = grind (arith, failed_nodes, mapped_full, refilled_full)

  -- it isn't full any more, and the others stand full exactly where they did
  pub gone_then : is_full_in (failed m n inodes).nodes n ≡ false
  gone_then = full_then n ∙ full_here m.nodes n full (down (m.epoch + 1)) stands

  pub else_then : (k : ℕ) → k ≢ n → is_full_in (failed m n inodes).nodes k ≡ is_full_in m.nodes k
  else_then k other = full_then k ∙ full_else m.nodes n k full (down (m.epoch + 1)) stands other

  pub count_then : length (failed m n inodes).nodes ≡ length m.nodes
  count_then = grind (arith, failed_nodes, length-map, same_count)

-- another full node is left
other_left : (m : Membership) (n : ℕ) → standing_of m.nodes n ≡ Some full → failure_fault m n ≡ None → length (full_nodes m.nodes) ≢ 1
other_left m n stands fine one = grind (arith, eq-eqb, none-some)

fewer : (nodes : List Standing) (n : ℕ) → standing_of nodes n ≡ Some full → length (full_nodes (with_standing nodes n (down 0))) + 1 ≡ length (full_nodes nodes)
fewer nodes n h1 = grind (arith, none-some, less_one, one_full_less)

pub survivor_left : (m : Membership) (n : ℕ) → standing_of m.nodes n ≡ Some full → failure_fault m n ≡ None →
    (k : ℕ) × ((k ≢ n) × (is_full_in m.nodes k ≡ true))
survivor_left m n stands fine =
    let rest : List Standing = with_standing m.nodes n (down 0) in
    let less : length (full_nodes rest) + 1 ≡ length (full_nodes m.nodes) = fewer m.nodes n stands in
    let more : length (full_nodes m.nodes) ≢ 1 = other_left m n stands fine in
    let low : is_full_in rest (lowest_full rest) ≡ true = lowest_listed rest (omega (arith, less, more)) in
    let other : lowest_full rest ≢ n = λ same. true≢false (sym low ∙ ap (is_full_in rest) same ∙ full_here m.nodes n full (down 0) stands) in
    (lowest_full rest, (other, sym (full_else m.nodes n (lowest_full rest) full (down 0) stands other) ∙ low))
