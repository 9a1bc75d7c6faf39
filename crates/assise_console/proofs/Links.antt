-- Links of nodes that are there.
use Rattle.assise_console.proofs.Common.{◌≡◌, ◌≤◌, ◌<◌, ℕ, zero, suc, ◌-◌, List, [], ◌∷◌, Some, length, map, replicate, slice_set, inl, inr, refl, ap, sym}
use Rattle.assise_console.proofs.Common.{subst, ◌∙◌, arith, cases_lt, BadNode, MOST_NODES, LinkKind, kind_of_link, node_fault, Machine, machine, ClusterOf}
use Rattle.assise_console.proofs.Common.{few_nodes, ConsoleState, Linked, Refused, SetsLink, is_linked, is_nowhere, link_kind}
use Rattle.std.proofs.Common.{slice_index_or}
use Rattle.assise_link.specs.declared.test_link.TestLink.{TestLink}
use Rattle.assise_console.proofs.Numbers.{no_node}
use Rattle.assise_console.proofs.OneCommand.{with_links}

named : (m : Machine) (n : ℕ) → (node_fault m n ≡ Some BadNode → ⊥) → (1 ≤ n) × (n ≤ length m.members.nodes)
named m zero there = absurd (there refl)
named m (suc k) there = elim (cases_lt (length m.members.nodes) (suc k)) [
  | inl far ↦ absurd (there (no_node m (suc k) far))
  | inr near ↦ (omega arith, near)
]

-- the place of a node's link is below the most nodes
pub below_most : {C : Type 0} (cluster : ClusterOf C) (n : ℕ) → (node_fault (machine cluster) n ≡ Some BadNode → ⊥) → n - 1 < MOST_NODES
below_most cluster n there =
    let there_is = named (machine cluster) n there in
    let few = few_nodes cluster in
    omega (arith, there_is.0, there_is.1, few)

map_set : {X Y : Type 0} (f : X → Y) (xs : List X) (k : ℕ) (x : X) → map f (slice_set xs k x) ≡ slice_set (map f xs) k (f x)
map_set f [] k x = refl
map_set f (y ∷ xs) zero x = refl
map_set f (y ∷ xs) (suc k) x = ap (λ ys. f y ∷ ys) (map_set f xs k x)

pub sets_link : (s : ConsoleState) (n k : ℕ) (kind : LinkKind) (links : List TestLink) (l : TestLink) → k ≡ n → (node_fault s.machine k ≡ Some BadNode → ⊥) →
    s.links ≡ map kind_of_link links → kind_of_link l ≡ link_kind kind
    → SetsLink s n kind (Linked k) (with_links s s.machine (map kind_of_link (slice_set links (k - 1) l)))
sets_link s n k kind links l same there seen is =
    let now : map kind_of_link (slice_set links (k - 1) l) ≡ slice_set s.links (k - 1) (link_kind kind) =
    map_set kind_of_link links (k - 1) l ∙ (λ i. slice_set (sym seen i) (k - 1) (is i)) in
    subst (λ j. SetsLink s j kind (Linked k) (with_links s s.machine (map kind_of_link (slice_set links (k - 1) l)))) same
    (is_linked there refl (ap (with_links s s.machine) now))

pub links_nowhere : (s : ConsoleState) (n : ℕ) (kind : LinkKind) → length s.machine.members.nodes < n → SetsLink s n kind (Refused BadNode) s
links_nowhere s n kind far = is_nowhere (no_node s.machine n far) refl refl

-- items that are all alike in something
pub all_alike : {X Y : Type 0} (f : X → Y) (y : Y) (xs : List X) → ((k : ℕ) (e : X) → k < length xs → f (slice_index_or xs k e) ≡ y) →
    map f xs ≡ replicate (length xs) y
all_alike f y [] h = refl
all_alike f y (x ∷ xs) h =
    let first : f x ≡ y = h 0 x (omega arith) in
    let rest = all_alike f y xs (λ k e few. h (suc k) e (omega (arith, few))) in
    (λ i. first i ∷ rest i)
