-- The links of the nodes that there are.
use Rattle.assise_files.proofs.Common.{◌≡◌, ℕ, zero, suc, ◌-◌, ◌<◌, List, [], ◌∷◌, Option, Some, None, Ok, length, map, replicate, slice_set, slice_index_or}
use Rattle.assise_files.proofs.Common.{slice_get, refl, ap, arith, MOST_NODES}
use Rattle.std.proofs.lemmas.Option.{slice_get_within}
use Rattle.assise_manager.specs.declared.phase.Phase.{Phase}
use Rattle.assise_manager.specs.Standings.{Standing, phase_of, standing_of}
use Rattle.assise_machine.specs.Clusters.{machine}
use Rattle.assise_machine.specs.declared.cluster.ClusterOf.{ClusterOf}
use Rattle.assise_machine.proofs.Shared.Few.{few_nodes}

-- the place of a node's link is below the most nodes
named : (nodes : List Standing) (n : ℕ) (p : Phase) → Ok p ≡ phase_of (standing_of nodes n) → n - 1 < length nodes
named nodes zero p is = cc
named nodes (suc place) p is = (let low : place < length nodes = here (slice_get nodes place) is refl in omega (arith, low))
  where
    here : (o : Option Standing) → Ok p ≡ phase_of o → slice_get nodes place ≡ o → place < length nodes
    here None is same = cc
    here (Some s) is same = slice_get_within nodes place s same

pub below_most : {C : Type 0} (cluster : ClusterOf C) (n : ℕ) (p : Phase) → Ok p ≡ phase_of (standing_of (machine cluster).members.nodes n) → n - 1 < MOST_NODES
below_most cluster n p is = (let low = named (machine cluster).members.nodes n p is in let few = few_nodes cluster in omega (arith, low, few))

pub map_set : {X Y : Type 0} (f : X → Y) (xs : List X) (k : ℕ) (x : X) → map f (slice_set xs k x) ≡ slice_set (map f xs) k (f x)
map_set f [] k x = refl
map_set f (y ∷ xs) zero x = refl
map_set f (y ∷ xs) (suc k) x = ap (λ ys. f y ∷ ys) (map_set f xs k x)

-- items that are all alike in something
pub all_alike : {X Y : Type 0} (f : X → Y) (y : Y) (xs : List X) → ((k : ℕ) (e : X) → k < length xs → f (slice_index_or xs k e) ≡ y) →
    map f xs ≡ replicate (length xs) y
all_alike f y [] h = refl
all_alike f y (x ∷ xs) h =
    let first : f x ≡ y = h 0 x (omega arith) in
    let rest = all_alike f y xs (λ k e few. h (suc k) e (omega (arith, few))) in
    (λ i. first i ∷ rest i)
