-- The workers of nodes, one node after another.
use Rattle.assise_workers.proofs.Common.{◌≡◌, ◌∙◌, ◌≤◌, ◌-◌, ℕ, zero, suc, List, [], ◌∷◌, ◌++◌, map, ap, ap₂, subst, arith, map-append, node_at, nodes_up_to}
use Rattle.assise_workers.specs.declared.nodes.NodeWorkers.{NodeWorkers}

pub one_more : {S : Type 0} (ws now : List (NodeWorkers S)) (w : NodeWorkers S) (n : ℕ) → 1 ≤ n → now ≡ ws ++ w ∷ [] → node_at w ≡ n →
    map node_at ws ≡ nodes_up_to (n - 1) → map node_at now ≡ nodes_up_to n
one_more ws now w zero some more at before = absurd (omega (arith, some))
one_more ws now w (suc k) some more at before =
    let low : suc k - 1 ≡ k = omega arith in
    ap (map node_at) more ∙ (map-append node_at ws (w ∷ []) ∙ ap₂ (λ x y. x ++ y ∷ []) (subst (λ z. map node_at ws ≡ nodes_up_to z) low before) at)
