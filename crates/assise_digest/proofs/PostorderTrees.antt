-- Trees are put together in postorder.
use Rattle.assise_digest.proofs.Common.{◌≡◌, ◌+◌, List, [], ◌∷◌, ◌++◌, length, map, reverse, sym, ap, ◌∙◌, append_assoc, append-nil, length-append, arith}
use Rattle.assise_digest.proofs.Common.{reverse-append, map-append, Tree, Shape, shape_of_tree, postorder, shape, subtrees}
use Rattle.assise_digest.specs.declared.spelled.Place.{Place}
use Rattle.assise_digest.proofs.Forests.{forest, forest_ends, same_forest}

pub shapes_more : (places more : List Place) (p : Place) → more ≡ places ++ p ∷ [] → map shape more ≡ map shape places ++ shape p ∷ []
shapes_more places more p is = ap (map shape) is ∙ map-append shape places (p ∷ [])

pub one_more : (places more : List Place) (p : Place) → more ≡ places ++ p ∷ [] → length more ≡ length places + 1
one_more places more p is = ap length is ∙ length-append places (p ∷ [])

-- the last that is left comes next
pub opened : (items rest : List Place) (p : Place) (ts : List Tree) (all : List Shape) → items ≡ rest ++ p ∷ [] → forest ts ++ reverse (map shape items) ≡ all
    → forest ts ++ shape p ∷ reverse (map shape rest) ≡ all
opened items rest p ts all is whole =
    ap (λ ps. forest ts ++ ps) (sym (ap reverse (shapes_more rest items p is) ∙ reverse-append (map shape rest) (shape p ∷ []))) ∙ whole

-- the tree that it makes stands in the place of the subtrees
pub closed : (old mid new : List Tree) (t : Tree) (s : Shape) (rest all : List Shape) → old ≡ mid ++ subtrees t → shape_of_tree t ≡ s → new ≡ mid ++ t ∷ []
    → forest old ++ s ∷ rest ≡ all → forest new ++ rest ≡ all
closed old mid new t s rest all taken is grown whole = grind (arith, forest_ends, append_assoc)

-- in the end there is the one tree
pub whole_tree : (items : List Place) (ts : List Tree) (t : Tree) → length items ≡ 0 → forest ts ++ reverse (map shape items) ≡ postorder t → ts ≡ t ∷ []
whole_tree [] ts t none whole = same_forest ts (t ∷ []) (sym (append-nil (forest ts)) ∙ whole ∙ sym (append-nil (postorder t)))
whole_tree (p ∷ items) ts t none whole = absurd (omega arith)
