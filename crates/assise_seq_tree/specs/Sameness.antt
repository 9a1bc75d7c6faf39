-- Pairs of trees that are compared.
use Rattle.std.specs.Prelude.{◌≡◌, ℕ, ◌+◌, List, [], ◌∷◌}
use Rattle.std.specs.Borrow.{Bor}
use Rattle.assise_seq_tree.specs.Tree.{Tree, size_of}

-- the trees of each pair are the same
abbrev pub ArePairsSame : List (Bor Tree × Bor Tree) → Type 0
ArePairsSame [] = Unit {0}
ArePairsSame (pair ∷ pairs) = (pair.0.now ≡ pair.1.now) × ArePairsSame pairs

-- how large the first ones are, with one for each
abbrev pub size_of_pairs : List (Bor Tree × Bor Tree) → ℕ
size_of_pairs [] = 0
size_of_pairs (pair ∷ pairs) = size_of pair.0.now + 1 + size_of_pairs pairs
