-- A traversal of a tree in preorder: each entry before what it holds.
use Rattle.std.specs.Prelude.{ℕ, List, [], ◌∷◌, ◌++◌}
use Rattle.assise_seq_tree.specs.Lines.{Place, places_of}
use Rattle.assise_seq_tree.specs.Tree.{Tree}
use Rattle.assise_seq_tree.specs.View.{map_entries}

-- the path of the directory whose entries come next, and what is left: the places below it, and behind them those of the directories above
pub record Traversed : Type 0 where
  pub path : List (List ℕ)
  pub left : List Place

-- what is left of the directories along a path, the innermost first
abbrev pub places_left : List (List ℕ) → List (List ℕ) → List (List (List ℕ × Tree)) → List Place
places_left path names [] = []
places_left path [] (entries ∷ more) = places_left path [] more ++ places_of path (map_entries entries)
places_left path (name ∷ names) (entries ∷ more) = places_left (path ++ name ∷ []) names more ++ places_of path (map_entries entries)
