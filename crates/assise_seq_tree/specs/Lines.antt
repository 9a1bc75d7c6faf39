-- The lines of a tree: each entry by its full path.
-- POSIX.1-2017, base definitions: 3.271 Pathname, 4.13 Pathname Resolution.
use Rattle.std.specs.Prelude.{ℕ, ◌-◌, ◌^◌, min, List, [], ◌∷◌, ◌++◌, length, codes}
use Rattle.std.specs.List.{flat_map}
use Rattle.std.specs.Fmt.{decimal}
use Rattle.assise_names.specs.Path.{path_spelling}
use Rattle.assise_seq_tree.specs.Tree.{Tree, file, dir, Entries, no_entries, entry}

-- an entry's path, and what stands there
abbrev pub Place : Type 0
Place = List (List ℕ) × Tree

-- the entries at every depth of what stands at a path: by ascending names in a directory, and each before what it holds
abbrev mutual
  pub places_below : List (List ℕ) → Tree → List Place
  places_below path (file bytes) = []
  places_below path (dir es) = places_of path es

  pub places_of : List (List ℕ) → Entries → List Place
  places_of path no_entries = []
  places_of path (entry name t es) = (path ++ name ∷ [], t) ∷ places_below (path ++ name ∷ []) t ++ places_of path es

-- a file with its size in bytes, or a directory
abbrev pub kind_text : Tree → List ℕ
kind_text (file bytes) = codes "file " ++ decimal (length bytes)
kind_text (dir es) = codes "dir"

-- a line feed, and then the entry
abbrev pub place_line : Place → List ℕ
place_line place = 10 ∷ path_spelling place.0 ++ 32 ∷ kind_text place.1

-- how many entries are counted; of more than 2^64 - 1 this many
abbrev pub counted : List Place → ℕ
counted places = min (length places) (2 ^ 64 - 1)

-- the count of the entries, and then a line for each
abbrev pub tree_text : Tree → List ℕ
tree_text t = codes "tree " ++ decimal (counted (places_below [] t)) ++ flat_map place_line (places_below [] t)
