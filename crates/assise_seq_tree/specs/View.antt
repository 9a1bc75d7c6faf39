-- The tree that a value of the code stands for.
use Rattle.std.specs.Prelude.{List, [], ◌∷◌, ℕ}
use Rattle.assise_seq_tree.specs.Tree.{Tree, file, dir, Entries, no_entries, entry}
use Rattle.assise_seq_tree.specs.declared.tree.Node.{Node}
use Rattle.assise_seq_tree.specs.declared.tree.Node.TheVariants.{File, Directory}

-- the entries of a map
abbrev pub map_entries : List (List ℕ × Tree) → Entries
map_entries [] = no_entries
map_entries (e ∷ es) = entry e.0 e.1 (map_entries es)

-- one level of a tree
abbrev pub tree_of : Node → Tree
tree_of (File bytes) = file bytes.items
tree_of (Directory m) = dir (map_entries m.entries)
