-- A tree as the list of its places, each after the places below it.
-- Knuth, The Art of Computer Programming, volume 1, section 2.3.3: postorder with degrees.
use Rattle.std.specs.Prelude.{◌≡◌, ℕ, List, [], ◌∷◌, ◌++◌, length}
use Rattle.assise_seq_tree.specs.Tree.{Tree, file, dir, Entries, no_entries, entry, names_of}
use Rattle.assise_inode_table.specs.Reach.{Shape, plain, folder, shape_of_tree}
use Rattle.assise_digest.specs.declared.spelled.Place.{Place}
use Rattle.assise_digest.specs.declared.spelled.Place.TheVariants.{File, Directory}

-- what stands at each place of a tree: the subtrees in the order of the names, and then the directory
abbrev mutual
  pub postorder : Tree → List Shape
  postorder (file bytes) = plain bytes ∷ []
  postorder (dir es) = postorder_of es ++ folder (names_of es) ∷ []

  pub postorder_of : Entries → List Shape
  postorder_of no_entries = []
  postorder_of (entry name t es) = postorder t ++ postorder_of es

-- the trees that entries lead to, in the order of the names
abbrev pub subtrees_of : Entries → List Tree
subtrees_of no_entries = []
subtrees_of (entry name t es) = t ∷ subtrees_of es

abbrev pub subtrees : Tree → List Tree
subtrees (file bytes) = []
subtrees (dir es) = subtrees_of es

-- how many subtrees a place has
abbrev pub degree : Shape → ℕ
degree (plain bytes) = 0
degree (folder names) = length names

-- what a value of the code says of a place
abbrev pub shape : Place → Shape
shape (File bytes) = plain bytes.items
shape (Directory names) = folder names

-- the tree has the shape, and its subtrees were the last of the trees
pub record TakesLast (s : Shape) (t : Tree) (old new : List Tree) : Type 0 where
  pub is : shape_of_tree t ≡ s
  pub taken : old ≡ new ++ subtrees t
