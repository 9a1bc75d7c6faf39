-- Where paths lead over inodes.
-- POSIX.1-2017, base definitions, section 4.13: Pathname Resolution.
use Rattle.std.specs.Prelude.{ℕ, List, [], ◌∷◌, Option, Some, None, Result, Ok, Err, ok_or}
use Rattle.std.specs.FinMap as map
use Rattle.assise_names.specs.declared.reply.TreeError.{TreeError}
use Rattle.assise_names.specs.declared.reply.TreeError.TheVariants.{NoEnt, NotDir}
use Rattle.assise_seq_tree.specs.Tree.{Tree, file, dir, names_of, at}
use Rattle.assise_seq_tree.specs.Answer.{◌>>=◌}
use Rattle.assise_inode_table.specs.Contents.{Content, regular, directory, Values}

-- the inode that an entry links to, or why there is none
abbrev pub link_of : Option Content → List ℕ → Result ℕ TreeError
link_of None name = Err NoEnt
link_of (Some (regular bytes)) name = Err NotDir
link_of (Some (directory links)) name = ok_or (map.get links name) NoEnt

-- which inode each name leads to from each inode
abbrev pub Children : Type 0
Children = ℕ → List ℕ → Result ℕ TreeError

abbrev pub children : Values → Children
children v i name = link_of (v i) name

-- the inode that a path reaches from another, or the first fault on the way
abbrev pub reach : Children → ℕ → List (List ℕ) → Result ℕ TreeError
reach c i [] = Ok i
reach c i (name ∷ p) = c i name >>= λ j. reach c j p

-- ---- what a path shows: the bytes of a file, or the names in a directory

pub data Shape : Type 0 where
  plain : List ℕ → Shape
  folder : List (List ℕ) → Shape

abbrev pub shape_of : Option Content → Result Shape TreeError
shape_of None = Err NoEnt
shape_of (Some (regular bytes)) = Ok (plain bytes)
shape_of (Some (directory links)) = Ok (folder (map.keys links))

-- over inodes
abbrev pub shown_from : Values → ℕ → List (List ℕ) → Result Shape TreeError
shown_from v i p = reach (children v) i p >>= λ j. shape_of (v j)

abbrev pub shape_of_tree : Tree → Shape
shape_of_tree (file bytes) = plain bytes
shape_of_tree (dir es) = folder (names_of es)

-- in a tree
abbrev pub shown_in : Tree → List (List ℕ) → Result Shape TreeError
shown_in t p = at t p >>= λ found. Ok (shape_of_tree found)
