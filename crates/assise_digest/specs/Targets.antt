-- The inodes that an inode links to.
-- POSIX.1-2017, base definitions, chapter 3: Directory Entry (or Link).
use Rattle.std.specs.Prelude.{ℕ, List, []}
use Rattle.std.specs.List.{filter_map}
use Rattle.std.specs.FinMap as map
use Rattle.assise_inode_table.specs.Contents.{Content, regular, directory, Links}

-- the inodes that names link to, in the order of the names
abbrev pub linked : Links → List (List ℕ) → List ℕ
linked links names = filter_map (λ name. map.get links name) names

abbrev pub targets : Content → List ℕ
targets (regular bytes) = []
targets (directory links) = linked links (map.keys links)
