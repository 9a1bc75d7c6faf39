-- What some inodes become.
-- Strata, SOSP 2017, section 3: the operations that a log records, made as one transaction.
use Rattle.std.specs.Prelude.{◌≡◌, ◌≢◌, ℕ, ◌<◌, ◌==◌, Bool, if◌then◌else◌, List, [], ◌∷◌, IsSome, Option, is_some, length, slice_index_or}
use Rattle.std.specs.List.{list_any}
use Rattle.std.specs.FinMap as map
use Rattle.assise_inode_table.specs.Contents.{Content, InodeMap, regular}
use Rattle.assise_inode_table.specs.declared.changes.Change.{Change}

-- what an inode becomes, or what it was if it isn't among them
abbrev pub found : List Change → ℕ → Option Content → Option Content
found [] i old = old
found (c ∷ cs) i old = if c.inode == i then c.value else found cs i old

-- the inode isn't among them
abbrev pub Lacks : List Change → ℕ → Type 0
Lacks [] i = Unit {0}
Lacks (c ∷ cs) i = (c.inode ≢ i) × Lacks cs i

-- no inode twice
abbrev pub AreDistinctChanges : List Change → Type 0
AreDistinctChanges [] = Unit {0}
AreDistinctChanges (c ∷ cs) = Lacks cs c.inode × AreDistinctChanges cs

-- the place of an inode's change
pub record IsPlace (cs : List Change) (p i : ℕ) : Type 0 where
  pub within : p < length cs
  pub is : (none : Change) → (slice_index_or cs p none).inode ≡ i

-- the inode is among them
abbrev pub is_among : List Change → ℕ → Bool
is_among cs i = list_any (λ c. c.inode == i) cs

-- the map with an inode of that number: where there is none, an empty file
abbrev pub placed_one : InodeMap → ℕ → InodeMap
placed_one m i = if is_some (map.get m i) then m else map.insert m i (regular [])

-- the map with an inode for each change
abbrev pub placed : InodeMap → List Change → InodeMap
placed m [] = m
placed m (c ∷ cs) = placed (placed_one m c.inode) cs

-- the map without these inodes
abbrev pub map_without : InodeMap → List ℕ → InodeMap
map_without m [] = m
map_without m (i ∷ is) = map_without (map.remove m i) is

-- the inode of each change is there
abbrev pub ArePlaced : InodeMap → List Change → Type 0
ArePlaced m [] = Unit {0}
ArePlaced m (c ∷ cs) = IsSome (map.get m c.inode) × ArePlaced m cs
