-- Which tree a map of inodes spells.
use Rattle.std.specs.Prelude.{◌≡◌, ◌≢◌, ℕ, List, IsSome, Ok, Some, None}
use Rattle.std.specs.FinMap as map
use Rattle.assise_seq_tree.specs.Tree.{Tree}
use Rattle.assise_inode_table.specs.Contents.{directory, Links, Values}
use Rattle.assise_inode_table.specs.Reach.{Children, children, reach, shown_from, shown_in}

-- no two paths from the inode reach one inode
abbrev pub ReachesOnce : Children → ℕ → Type 0
ReachesOnce c r = (p q : List (List ℕ)) (j : ℕ) → reach c r p ≡ Ok j → reach c r q ≡ Ok j → p ≡ q

-- from inode r the entries spell exactly t: each path shows what it shows in t, and no inode is reached twice
pub record SpellsFrom (v : Values) (r : ℕ) (t : Tree) : Type 0 where
  pub shows : (p : List (List ℕ)) → shown_from v r p ≡ shown_in t p
  pub once : ReachesOnce (children v) r

-- from inode 0 the entries spell exactly t, and each inode is reached once
pub record Spells (v : Values) (t : Tree) : Type 0 where
  pub tree : SpellsFrom v 0 t
  pub reached : (j : ℕ) → IsSome (v j) → (p : List (List ℕ)) × (reach (children v) 0 p ≡ Ok j)

-- no inode is reached from both
abbrev pub ShareNone : Children → ℕ → ℕ → Type 0
ShareNone c r s = (p q : List (List ℕ)) (j : ℕ) → reach c r p ≡ Ok j → reach c s q ≡ Ok j → ⊥

-- ---- one inode changes

-- the values agree but at the inode
abbrev pub AgreeBut : ℕ → Values → Values → Type 0
AgreeBut i v w = (j : ℕ) → j ≢ i → w j ≡ v j

-- a link more: directory d gets the name, which it doesn't have, for inode i
pub record AddsLink (v w : Values) (d : ℕ) (name : List ℕ) (i : ℕ) (links : Links) : Type 0 where
  pub before : v d ≡ Some (directory links)
  pub absent : map.get links name ≡ None
  pub after : w d ≡ Some (directory (map.insert links name i))
  pub others : AgreeBut d v w

-- a link less: directory d loses the name, which links to inode i
pub record RemovesLink (v w : Values) (d : ℕ) (name : List ℕ) (i : ℕ) (links : Links) : Type 0 where
  pub before : v d ≡ Some (directory links)
  pub present : map.get links name ≡ Some i
  pub after : w d ≡ Some (directory (map.remove links name))
  pub others : AgreeBut d v w
