-- The bytes of a file in blocks, as an inode's list of blocks has them.
-- McKusick, Joy, Leffler and Fabry, A Fast File System for UNIX, TOCS 1984, section 3: blocks of one size, the last of them in part.
use Rattle.std.specs.Prelude.{◌≡◌, ℕ, ◌<◌, ◌≤◌, List, [], ◌∷◌, length, Option, Some, None}
use Rattle.std.specs.Arc.{arc_value}
use Rattle.std.specs.Global.{Vec, Global}
use Rattle.std.specs.declared.sync.Arc.{Arc}

-- each block has 4096 bytes, but the last, which has 1 to 4096
unfoldable pub IsCut : List (List ℕ) → Type 0
IsCut [] = Unit {0}
IsCut (b ∷ bs) = (0 < length b) × (length b ≤ 4096) × (0 < length bs → length b ≡ 4096) × IsCut bs

-- the blocks in a list with several owners, or none where there is no list
abbrev pub blocks_in : Option (Arc (Vec (List ℕ)) Global) → List (List ℕ)
blocks_in None = []
blocks_in (Some list) = (arc_value list).items
