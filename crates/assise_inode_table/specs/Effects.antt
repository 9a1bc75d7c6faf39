-- What effects make of the values of inodes.
-- Strata, SOSP 2017, section 3: the operations that a log records; POSIX.1-2017, system interfaces: write(), ftruncate(), link(), unlink().
use Rattle.std.specs.Prelude.{◌≡◌, ℕ, ◌==◌, ◌+◌, ◌-◌, ◌<◌, length, Bool, false, if◌then◌else◌, List, [], ◌∷◌, map, Option, Some, None, option_map}
use Rattle.std.specs.List.{list_any}
use Rattle.std.specs.FinMap as fin
use Rattle.assise_record.specs.declared.effect.Effect.{Effect}
use Rattle.assise_record.specs.declared.effect.Effect.TheVariants.{NewFile, NewDir, Write, SetLen, Link, Unlink, Free}
use Rattle.assise_record.specs.Touched.{touched_by}
use Rattle.assise_seq_tree.specs.Contents.{overwritten, resized}
use Rattle.assise_inode_table.specs.Contents.{Content, regular, directory, InodeMap, Values}

-- what an effect makes of a content; one for the other kind leaves it
abbrev pub changed : Content → Effect → Content
changed (regular bytes) (Write i patch) = regular (overwritten bytes patch.offset patch.bytes)
changed (regular bytes) (SetLen i size) = regular (resized bytes size)
changed (regular bytes) e = regular bytes
changed (directory links) (Link d name i) = directory (fin.insert links name i)
changed (directory links) (Unlink d name) = directory (fin.remove links name)
changed (directory links) e = directory links

-- what an effect makes of the value of its inode
abbrev pub effect_on : Option Content → Effect → Option Content
effect_on old (NewFile i) = Some (regular [])
effect_on old (NewDir i) = Some (directory fin.empty)
effect_on old (Free i) = None
effect_on old e = option_map (λ content. changed content e) old

-- the value of an inode after effects, of which those on other inodes don't matter
abbrev pub value_after : ℕ → Option Content → List Effect → Option Content
value_after i old [] = old
value_after i old (e ∷ es) = value_after i (if touched_by e == i then effect_on old e else old) es

-- the values of all inodes after effects
abbrev pub after : Values → List Effect → Values
after v es = λ i. value_after i (v i) es

-- the inodes that effects change, in their order
abbrev pub touched : List Effect → List ℕ
touched es = map touched_by es

-- the number is in the list
abbrev pub contains : List ℕ → ℕ → Bool
contains is i = list_any (λ j. j == i) is

-- the effect makes a new inode of that number
abbrev pub makes : ℕ → Effect → Bool
makes i (NewFile j) = j == i
makes i (NewDir j) = j == i
makes i (Write j patch) = false
makes i (SetLen j size) = false
makes i (Link d name j) = false
makes i (Unlink d name) = false
makes i (Free j) = false

-- the inode that an effect makes, whatever its number had
abbrev pub made_by : Effect → Option Content
made_by (NewFile i) = Some (regular [])
made_by (NewDir i) = Some (directory fin.empty)
made_by (Write i patch) = None
made_by (SetLen i size) = None
made_by (Link d name i) = None
made_by (Unlink d name) = None
made_by (Free i) = None

-- the effect takes away what is there, for which no memory is needed
abbrev pub TakesAway : Effect → Type 0
TakesAway (Unlink d name) = Unit {0}
TakesAway (Free i) = Unit {0}
TakesAway (NewFile i) = ⊥
TakesAway (NewDir i) = ⊥
TakesAway (Write i patch) = ⊥
TakesAway (SetLen i size) = ⊥
TakesAway (Link d name i) = ⊥

-- the effect adds bytes or zeros to a file, in or behind what it has, or an entry under a new name to a directory
abbrev pub AddsContent : Effect → Content → Type 0
AddsContent (Write i patch) (regular bytes) = 0 < length patch.bytes + (patch.offset - length bytes)
AddsContent (SetLen i size) (regular bytes) = length bytes < size
AddsContent e (regular bytes) = ⊥
AddsContent (Link d name i) (directory links) = fin.get links name ≡ None
AddsContent e (directory links) = ⊥

-- the effect asks for memory: it makes an inode of a number that has none, or adds to what is there
abbrev pub AsksForMemory : Effect → Option Content → Type 0
AsksForMemory e (Some content) = AddsContent e content
AsksForMemory (NewFile i) None = Unit {0}
AsksForMemory (NewDir i) None = Unit {0}
AsksForMemory e None = ⊥

-- both lists give each inode the same value, whatever it had before
abbrev pub SameNetEffect : List Effect → List Effect → Type 0
SameNetEffect es fs = (i : ℕ) (old : Option Content) → value_after i old es ≡ value_after i old fs

-- ---- finite maps

-- the map with a value of an inode, or without the inode
abbrev pub with_value : InodeMap → ℕ → Option Content → InodeMap
with_value m i None = fin.remove m i
with_value m i (Some content) = fin.insert m i content

-- the map after an effect
abbrev pub applied : InodeMap → Effect → InodeMap
applied m e = with_value m (touched_by e) (effect_on (fin.get m (touched_by e)) e)

-- the map after effects, one after another
abbrev pub all_applied : InodeMap → List Effect → InodeMap
all_applied m [] = m
all_applied m (e ∷ es) = all_applied (applied m e) es
