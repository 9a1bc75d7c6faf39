-- Effects that can be made all or none without a copy of what they change.
-- Strata, SOSP 2017, section 3: the operations that a log records; POSIX.1-2017, rename(): the entry is there throughout.
use Rattle.std.specs.Prelude.{◌≡◌, ◌⊎◌, ℕ, ◌==◌, ◌&&◌, not, Bool, true, false, List, [], ◌∷◌, ◌++◌, IsSome}
use Rattle.assise_record.specs.declared.effect.Effect.{Effect}
use Rattle.assise_record.specs.declared.effect.Effect.TheVariants.{NewFile, NewDir, Write, SetLen, Link, Unlink, Free}
use Rattle.assise_seq_tree.specs.Tree.{same_name}
use Rattle.assise_inode_table.specs.Effects.{TakesAway, made_by}

-- each of them takes away what is there, for which no memory is needed
abbrev pub OnlyTakeAway : List Effect → Type 0
OnlyTakeAway [] = Unit {0}
OnlyTakeAway (e ∷ es) = TakesAway e × OnlyTakeAway es

-- of the effects only the first may ask for memory
abbrev pub OnlyFirstAsks : List Effect → Type 0
OnlyFirstAsks [] = Unit {0}
OnlyFirstAsks (e ∷ es) = OnlyTakeAway es

-- the first makes an inode, and of the others only the first may ask for memory
abbrev pub MakesThenAsks : List Effect → Type 0
MakesThenAsks [] = ⊥
MakesThenAsks (e ∷ es) = IsSome (made_by e) × OnlyFirstAsks es

-- the effect makes an entry of a directory
abbrev pub is_link : Effect → Bool
is_link (Link d name i) = true
is_link (NewFile i) = false
is_link (NewDir i) = false
is_link (Write i patch) = false
is_link (SetLen i size) = false
is_link (Unlink d name) = false
is_link (Free i) = false

-- the effect takes away what is there
abbrev pub takes_away : Effect → Bool
takes_away (Unlink d name) = true
takes_away (Free i) = true
takes_away (NewFile i) = false
takes_away (NewDir i) = false
takes_away (Write i patch) = false
takes_away (SetLen i size) = false
takes_away (Link d name i) = false

-- the last effect is a link, and the others only take away
pub record EndsWithLink (es : List Effect) : Type 0 where
  pub before : List Effect
  pub last : Effect
  pub are : es ≡ before ++ last ∷ []
  pub take_away : OnlyTakeAway before
  pub links : is_link last ≡ true

-- in their order, or with the last one first
abbrev pub CanBeChangedWhole : List Effect → Type 0
CanBeChangedWhole es = OnlyFirstAsks es ⊎ EndsWithLink es

-- in their order, or behind a new inode, or with the last one first
abbrev pub CanBeMadeWhole : List Effect → Type 0
CanBeMadeWhole es = MakesThenAsks es ⊎ CanBeChangedWhole es

-- the effect doesn't take this very entry out
abbrev pub leaves_entry : ℕ → List ℕ → Effect → Bool
leaves_entry d name (Unlink c other) = not ((c == d) && same_name other name)
leaves_entry d name (NewFile i) = true
leaves_entry d name (NewDir i) = true
leaves_entry d name (Write i patch) = true
leaves_entry d name (SetLen i size) = true
leaves_entry d name (Link c other i) = true
leaves_entry d name (Free i) = true
