-- What a copy of an effect takes room for.
use Rattle.std.specs.Prelude.{}
use Rattle.assise_record.specs.declared.effect.Effect.{Effect}
use Rattle.assise_record.specs.declared.effect.Effect.TheVariants.{NewFile, NewDir, Write, SetLen, Link, Unlink, Free}

-- the effect has a name or bytes, and not numbers alone
abbrev pub HoldsNameOrBytes : Effect → Type 0
HoldsNameOrBytes (Write inode patch) = Unit {0}
HoldsNameOrBytes (Link directory name inode) = Unit {0}
HoldsNameOrBytes (Unlink directory name) = Unit {0}
HoldsNameOrBytes (NewFile inode) = ⊥
HoldsNameOrBytes (NewDir inode) = ⊥
HoldsNameOrBytes (SetLen inode size) = ⊥
HoldsNameOrBytes (Free inode) = ⊥
