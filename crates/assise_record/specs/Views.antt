-- An effect as it is read, before what it borrows is copied.
use Rattle.std.specs.Prelude.{◌≡◌, ℕ, ◌-◌, ◌≤◌, IsTrue, List, length, slice_range}
use Rattle.assise_names.specs.Name.{is_name}
use Rattle.assise_record.specs.Patch.{IsPatch}
use Rattle.assise_record.specs.declared.effect.Effect.{Effect}
use Rattle.assise_record.specs.declared.effect.Effect.TheVariants as effects
use Rattle.assise_record.specs.declared.effects.EffectView.{EffectView}
use Rattle.assise_record.specs.declared.effects.EffectView.TheVariants.{NewFile, NewDir, Write, SetLen, Link, Unlink, Free}

-- the effect that is seen
abbrev pub effect_of : EffectView → Effect
effect_of (NewFile inode) = effects.NewFile inode
effect_of (NewDir inode) = effects.NewDir inode
effect_of (Write inode offset bytes) = effects.Write inode (record { offset = offset; bytes = bytes.now })
effect_of (SetLen inode size) = effects.SetLen inode size
effect_of (Link directory name inode) = effects.Link directory name.now inode
effect_of (Unlink directory name) = effects.Unlink directory name.now
effect_of (Free inode) = effects.Free inode

-- its parts are lawful
abbrev pub IsLawfulEffect : EffectView → Type 0
IsLawfulEffect (NewFile inode) = Unit {0}
IsLawfulEffect (NewDir inode) = Unit {0}
IsLawfulEffect (Write inode offset bytes) = IsPatch (record { offset = offset; bytes = bytes.now })
IsLawfulEffect (SetLen inode size) = size ≤ 1048576
IsLawfulEffect (Link directory name inode) = IsTrue (is_name name.now)
IsLawfulEffect (Unlink directory name) = IsTrue (is_name name.now)
IsLawfulEffect (Free inode) = Unit {0}

-- the bytes of a write are those of a list that end at a place
abbrev pub EndsAt : EffectView → List ℕ → ℕ → Type 0
EndsAt (NewFile inode) all end = Unit {0}
EndsAt (NewDir inode) all end = Unit {0}
EndsAt (Write inode offset bytes) all end = (length bytes.now ≤ end) × (end ≤ length all) × (slice_range all (end - length bytes.now) end ≡ bytes.now)
EndsAt (SetLen inode size) all end = Unit {0}
EndsAt (Link directory name inode) all end = Unit {0}
EndsAt (Unlink directory name) all end = Unit {0}
EndsAt (Free inode) all end = Unit {0}
