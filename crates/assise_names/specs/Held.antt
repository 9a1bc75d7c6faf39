-- What a value holds behind a pointer, or nothing where it has none.
use Rattle.std.specs.Prelude.{ℕ, ◌<◌, List, [], length, Option, Some, None}
use Rattle.std.specs.Arc.{arc_value}
use Rattle.std.specs.Global.{Box, Global, Vec}
use Rattle.std.specs.declared.sync.Arc.{Arc}

-- bytes with several owners
abbrev pub bytes_held : Option (Arc (List ℕ) Global) → List ℕ
bytes_held None = []
bytes_held (Some bytes) = arc_value bytes

-- there is a pointer only where there is a byte
abbrev pub HasSomeBytes : Option (Arc (List ℕ) Global) → Type 0
HasSomeBytes None = Unit {0}
HasSomeBytes (Some bytes) = 0 < length (arc_value bytes)

-- names in a vector
abbrev pub names_held : Option (Box (Vec (List ℕ))) → List (List ℕ)
names_held None = []
names_held (Some names) = names.value.items

-- there is a vector only where there is a name
abbrev pub HasSomeNames : Option (Box (Vec (List ℕ))) → Type 0
HasSomeNames None = Unit {0}
HasSomeNames (Some names) = 0 < length names.value.items
