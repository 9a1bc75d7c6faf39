-- The list of an inode's leases, where it has one.
use Rattle.std.specs.Prelude.{◌≡◌, ℕ, Bool, true, false, List, [], ◌∷◌, Option, Some, None, is_some, ◌⊎◌}
use Rattle.smallvec.specs.SmallVec.{SmallVec, HasRoomFor}
use Rattle.assise_lease_table.specs.declared.lease.Lease.{Lease}
use Rattle.assise_lease_table.specs.Leases.{lease_of}

abbrev pub is_any : List Lease → Bool
is_any [] = false
is_any (l ∷ ls) = true

-- the leases of an entry, where there is one
abbrev pub leases_in : {V : Type 0} → (V → List Lease) → Option V → List Lease
leases_in leases None = []
leases_in leases (Some v) = leases v

-- an entry that is there has a lease: nothing is kept for what is not held
abbrev pub is_none_or : {V : Type 0} → (V → Bool) → Option V → Bool
is_none_or any None = true
is_none_or any (Some v) = any v

abbrev pub items_or_none : Option (SmallVec Lease) → List Lease
items_or_none o = leases_in (λ v. v.items) o

abbrev pub holds_lease : Option (SmallVec Lease) → Bool
holds_lease o = is_none_or (λ v. is_any v.items) o

-- the list has a place for a lease of the holder: that of its old one, or one more
abbrev pub HasPlaceIn : ℕ → SmallVec Lease → Type 0
HasPlaceIn h v = (is_some (lease_of v.items h) ≡ true) ⊎ HasRoomFor v 1
