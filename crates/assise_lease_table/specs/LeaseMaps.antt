-- The leases of each inode.
use Rattle.std.specs.Prelude.{◌≡◌, ◌≢◌, ℕ, ◌<◌, List, Option, Some, None, nat_eq}
use Rattle.indexmap.specs.IndexMap.{get, spare}
use Rattle.smallvec.specs.SmallVec.{SmallVec}
use Rattle.assise_lease_table.specs.declared.lease.Lease.{Lease}
use Rattle.assise_lease_table.specs.declared.lease_map.LeaseMap.{LeaseMap}
use Rattle.assise_lease_table.specs.Lists.{items_or_none, HasPlaceIn}

-- the leases of the inode
abbrev pub leases_at : LeaseMap → ℕ → List Lease
leases_at m i = items_or_none (get nat_eq m.inodes i)

-- the inode has these leases, and each other inode those that it had
pub record Becomes (old new : ℕ → List Lease) (inode : ℕ) (ls : List Lease) : Type 0 where
  pub here : new inode ≡ ls
  pub elsewhere : (i : ℕ) → i ≢ inode → new i ≡ old i

-- each inode has the leases that it had
abbrev pub SameLeases : (ℕ → List Lease) → (ℕ → List Lease) → Type 0
SameLeases old new = (i : ℕ) → new i ≡ old i

-- the inode's list has a place for a lease of the holder; or, where it has none, the map has a place for a new list, which has room for a lease
abbrev pub HasPlace : LeaseMap → ℕ → Option (SmallVec Lease) → Type 0
HasPlace m h None = 0 < spare m.inodes
HasPlace m h (Some v) = HasPlaceIn h v

-- a lease of the inode for the holder takes no memory
abbrev pub LeaseHasRoom : LeaseMap → ℕ → ℕ → Type 0
LeaseHasRoom m h i = HasPlace m h (get nat_eq m.inodes i)
