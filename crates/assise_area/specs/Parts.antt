-- A hot part and a cold part, seen as one map.
-- Assise, OSDI 2020, section 3: hot and cold shared areas; the textbooks' finite maps.
use Rattle.std.specs.Prelude.{◌≡◌, ℕ, ◌-◌, ◌≤◌, List, ◌∷◌, ◌++◌, take, Option, Some, None, cond, nat_eq}
use Rattle.std.specs.Option.{option_or}
use Rattle.std.specs.List.{list_any}
use Rattle.std.specs.Map.{lookup, keys_of}
use Rattle.std.specs.FinMap as map
use Rattle.lru.specs.LruCache.{LruCache, lru_cache}
use Rattle.assise_inode_table.specs.Contents.{Content, InodeMap}
use Rattle.assise_area.specs.Hot.{AreaValue}

abbrev pub Entries : Type 0
Entries = List (ℕ × Content)

-- what each part has at a number
abbrev pub hot_at : Entries → ℕ → Option Content
hot_at hot q = lookup (nat_eq q) hot

abbrev pub cold_at : Entries → ℕ → Option Content
cold_at cold q = lookup (nat_eq q) cold

-- what both have, the hot part first
abbrev pub value_in : Entries → Entries → ℕ → Option Content
value_in hot cold q = option_or (hot_at hot q) (cold_at cold q)

-- both as one map
abbrev pub both_parts : Entries → Entries → InodeMap
both_parts hot cold = map.from_entries (hot ++ cold)

abbrev pub area_seen : LruCache ℕ Content → Entries → AreaValue
area_seen hot cold = record { inodes = both_parts hot.entries cold; hot = keys_of hot.entries; capacity = hot.cap }

-- no inode is in both
unfoldable pub AreDisjoint : Entries → Entries → Type 0
AreDisjoint hot cold = (q : ℕ) (content : Content) → hot_at hot q ≡ Some content → cold_at cold q ≡ None

-- what holds of the parts of an area
pub record AreaInvariant (hot : LruCache ℕ Content) (cold : Entries) : Type 0 where
  pub disjoint : AreDisjoint hot.entries cold
  pub most : hot.cap ≤ 4096

-- both parts hold together what they held
abbrev pub HoldSame : Entries → Entries → Entries → Entries → Type 0
HoldSame hot cold hot' cold' = (q : ℕ) → value_in hot' cold' q ≡ value_in hot cold q

-- a cold inode is the first of the hot ones, and of more than may be hot the last is cold
pub record IsWarmed (i : ℕ) (hot hot' : LruCache ℕ Content) (cold cold' : Entries) : Type 0 where
  pub keys : keys_of hot'.entries ≡ i ∷ take (hot.cap - 1) (keys_of hot.entries)
  pub cap : hot'.cap ≡ hot.cap
  pub same : HoldSame hot.entries cold hot'.entries cold'
  pub disjoint : AreDisjoint hot'.entries cold'

-- a cold inode is the first of the hot ones, of which no more are left than may be
pub record IsPushed (i : ℕ) (hot hot' : LruCache ℕ Content) (cold : Entries) : Type 0 where
  pub content : Content
  pub there : cold_at cold i ≡ Some content
  pub entries : hot'.entries ≡ (i, content) ∷ take (hot.cap - 1) hot.entries
  pub cap : hot'.cap ≡ hot.cap

-- some numbers have that in the cold part, and the others what they had
abbrev pub AreWritten : List ℕ → Option Content → Entries → Entries → Type 0
AreWritten numbers value cold cold' = (q : ℕ) → cold_at cold' q ≡ cond (list_any (nat_eq q) numbers) value (cold_at cold q)

-- the first n hot inodes stay hot, and the others are cold
pub record IsCooled (n : ℕ) (hot hot' : LruCache ℕ Content) (cold cold' : Entries) : Type 0 where
  pub left : hot' ≡ lru_cache (take n hot.entries) hot.cap
  pub same : HoldSame hot.entries cold hot'.entries cold'
  pub disjoint : AreDisjoint hot'.entries cold'
