-- The inodes of a node, of which the recently used ones are hot.
-- Assise, OSDI 2020, section 3: hot and cold shared areas, by least recent use.
use Rattle.std.specs.Prelude.{◌≡◌, ◌⊎◌, ℕ, ◌-◌, ◌==◌, Bool, true, if◌then◌else◌, List, [], ◌∷◌, take, None, refl}
use Rattle.std.specs.Coded.{Coded, code_by, coded×, coded_list, coded_ℕ}
use Rattle.std.specs.List.{list_any}
use Rattle.std.specs.FinMap as map
use Rattle.assise_record.specs.declared.effect.Effect.{Effect}
use Rattle.assise_record.specs.declared.effect.Effect.TheVariants.{NewFile, NewDir, Write, SetLen, Link, Unlink, Free}
use Rattle.assise_inode_table.specs.Contents.{InodeMap, coded_inodes}
use Rattle.assise_inode_table.specs.Effects.{applied}

-- all inodes; the numbers of the hot ones, the last used one first; and how many may be hot
pub record AreaValue : Type 0 where
  pub inodes : InodeMap
  pub hot : List ℕ
  pub capacity : ℕ

abbrev pub coded_area : Coded AreaValue
coded_area = code_by (InodeMap × (List ℕ × ℕ)) (coded× coded_inodes (coded× (coded_list coded_ℕ) coded_ℕ)) (λ a. (a.inodes, (a.hot, a.capacity))) (λ p. record { inodes = p.0; hot = p.1.0; capacity = p.1.1 }) (λ _. refl)

-- no inodes
abbrev pub without_inodes : ℕ → AreaValue
without_inodes capacity = record { inodes = map.empty; hot = []; capacity = capacity }

-- the inode is hot
abbrev pub is_hot : AreaValue → ℕ → Bool
is_hot a i = list_any (λ j. i == j) a.hot

-- other inodes, and the same numbers hot
abbrev pub with_inodes : AreaValue → InodeMap → AreaValue
with_inodes a m = record { inodes = m; hot = a.hot; capacity = a.capacity }

-- the numbers without that one
abbrev pub without_number : List ℕ → ℕ → List ℕ
without_number [] i = []
without_number (j ∷ js) i = if i == j then js else j ∷ without_number js i

-- the inode is gone
abbrev pub removed : AreaValue → ℕ → AreaValue
removed a i = record { inodes = map.remove a.inodes i; hot = without_number a.hot i; capacity = a.capacity }

-- the hot ones after an effect, by which none becomes hot
abbrev pub hot_after : List ℕ → Effect → List ℕ
hot_after hot (Free i) = without_number hot i
hot_after hot (NewFile i) = hot
hot_after hot (NewDir i) = hot
hot_after hot (Write i patch) = hot
hot_after hot (SetLen i size) = hot
hot_after hot (Link d name i) = hot
hot_after hot (Unlink d name) = hot

-- what an effect makes of it
abbrev pub after_effect : AreaValue → Effect → AreaValue
after_effect a e = record { inodes = applied a.inodes e; hot = hot_after a.hot e; capacity = a.capacity }

-- with another capacity: of more hot ones than may be, those go that are longest unused
abbrev pub with_capacity : AreaValue → ℕ → AreaValue
with_capacity a n = record { inodes = a.inodes; hot = take n a.hot; capacity = n }

-- the used one comes first, and of more than may be hot the one goes that is longest unused
abbrev pub used : List ℕ → ℕ → ℕ → List ℕ
used hot i capacity = i ∷ take (capacity - 1) (without_number hot i)

-- after a use of an inode
abbrev pub after_use : AreaValue → ℕ → AreaValue
after_use a i = record { inodes = a.inodes; hot = used a.hot i a.capacity; capacity = a.capacity }

-- b is a after a use of an inode, or, without the memory to make it hot, a as it was
pub record IsTouched (a : AreaValue) (i : ℕ) (b : AreaValue) : Type 0 where
  pub either : (b ≡ after_use a i) ⊎ (b ≡ a)
  pub hot : is_hot a i ≡ true → b ≡ after_use a i
  pub missing : map.get a.inodes i ≡ None → b ≡ a
