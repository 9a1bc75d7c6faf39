-- The plain sequential file tree, without any representation.
-- POSIX.1-2017, base definitions: chapter 3, Directory and File; section 4.13, Pathname Resolution.
use Rattle.std.specs.Prelude.{◌≡◌, ◌≤◌, ℕ, ◌+◌, Bool, length, if◌then◌else◌, is_some, List, [], ◌∷◌, ◌++◌, Option, Some, None, unwrap_or, Result, Ok, Err}
use Rattle.std.specs.declared.cmp.Ordering.TheVariants.{Less}
use Rattle.std.specs.Ordering.{nat_cmp, is_eq, match_ordering}
use Rattle.std.specs.Option.{option_map_or}
use Rattle.std.specs.Cmp.Lexicographic.{slice_cmp}
use Rattle.assise_names.specs.declared.reply.TreeError.{TreeError}
use Rattle.assise_names.specs.declared.reply.TreeError.TheVariants.{NoEnt, NotDir}

-- a file with its bytes, or a directory with its entries by ascending names
mutual
  pub data Tree : Type 0 where
    file : List ℕ → Tree
    dir : Entries → Tree

  pub data Entries : Type 0 where
    no_entries : Entries
    entry : List ℕ → Tree → Entries → Entries

-- what is there at the opening
abbrev pub opening : Tree
opening = dir no_entries

-- ---- entries

abbrev pub same_name : List ℕ → List ℕ → Bool
same_name a b = is_eq (slice_cmp nat_cmp a b)

-- what an entry leads to
abbrev pub find : List ℕ → Entries → Option Tree
find name no_entries = None
find name (entry other t es) = if same_name name other then Some t else find name es

-- the entries with another tree under a name that is there
abbrev pub replace : List ℕ → Tree → Entries → Entries
replace name t no_entries = no_entries
replace name t (entry other u es) = if same_name name other then entry other t es else entry other u (replace name t es)

-- the entries with a new one, before the first greater name
abbrev pub insert : List ℕ → Tree → Entries → Entries
insert name t no_entries = entry name t no_entries
insert name t (entry other u es) = match_ordering (slice_cmp nat_cmp name other) (entry name t (entry other u es)) (entry other t es) (entry other u (insert name t es))

-- the entries with this one
abbrev pub set : List ℕ → Tree → Entries → Entries
set name t es = if is_some (find name es) then replace name t es else insert name t es

-- the entries without this one
abbrev pub remove : List ℕ → Entries → Entries
remove name no_entries = no_entries
remove name (entry other u es) = if same_name name other then es else entry other u (remove name es)

-- the names of the entries, in their order
abbrev pub names_of : Entries → List (List ℕ)
names_of no_entries = []
names_of (entry name t es) = name ∷ names_of es

-- how many entries there are
abbrev pub count : Entries → ℕ
count no_entries = 0
count (entry name t es) = count es + 1

-- ---- paths

-- the subtree at a path, or the first fault on the way
unfoldable pub at : Tree → List (List ℕ) → Result Tree TreeError
at t [] = Ok t
at (file bytes) (name ∷ p) = Err NotDir
at (dir es) (name ∷ p) = option_map_or (λ t. at t p) (find name es) (Err NoEnt)

-- the tree with x at the path; a name that is missing on the way becomes a directory
unfoldable pub put : Tree → List (List ℕ) → Tree → Tree
put t [] x = x
put (file bytes) (name ∷ p) x = file bytes
put (dir es) (name ∷ p) x = dir (set name (put (unwrap_or (find name es) (dir no_entries)) p x) es)

-- the tree with the entry at the path taken out
unfoldable pub without : Tree → List (List ℕ) → Tree
without t [] = t
without (file bytes) (name ∷ p) = file bytes
without (dir es) (name ∷ []) = dir (remove name es)
without (dir es) (name ∷ next ∷ p) = dir (replace name (without (unwrap_or (find name es) (dir no_entries)) (next ∷ p)) es)

-- the path begins with this prefix, which may be the whole of it
abbrev pub HasPrefix : List (List ℕ) → List (List ℕ) → Type 0
HasPrefix path prefix = (rest : List (List ℕ)) × (path ≡ prefix ++ rest)

-- neither path begins with the other
pub record AreDisjointPaths (p q : List (List ℕ)) : Type 0 where
  pub first : HasPrefix p q → ⊥
  pub second : HasPrefix q p → ⊥

-- ---- order, limits and size

-- the name comes before all names of the entries
abbrev pub IsBelow : List ℕ → Entries → Type 0
IsBelow name no_entries = Unit {0}
IsBelow name (entry other t es) = (slice_cmp nat_cmp name other ≡ Less) × IsBelow name es

-- the names of each directory ascend, at every depth
abbrev mutual
  pub IsOrdered : Tree → Type 0
  IsOrdered (file bytes) = Unit {0}
  IsOrdered (dir es) = AreOrdered es

  pub AreOrdered : Entries → Type 0
  AreOrdered no_entries = Unit {0}
  AreOrdered (entry name t es) = IsBelow name es × IsOrdered t × AreOrdered es

-- at every depth a file has at most 1,048,576 bytes, and a directory at most 4,096 entries
abbrev mutual
  pub IsWithinLimits : Tree → Type 0
  IsWithinLimits (file bytes) = length bytes ≤ 1048576
  IsWithinLimits (dir es) = (count es ≤ 4096) × AreWithinLimits es

  pub AreWithinLimits : Entries → Type 0
  AreWithinLimits no_entries = Unit {0}
  AreWithinLimits (entry name t es) = IsWithinLimits t × AreWithinLimits es

-- how large a tree is: an induction goes down by it
abbrev mutual
  pub size_of : Tree → ℕ
  size_of (file bytes) = 0
  size_of (dir es) = sizes_of es + 1

  pub sizes_of : Entries → ℕ
  sizes_of no_entries = 0
  sizes_of (entry name t es) = size_of t + sizes_of es + 1
