-- Which text spells which path, and what is wrong with the others.
-- POSIX.1-2017, base definitions: chapter 3, Absolute Pathname and Pathname; section 4.13, Pathname Resolution.
use Rattle.std.specs.Prelude.{◌≡◌, ◌<◌, ◌≤◌, ◌⊎◌, ℕ, Bool, ◌&&◌, ◌==◌, nat_le, nat_lt, if◌then◌else◌, IsTrue, All, List, [], ◌∷◌, ◌++◌, flat_map, length, take, Result, Ok, Err}
use Rattle.std.specs.Cmp.Lexicographic.{pointwise}
use Rattle.std.specs.List.{slice_split}
use Rattle.std.specs.Arc.{arc_slice_items, arc_value}
use Rattle.assise_names.specs.declared.path.PathFault.{PathFault}
use Rattle.assise_names.specs.declared.path.PathFault.TheVariants.{NotAbsolute, TooDeep, Memory}
use Rattle.assise_names.specs.declared.path.PathNames.{PathNames}
use Rattle.assise_names.specs.declared.path.PathNames.TheVariants.{Root, One, Two, Three, More}
use Rattle.assise_names.specs.Name.{is_name, name_of}

-- ---- a path, and its one spelling

-- up to 32 lawful names, the outermost first; the root has none
pub record IsPath (path : List (List ℕ)) : Type 0 where
  pub names : All (λ name. IsTrue (is_name name)) path
  pub depth : length path ≤ 32

-- a slash before each name, and one alone for the root
abbrev pub path_spelling : List (List ℕ) → List ℕ
path_spelling [] = 47 ∷ []
path_spelling (name ∷ names) = flat_map (λ n. 47 ∷ n) (name ∷ names)

-- the text is the spelling of this path
pub record SpellsPath (text : List ℕ) (path : List (List ℕ)) : Type 0 where
  pub lawful : IsPath path
  pub spelled : text ≡ path_spelling path

-- the names, wherever they lie
abbrev pub names_in : PathNames → List (List ℕ)
names_in Root = []
names_in (One names) = arc_value names
names_in (Two names) = arc_value names
names_in (Three names) = arc_value names
names_in (More names) = arc_slice_items names

-- where memory is held there is a name
abbrev pub IsShared : PathNames → Type 0
IsShared Root = Unit {0}
IsShared (One names) = 0 < length (arc_value names)
IsShared (Two names) = 0 < length (arc_value names)
IsShared (Three names) = 0 < length (arc_value names)
IsShared (More names) = 0 < length (arc_slice_items names)

-- q goes on from p by at least a name
abbrev pub IsProperPrefix : List (List ℕ) → List (List ℕ) → Type 0
IsProperPrefix p q = (name : List ℕ) × ((rest : List (List ℕ)) × (q ≡ p ++ name ∷ rest))

abbrev pub same_path : List (List ℕ) → List (List ℕ) → Bool
same_path p q = pointwise (pointwise ◌==◌) p q

-- whether q goes on from p
abbrev pub is_proper_prefix : List (List ℕ) → List (List ℕ) → Bool
is_proper_prefix p q = nat_lt (length p) (length q) && same_path p (take (length p) q)

-- ---- the path that a text spells, or its first fault

infixl 10 ◌>>=◌
abbrev pub ◌>>=◌ : {A B : Type 0} → Result A PathFault → (A → Result B PathFault) → Result B PathFault
(Ok x) >>= f = f x
(Err e) >>= f = Err e

-- each piece as a name, from the left
abbrev pub pieces_as_names : List (List ℕ) → Result (List (List ℕ)) PathFault
pieces_as_names [] = Ok []
pieces_as_names (piece ∷ pieces) = name_of piece >>= λ name. pieces_as_names pieces >>= λ names. Ok (name ∷ names)

-- these names, and then those that are read
abbrev pub with_prefix : List (List ℕ) → Result (List (List ℕ)) PathFault → Result (List (List ℕ)) PathFault
with_prefix prefix (Ok names) = Ok (prefix ++ names)
with_prefix prefix (Err e) = Err e

abbrev pub no_deeper : List (List ℕ) → Result (List (List ℕ)) PathFault
no_deeper names = if nat_le (length names) 32 then Ok names else Err TooDeep

-- the names of what stands behind the first slash
abbrev pub names_behind : List ℕ → Result (List (List ℕ)) PathFault
names_behind rest = if length rest == 0 then Ok [] else pieces_as_names (slice_split (λ b. b == 47) rest)

abbrev pub path_of : List ℕ → Result (List (List ℕ)) PathFault
path_of [] = Err NotAbsolute
path_of (b ∷ rest) = if b == 47 then (names_behind rest >>= no_deeper) else Err NotAbsolute

-- the path of these pieces
abbrev pub path_of_pieces : List (List ℕ) → Result (List (List ℕ)) PathFault
path_of_pieces pieces = pieces_as_names pieces >>= no_deeper

-- the path of what stands behind the first slash
abbrev pub path_behind : List ℕ → Result (List (List ℕ)) PathFault
path_behind rest = names_behind rest >>= no_deeper

-- how many names there are, or the first fault
abbrev pub name_count : Result (List (List ℕ)) PathFault → Result ℕ PathFault
name_count (Ok names) = Ok (length names)
name_count (Err fault) = Err fault

-- what is wanted was given, or memory ran out
abbrev pub GivesPath : {X : Type 0} → Result X PathFault → Result X PathFault → Type 0
GivesPath (Ok x) wanted = wanted ≡ Ok x
GivesPath (Err e) wanted = (e ≡ Memory) ⊎ (wanted ≡ Err e)

-- the same of a vector of names
abbrev pub GivesNames : {X : Type 0} → (X → List (List ℕ)) → Result X PathFault → Result (List (List ℕ)) PathFault → Type 0
GivesNames items (Ok x) wanted = wanted ≡ Ok (items x)
GivesNames items (Err e) wanted = (e ≡ Memory) ⊎ (wanted ≡ Err e)
