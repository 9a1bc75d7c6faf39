-- What is printed of a tree, entry by entry.
use Rattle.assise_seq_tree.proofs.Common.{map, ◌≡◌, ℕ, ◌+◌, ◌^◌, ◌-◌, ◌<◌, min, List, [], ◌∷◌, ◌++◌, length, Ok, Bor, ap, sym, ◌∙◌, arith, append_assoc}
use Rattle.assise_seq_tree.proofs.Common.{append-nil, flat_map, path_spelling, as_directory, Place, place_line, places_below, places_of, Tree, file, dir}
use Rattle.assise_seq_tree.proofs.Common.{Entries, size_of, sizes_of, map_entries}
use Rattle.assise_seq_tree.proofs.Entries.{Stored}

-- ---- a directory and its entries

pub below_directory : (t : Tree) (es : Entries) → as_directory t ≡ Ok es → (path : List (List ℕ)) → places_below path t ≡ places_of path es
below_directory (dir fs) es h path = let same : fs ≡ es = cc in ap (places_of path) same
below_directory (file bytes) es h path = cc

-- ---- the measure: what is left of a directory's entries is smaller than the directory

pub few : (t : Tree) (es : Entries) → as_directory t ≡ Ok es → sizes_of es < size_of t
few (dir fs) es h = let same : fs ≡ es = cc in omega (arith, ap sizes_of same)
few (file bytes) es h = cc

pub fewer : (n : ℕ) (left rest : List Stored) (name : List ℕ) (t : Tree) → left ≡ (name, t) ∷ rest → sizes_of (map_entries left) < n →
    sizes_of (map_entries rest) < n
fewer n left rest name t is less = omega (arith, less, ap (λ es. sizes_of (map_entries es)) is)

pub falls : (n : ℕ) (left rest : List Stored) (name : List ℕ) (t : Tree) → left ≡ (name, t) ∷ rest → sizes_of (map_entries left) < n → size_of t < n
falls n left rest name t is less = omega (arith, less, ap (λ es. sizes_of (map_entries es)) is)

-- ---- the count

-- how many are counted with the places that are left
abbrev pub counted_with : ℕ → List Place → ℕ
counted_with n left = min (n + length left) (2 ^ 64 - 1)

-- ---- the lines

slashes : (path : List (Bor (List ℕ))) (name : List ℕ) → flat_map (λ n. 47 ∷ n.now) path ++ 47 ∷ name ≡ flat_map (λ n. 47 ∷ n)
    (map (λ n. n.now) path ++ name ∷ [])
slashes [] name = sym (append-nil (47 ∷ name))
slashes (n ∷ path) name = append_assoc (47 ∷ n.now) (flat_map (λ n. 47 ∷ n.now) path) (47 ∷ name) ∙ ap (λ t. (47 ∷ n.now) ++ t) (slashes path name)

-- a path of a name or more is spelled by a slash before each name
pub spelled : (path : List (Bor (List ℕ))) (name : List ℕ) → flat_map (λ n. 47 ∷ n.now) path ++ 47 ∷ name ≡ path_spelling (map (λ n. n.now) path ++ name ∷ [])
spelled [] name = slashes [] name
spelled (n ∷ path) name = slashes (n ∷ path) name

abbrev pub lines_of : List Place → List ℕ
lines_of places = flat_map place_line places

-- with the line of the next place, and those of what is left then, it is the text
pub lines_more : (done text : List ℕ) (left below rest : List Place) (place : Place) → left ≡ place ∷ below ++ rest → done ++ lines_of left ≡ text →
    (done ++ place_line place) ++ lines_of (below ++ rest) ≡ text
lines_more done text left below rest place is h = append_assoc done (place_line place) (lines_of (below ++ rest)) ∙ ap (λ ps. done ++ lines_of ps) (sym is) ∙ h
