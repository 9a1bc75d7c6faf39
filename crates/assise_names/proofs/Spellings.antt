-- A text has the path that it spells, and no other: the names of a spelling are its pieces between slashes.
use Rattle.assise_names.proofs.Common.{◌≡◌, ℕ, ◌≤◌, Bool, true, false, ◌||◌, ◌==◌, nat_lt, List, [], ◌∷◌, ◌++◌, length, Result, Ok, Err, refl, ap, sym, ◌∙◌}
use Rattle.assise_names.proofs.Common.{inl, inr, arith, IsTrue, All, IsOkUnless, MatchResult, is_ok, cases_Bool, and_parts, not-true, le-ltb, leb-true}
use Rattle.assise_names.proofs.Common.{ltb-false, le-leb, nat_tests, All-nil, All-cons, All-head, All-tail, slice_split_at, slice_split_none}
use Rattle.assise_names.proofs.Common.{join_with_byte-slice_split, slice_split, join_with_byte, list_any, is_utf8, is_name, is_barred, is_dots, name_of, ◌>>=◌}
use Rattle.assise_names.proofs.Common.{IsPath, SpellsPath, path_spelling, pieces_as_names, no_deeper, names_behind, path_behind, path_of, GivesPath, PathFault}
use Rattle.assise_names.proofs.Common.{Memory}
use Rattle.std.proofs.lemmas.List.{append-nil}
use Rattle.assise_names.proofs.PathLemmas.{few_names, not_cut}

abbrev LevelsInvariant : List ℕ → Type 0
LevelsInvariant name = IsTrue (is_name name)

abbrev is_slash : ℕ → Bool
is_slash b = b == 47

-- ---- one name

-- what `is_name` says, part by part
record Parts (name : List ℕ) : Type 0 where
  some : (length name == 0) ≡ false
  few : nat_lt 255 (length name) ≡ false
  good : (list_any is_barred name || is_dots name) ≡ false

parts_of : (name : List ℕ) → LevelsInvariant name → Parts name
parts_of name h = grind (arith, and_parts, not-true, le-ltb, leb-true)

name_of-lawful : (name : List ℕ) → LevelsInvariant name → name_of name ≡ Ok name
name_of-lawful name h = let p = parts_of name h in rw (p.some, p.few, p.good)

same_name : (text name : List ℕ) → name_of text ≡ Ok name → name ≡ text
same_name text name h = grind (arith, cases_Bool, nat_lt, list_any, is_barred, is_dots)

or_left : (a b : Bool) → (a || b) ≡ false → a ≡ false
or_left false b h = refl
or_left true b h = cc

or_right : (a b : Bool) → (a || b) ≡ false → b ≡ false
or_right false b h = h
or_right true b h = cc

no_slashes : (bytes : List ℕ) → list_any is_barred bytes ≡ false → All (λ b. is_slash b ≡ false) bytes
no_slashes [] h = All-nil (λ b. is_slash b ≡ false)
no_slashes (b ∷ bytes) h =
    All-cons (λ b. is_slash b ≡ false) b bytes (or_left (b == 47) (b == 0) (or_left (is_barred b) (list_any is_barred bytes) h))
    (no_slashes bytes (or_right (is_barred b) (list_any is_barred bytes) h))

-- a text without a fault is a name
pub lawful_name : (text : List ℕ) → is_utf8 text ≡ true → name_of text ≡ Ok text → IsTrue (is_name text)
lawful_name text utf8 h = grind (arith, cases_Bool, nat_lt, list_any, is_barred, is_dots, le-leb, ltb-false)

-- a name is a text without a fault
pub faultless_name : (text : List ℕ) → is_name text ≡ true → name_of text ≡ Ok text
faultless_name text h = let p = parts_of text h in rw (p.some, p.few, p.good) refl

-- the same as a test
pub is_faultless : (text : List ℕ) (found : Result (Unit {0}) PathFault) → is_utf8 text ≡ true →
    MatchResult found (λ _. name_of text ≡ Ok text) (λ fault. name_of text ≡ Err fault) → is_ok found ≡ is_name text
is_faultless text (Ok _) utf8 h = sym (lawful_name text utf8 h)
is_faultless text (Err fault) utf8 h = grind (arith, cases_Bool, is_name, faultless_name)

-- ---- the names of a path

names_of-lawful : (names : List (List ℕ)) → All LevelsInvariant names → pieces_as_names names ≡ Ok names
names_of-lawful [] h = refl
names_of-lawful (name ∷ names) h =
    rw (name_of-lawful name (All-head LevelsInvariant name names h), names_of-lawful names (All-tail LevelsInvariant name names h))

-- a result that is there came from one that was
came_from : {A B : Type 0} (r : Result A PathFault) (f : A → Result B PathFault) (y : B) → (r >>= f) ≡ Ok y → (x : A) × ((r ≡ Ok x) × (f x ≡ Ok y))
came_from (Ok x) f y h = (x, (refl, h))
came_from (Err e) f y h = cc

same_names : (pieces names : List (List ℕ)) → pieces_as_names pieces ≡ Ok names → names ≡ pieces
same_names [] names h = cc
same_names (piece ∷ pieces) names h =
    let one = came_from (name_of piece) (λ name. pieces_as_names pieces >>= λ names. Ok (name ∷ names)) names h in
    let others = came_from (pieces_as_names pieces) (λ names. Ok (one.0 ∷ names)) names one.1.1 in
    let head : one.0 ≡ piece = same_name piece one.0 one.1.0 in
    let tail : others.0 ≡ pieces = same_names pieces others.0 others.1.0 in
    let whole : names ≡ one.0 ∷ others.0 = let e = others.1.1 in cc in
    cc

-- ---- the spelling, and its pieces

-- a slash before each name is a slash, and then the names with slashes between them
spelling-join : (name : List ℕ) (names : List (List ℕ)) → path_spelling (name ∷ names) ≡ 47 ∷ join_with_byte 47 (name ∷ names)
spelling-join name [] = ap (λ t. 47 ∷ t) (append-nil name)
spelling-join name (next ∷ names) = ap (λ t. 47 ∷ (name ++ t)) (spelling-join next names)

pieces_of-join : (name : List ℕ) (names : List (List ℕ)) → All LevelsInvariant (name ∷ names) → slice_split is_slash (join_with_byte 47 (name ∷ names))
    ≡ name ∷ names
pieces_of-join name [] h =
    slice_split_none is_slash name (no_slashes name (or_left _ _ (parts_of name (All-head LevelsInvariant name [] h)).good))
pieces_of-join name (next ∷ names) h = grind (
  arith,
  pieces_of-join next names (All-tail LevelsInvariant name (next ∷ names) h),
  slice_split_at is_slash name 47 (join_with_byte 47 (next ∷ names))
      (no_slashes name (or_left _ _ (parts_of name (All-head LevelsInvariant name (next ∷ names) h)).good)) refl,
)

join-some : (name : List ℕ) (names : List (List ℕ)) → (length name == 0) ≡ false → (length (join_with_byte 47 (name ∷ names)) == 0) ≡ false
join-some [] names h = cc
join-some (b ∷ bytes) [] h = h
join-some (b ∷ bytes) (next ∷ names) h = grind (arith, nat_tests)

-- ---- both directions

names_behind-join : (name : List ℕ) (names : List (List ℕ)) → All LevelsInvariant (name ∷ names) → names_behind (join_with_byte 47 (name ∷ names))
    ≡ Ok (name ∷ names)
names_behind-join name names h = search (join-some, parts_of, pieces_of-join, names_of-lawful, arith) parts 3

not_deep : (names : List (List ℕ)) → length names ≤ 32 → no_deeper names ≡ Ok names
not_deep names h = rw (le-leb (length names) 32 h)

path_of-spelling : (path : List (List ℕ)) → IsPath path → path_of (path_spelling path) ≡ Ok path
path_of-spelling [] h = refl
path_of-spelling (name ∷ names) h = grind (arith, path_of, spelling-join, no_deeper, names_behind-join, not_deep)

-- a text that spells a path has no fault
pub complete : (text : List ℕ) (r : Result (List (List ℕ)) PathFault) → GivesPath r (path_of text) → (path : List (List ℕ)) → SpellsPath text path →
    IsOkUnless r Memory
complete text (Ok p) h path s = tt
complete text (Err e) (inl memory) path s = memory
complete text (Err e) (inr fault) path s = let is : path_of text ≡ Ok path = ap path_of s.spelled ∙ path_of-spelling path s.lawful in cc

behind-some : (b : ℕ) (rest : List ℕ) → names_behind (b ∷ rest) ≡ pieces_as_names (slice_split is_slash (b ∷ rest))
behind-some b rest = let some : (length (b ∷ rest) == 0) ≡ false = grind (arith, nat_tests) in rw some

-- the names behind the first slash, joined again
joined : (rest : List ℕ) (names : List (List ℕ)) → names_behind rest ≡ Ok names → 47 ∷ rest ≡ path_spelling names
joined [] names h = let none : names ≡ [] = cc in ap path_spelling (sym none)
joined (b ∷ rest) names h =
    let same : names ≡ slice_split is_slash (b ∷ rest) = same_names (slice_split is_slash (b ∷ rest)) names (sym (behind-some b rest) ∙ h) in
    let whole : join_with_byte 47 names ≡ b ∷ rest = ap (join_with_byte 47) same ∙ join_with_byte-slice_split 47 (b ∷ rest) in
    respelled names (b ∷ rest) whole (λ none. let bad : [] ≡ b ∷ rest = rw none at whole in cc)
  where
    respelled : (names : List (List ℕ)) (rest : List ℕ) → join_with_byte 47 names ≡ rest → (names ≡ [] → ⊥) → 47 ∷ rest ≡ path_spelling names
    respelled [] rest e some = absurd (some refl)
    respelled (name ∷ names) rest e some = ap (λ t. 47 ∷ t) (sym e) ∙ sym (spelling-join name names)

-- the text that gave a path is its spelling
pub spelled : (rest : List ℕ) (names : List (List ℕ)) → names_behind rest ≡ Ok names → All (λ name. IsTrue (is_name name)) names → length names ≤ 32 →
    SpellsPath (47 ∷ rest) names
spelled rest names h lawful depth = record { lawful = record { names = lawful; depth = depth }; spelled = joined rest names h }

-- the path behind the first slash is spelled by the whole text
pub spelled_behind : (rest : List ℕ) (path : List (List ℕ)) → path_behind rest ≡ Ok path → All (λ name. IsTrue (is_name name)) path →
    SpellsPath (47 ∷ rest) path
spelled_behind rest path h lawful = grind (arith, came_from, names_behind, no_deeper, not_cut, spelled, few_names)
