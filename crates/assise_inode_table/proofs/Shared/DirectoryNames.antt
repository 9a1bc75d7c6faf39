-- The names in a directory: of its entries and of its links.
use Rattle.assise_inode_table.proofs.Common.{◌≡◌, ℕ, true, false, cond, List, [], ◌∷◌, map, Some, None, is_some, Ordering, Less, Equal, Greater, nat_cmp, T}
use Rattle.assise_inode_table.proofs.Common.{refl, sym, ap, ◌∙◌, list_any, is_lt, slice_cmp, below_all, is_sorted, dir, Entries, no_entries, entry, same_name}
use Rattle.assise_inode_table.proofs.Common.{find, IsBelow, AreOrdered, names_of, same_entries, Links, arith}
use Rattle.std.specs.Prelude.{◌||◌}
use Rattle.std.specs.FinMap as fin
use Rattle.std.proofs.Math.Facts.{and_yes}

pub is_some-find : (name : List ℕ) (es : Entries) → is_some (find name es) ≡ list_any (same_name name) (names_of es)
is_some-find name no_entries = refl
is_some-find name (entry other t es) =
    elim (same_name name other) as (λ b. is_some (cond b (Some t) (find name es)) ≡ (b || list_any (same_name name) (names_of es))) [
      | true ↦ refl
      | false ↦ is_some-find name es
    ]

-- ---- ascending names
-- empty directories of these names
abbrev pub bare : List (List ℕ) → Entries
bare [] = no_entries
bare (name ∷ names) = entry name (dir no_entries) (bare names)

abbrev pub Ascend : List (List ℕ) → Type 0
Ascend names = AreOrdered (bare names)

names_of-bare : (names : List (List ℕ)) → names_of (bare names) ≡ names
names_of-bare [] = refl
names_of-bare (name ∷ names) = ap (λ ks. name ∷ ks) (names_of-bare names)

find-bare : (q : List ℕ) (names : List (List ℕ)) → find q (bare names) ≡ cond (list_any (same_name q) names) (Some (dir no_entries)) None
find-bare q [] = refl
find-bare q (name ∷ names) =
    elim (same_name q name) as (λ b. cond b (Some (dir no_entries)) (find q (bare names)) ≡ cond (b || list_any (same_name q) names) (Some (dir no_entries))
    None) [
      | true ↦ refl
      | false ↦ find-bare q names
    ]

-- ascending names are one list where they are the same names
same_names : (xs ys : List (List ℕ)) → Ascend xs → Ascend ys → ((q : List ℕ) → list_any (same_name q) xs ≡ list_any (same_name q) ys) → xs ≡ ys
same_names xs ys a b h = grind (arith, names_of-bare xs, names_of-bare ys, same_entries, find-bare)

-- ---- of entries
below-names : (name : List ℕ) (es : Entries) → IsBelow name es → IsBelow name (bare (names_of es))
below-names name no_entries below = tt
below-names name (entry other t es) below = (below.0, below-names name es below.1)

pub names_below : (name : List ℕ) (es : Entries) → IsBelow name (bare (names_of es)) → IsBelow name es
names_below name no_entries below = tt
names_below name (entry other t es) below = (below.0, names_below name es below.1)

ascend-names : (es : Entries) → AreOrdered es → Ascend (names_of es)
ascend-names no_entries s = tt
ascend-names (entry name t es) s = (below-names name es s.0, tt, ascend-names es s.2)

-- ---- of links
less : (o : Ordering) → T (is_lt o) → o ≡ Less
less Less h = refl
less Equal h = absurd h
less Greater h = absurd h

below-keys : (name : List ℕ) (es : List (List ℕ × ℕ)) → T (below_all (slice_cmp nat_cmp) name es) → IsBelow name (bare (map (λ e. e.0) es))
below-keys name [] h = tt
below-keys name (e ∷ es) h =
    let both = and_yes (is_lt (slice_cmp nat_cmp name e.0)) (below_all (slice_cmp nat_cmp) name es) h in (less _ both.0, below-keys name es both.1)

ascend-sorted : (es : List (List ℕ × ℕ)) → T (is_sorted (slice_cmp nat_cmp) es) → Ascend (map (λ e. e.0) es)
ascend-sorted [] h = tt
ascend-sorted (e ∷ es) h =
    let both = and_yes (below_all (slice_cmp nat_cmp) e.0 es) (is_sorted (slice_cmp nat_cmp) es) h in
    (below-keys e.0 es both.0, tt, ascend-sorted es both.1)

pub ascend-keys : (links : Links) → Ascend (fin.keys links)
ascend-keys links = ascend-sorted (fin.entries links) (fin.entries_sorted links)

-- ordered entries have the names that the links have, where both have the same ones
pub names_are_keys : (es : Entries) (links : Links) → AreOrdered es → ((q : List ℕ) → is_some (find q es) ≡ is_some (fin.get links q)) →
    names_of es ≡ fin.keys links
names_are_keys es links s h =
    same_names (names_of es) (fin.keys links) (ascend-names es s) (ascend-keys links) (λ q. sym (is_some-find q es) ∙ h q ∙ fin.contains_key-keys links q)

pub same_found : (es : Entries) (links : Links) → names_of es ≡ fin.keys links → (q : List ℕ) → is_some (find q es) ≡ is_some (fin.get links q)
same_found es links e q = is_some-find q es ∙ ap (list_any (same_name q)) e ∙ sym (fin.contains_key-keys links q)
