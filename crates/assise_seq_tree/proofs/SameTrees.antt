-- Two trees that are compared entry by entry.
use Rattle.assise_seq_tree.proofs.Common.{◌≡◌, ◌↔◌, ◌+◌, ℕ, List, [], ◌∷◌, ◌++◌, Bor, Ok, Err, Result, Bool, IfOk, IsTrue, refl, arith, ArePairsSame}
use Rattle.assise_seq_tree.proofs.Common.{size_of_pairs, as_directory, Tree, size_of, map_entries}
use Rattle.assise_seq_tree.proofs.Entries.{Stored}

same_stored : (es fs : List Stored) → map_entries es ≡ map_entries fs → es ≡ fs
same_stored [] [] same = refl
same_stored [] (f ∷ fs) same = cc
same_stored (e ∷ es) [] same = cc
same_stored (e ∷ es) (f ∷ fs) same =
    let name : e.0 ≡ f.0 = cc in
    let tree : e.1 ≡ f.1 = cc in
    let others : map_entries es ≡ map_entries fs = cc in
    let rest : es ≡ fs = same_stored es fs others in
    λ i. (name i, tree i) ∷ rest i

-- directories are the same exactly where their entries are
pub same_directories : (t u : Tree) (es fs : List Stored) → as_directory t ≡ Ok (map_entries es) → as_directory u ≡ Ok (map_entries fs) → (es ≡ fs) ↔ (t ≡ u)
same_directories t u es fs is other = grind (arith, same_stored)

-- ---- the pairs that are pending

abbrev pub Pair : Type 0
Pair = Bor Tree × Bor Tree

same_front : (pairs : List Pair) (pair : Pair) → ArePairsSame (pairs ++ pair ∷ []) → ArePairsSame pairs × (pair.0.now ≡ pair.1.now)
same_front [] pair same = (tt, same.0)
same_front (p ∷ pairs) pair same = let rest = same_front pairs pair same.1 in ((same.0, rest.0), rest.1)

same_more : (pairs : List Pair) (pair : Pair) → ArePairsSame pairs → pair.0.now ≡ pair.1.now → ArePairsSame (pairs ++ pair ∷ [])
same_more [] pair same is = (is, tt)
same_more (p ∷ pairs) pair same is = (same.0, same_more pairs pair same.1 is)

pub same_last : (all pairs : List Pair) (pair : Pair) → all ≡ pairs ++ pair ∷ [] → ArePairsSame all ↔ ((pair.0.now ≡ pair.1.now) × ArePairsSame pairs)
same_last all pairs pair is = grind (arith, same_front, same_more)

pub size_more : (pairs : List Pair) (pair : Pair) → size_of_pairs (pairs ++ pair ∷ []) ≡ size_of_pairs pairs + size_of pair.0.now + 1
size_more [] pair = omega arith
size_more (p ∷ pairs) pair = omega (arith, size_more pairs pair)

-- entries of one name: what they lead to is pending
pub names_more : (left right es fs : List Stored) (n m : List ℕ) (t u : Bor Tree) (pairs more : List Pair) {Q : Type 0} → left ≡ (n, t.now) ∷ es →
    right ≡ (m, u.now) ∷ fs → n ≡ m → more ≡ pairs ++ (t, u) ∷ [] → ((left ≡ right) × ArePairsSame pairs) ↔ Q → ((es ≡ fs) × ArePairsSame more) ↔ Q
names_more left right es fs n m t u pairs more one two name all before = grind (arith, same_last)

-- what is said of the entries of two directories is said of the directories
pub on_same : {E P Q : Type 0} (R S : Type 0) (result : Result Bool E) → P ↔ Q → IfOk result (λ same. (IsTrue same × R) ↔ (P × S)) →
    IfOk result (λ same. (IsTrue same × R) ↔ (Q × S))
on_same R S (Ok same) (there, back) said = (λ r. let both = said.0 r in (there both.0, both.1), λ both. said.1 (back both.0, both.1))
on_same R S (Err e) (there, back) said = tt
