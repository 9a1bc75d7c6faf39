-- A directory grows by its last entry: the names ascend, so a new first entry stands before the others.
use Rattle.assise_digest.proofs.Common.{◌≡◌, ◌≤◌, ◌<◌, ℕ, List, [], ◌∷◌, ◌++◌, length, Less, refl, ap, length-append, arith, AllByRecursion, Tree, dir, Entries}
use Rattle.assise_digest.proofs.Common.{no_entries, entry, insert, put, names_of, IsBelow, find_below, subtrees_of}
use Rattle.std.proofs.Common.{nat_cmp}
use Rattle.std.specs.List.Sorted.{IsStrictlySortedBy}
use Rattle.std.specs.Cmp.Lexicographic.{slice_cmp}
use Rattle.std.proofs.lemmas.Map.Keys.{sorted_head, sorted_tail}
use Rattle.assise_digest.proofs.Forests.{degree-subtrees_of}

sorted_rest : (before names : List (List ℕ)) → IsStrictlySortedBy (slice_cmp nat_cmp) (before ++ names) → IsStrictlySortedBy (slice_cmp nat_cmp) names
sorted_rest [] names s = s
sorted_rest (name ∷ before) names s = sorted_rest before names (sorted_tail (slice_cmp nat_cmp) name (before ++ names) s)

below_names : (name : List ℕ) (es : Entries) → AllByRecursion (λ other. slice_cmp nat_cmp name other ≡ Less) (names_of es) → IsBelow name es
below_names name no_entries h = tt
below_names name (entry other t es) h = (h.0, below_names name es h.1)

insert_first : (name : List ℕ) (x : Tree) (es : Entries) → IsBelow name es → insert name x es ≡ entry name x es
insert_first name x no_entries below = refl
insert_first name x (entry other t es) below = grind arith

put_first : (name : List ℕ) (x : Tree) (es : Entries) → IsBelow name es → put (dir es) (name ∷ []) x ≡ dir (entry name x es)
unfolding put
put_first name x es below = grind (arith, find_below, insert_first)

pub grows : (names before : List (List ℕ)) (name : List ℕ) (es : Entries) (x : Tree) → IsStrictlySortedBy (slice_cmp nat_cmp) names →
    before ++ name ∷ names_of es ≡ names
    → put (dir es) (name ∷ []) x ≡ dir (entry name x es)
grows names before name es x s e = grind (arith, put_first, below_names, sorted_head, sorted_rest)

-- a name that is left has a tree
pub some_left : (es : Entries) (names rest : List (List ℕ)) (old trees : List Tree) → rest ++ names_of es ≡ names → trees ++ subtrees_of es ≡ old →
    length names ≤ length old → 0 < length rest → 0 < length trees
some_left es names rest old trees a b fits some =
    omega (arith, ap length a, ap length b, length-append rest (names_of es), length-append trees (subtrees_of es), degree-subtrees_of es)
