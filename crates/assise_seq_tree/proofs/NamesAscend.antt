-- The names of a list ascend.
use Rattle.assise_seq_tree.proofs.Common.{◌≡◌, ℕ, List, Result, Ok, Err, Less, nat_cmp, refl, ap, subst, slice_cmp, AllByRecursion, IsStrictlySortedBy, Names}
use Rattle.assise_seq_tree.proofs.Common.{TreeError, ◌>>=◌, as_directory, reply_and_tree, list_answer, Tree, file, dir, Entries, no_entries, entry, names_of}
use Rattle.assise_seq_tree.proofs.Common.{at, IsBelow, IsOrdered, AreOrdered}
use Rattle.assise_seq_tree.proofs.Shared.Moves.{Path}
use Rattle.assise_seq_tree.proofs.TreePlaced.{ordered-at}

names_above : (name : List ℕ) (es : Entries) → IsBelow name es → AllByRecursion (λ other. slice_cmp nat_cmp name other ≡ Less) (names_of es)
names_above name no_entries below = tt
names_above name (entry other t es) below = (below.0, names_above name es below.1)

names_ascend : (es : Entries) → AreOrdered es → IsStrictlySortedBy (slice_cmp nat_cmp) (names_of es)
unfolding IsStrictlySortedBy
names_ascend no_entries s = tt
names_ascend (entry name t es) s = (names_above name es s.0, names_ascend es s.2)

pub listed_names_ascend : (t u : Tree) (p names : Path) → IsOrdered t → list_answer t p ≡ (Names names, u) → IsStrictlySortedBy (slice_cmp nat_cmp) names
listed_names_ascend t u p names s h = go (at t p) refl h
  where
    go : (r : Result Tree TreeError) → at t p ≡ r → reply_and_tree t ((r >>= λ found. as_directory found) >>= λ es. Ok (Names (names_of es), t))
        ≡ (Names names, u) → IsStrictlySortedBy (slice_cmp nat_cmp) names
    go (Ok (file bytes)) is h = let no = ap (λ r. r.0) h in cc
    go (Ok (dir es)) is h =
        let first = ap (λ r. r.0) h in
        let one : names_of es ≡ names = cc in
        subst (IsStrictlySortedBy (slice_cmp nat_cmp)) one (names_ascend es (ordered-at p t (dir es) s is))
    go (Err e) is h = let no = ap (λ r. r.0) h in cc
