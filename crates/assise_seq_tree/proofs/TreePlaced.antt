-- A move of a tree to another path: a placeholder first, then the tree in its place.
use Rattle.assise_seq_tree.proofs.Common.{◌≡◌, ℕ, ◌<◌, arith, List, [], ◌∷◌, ◌++◌, length, Option, Some, None, Ok, sym, subst, parent_of, last_name, Tree, file}
use Rattle.assise_seq_tree.proofs.Common.{dir, Entries, no_entries, at, put, without, IsOrdered, AreDisjointPaths}
use Rattle.assise_seq_tree.proofs.Shared.TreePut.{through_entry}
use Rattle.assise_seq_tree.proofs.Order.{ordered-find}
use Rattle.assise_seq_tree.proofs.Shared.Paths.{turned_disjoint}
use Rattle.assise_seq_tree.proofs.Shared.Moves.{Path, Disjoint, at-put_disjoint, at-without_disjoint, without-put, put-put_any, at-put_new, ordered-without}
use Rattle.assise_seq_tree.proofs.Shared.Moves.{parent_and_last}

-- A placeholder at q, the tree at p taken out, and something put over the placeholder.
pub record Moves (p q : Path) (t e : Tree) : Type 0 where
  pub source : at (put t q e) p ≡ at t p
  pub target : at (without (put t q e) p) q ≡ Ok e
  pub over : (y : Tree) → IsOrdered y → put (without (put t q e) p) q y ≡ put (without t p) q y

pub moves : (p q : Path) (n : List ℕ) (t e : Tree) (es : Entries) → IsOrdered t → IsOrdered e → Disjoint p (q ++ n ∷ []) → at t q ≡ Ok (dir es) →
    Moves p (q ++ n ∷ []) t e
moves p q n t e es s o disjoint parent = grind (arith, at-put_disjoint, at-without_disjoint, at-put_new, without-put, put-put_any, ordered-without)

-- ---- a whole move

pub ordered-at : (p : Path) (t u : Tree) → IsOrdered t → at t p ≡ Ok u → IsOrdered u
unfolding at
ordered-at [] t u s h = let one : t ≡ u = cc in subst IsOrdered one s
ordered-at (n ∷ p) (file bytes) u s h = cc
ordered-at (n ∷ p) (dir es) u s h = through_entry es n p u h (λ t found there. ordered-at p t u (ordered-find n es t s found) there)

pub not_empty : (p q : Path) → Disjoint p q → 0 < length q
not_empty [] q disjoint = absurd disjoint
not_empty (n ∷ p) [] disjoint = absurd disjoint
not_empty (n ∷ p) (m ∷ q) disjoint = omega arith

pub moves_to : (p q : Path) (t e : Tree) (es : Entries) → IsOrdered t → IsOrdered e → Disjoint p q → at t (parent_of q) ≡ Ok (dir es) → Moves p q t e
moves_to p q t e es s o disjoint parent =
    let parts = parent_and_last q (not_empty p q disjoint) in
    subst (λ r. Moves p r t e) (sym parts) (moves p (parent_of q) (last_name q) t e es s o (subst (λ r. Disjoint p r) parts disjoint) parent)

-- Placed, taken, and exchanged for the placeholder.
pub moved_whole : (p q : Path) (t t1 t2 t3 y x : Tree) (es : Entries) (r : Option Tree) → IsOrdered t → Disjoint p q → at t (parent_of q) ≡ Ok (dir es) →
    at t p ≡ Ok y
    → t1 ≡ put t q (dir no_entries) → ((u : Tree) → at t1 p ≡ Ok u → r ≡ Some u) → t2 ≡ without t1 p → r ≡ Some x
    → ((u : Tree) → at t2 q ≡ Ok u → t3 ≡ put t2 q x) → t3 ≡ put (without t p) q y
moved_whole p q t t1 t2 t3 y x es r s disjoint parent there placed taken left is over = grind (arith, moves_to, ordered-at)

pub moved_none : (p q : Path) (t t1 y : Tree) (es : Entries) (r : Option Tree) {P : Type 0} → IsOrdered t → Disjoint p q → at t (parent_of q) ≡ Ok (dir es) →
    at t p ≡ Ok y
    → t1 ≡ put t q (dir no_entries) → ((u : Tree) → at t1 p ≡ Ok u → r ≡ Some u) → r ≡ None → P
moved_none p q t t1 y es r s disjoint parent there placed taken none = grind (arith, moves_to)

-- a path that is disjoint from another has a name
pub below_the_root : (p q : Path) → AreDisjointPaths p q → 0 < length p
below_the_root p q h = not_empty q p (turned_disjoint p q h)
