-- What is put at a path stands there, and what is taken out is gone.
use Rattle.assise_seq_tree.proofs.Common.{◌≡◌, ◌<◌, arith, cond, [], ◌∷◌, ◌++◌, length, Some, Ok, Err, refl, ap, sym, ◌∙◌, unwrap_or, option_map_or, NoEnt}
use Rattle.assise_seq_tree.proofs.Common.{parent_of, last_name, Tree, file, dir, Entries, no_entries, find, at, put, without, IsOrdered, AreDisjointPaths}
use Rattle.assise_seq_tree.proofs.Shared.TreePut.{through_entry}
use Rattle.assise_seq_tree.proofs.Order.{ordered-find}
use Rattle.assise_seq_tree.proofs.Shared.Sets.{same_itself, one_name, find-remove}
use Rattle.assise_seq_tree.proofs.Shared.Moves.{Path, Disjoint, below, find_replace_there, at-put_new, parent_and_last}

-- two paths of which neither begins with the other part at some step
pub disjoint_from : (p q : Path) → ((rest : Path) → p ≡ q ++ rest → ⊥) → ((rest : Path) → q ≡ p ++ rest → ⊥) → Disjoint p q
disjoint_from p [] a b = absurd (a p refl)
disjoint_from [] (m ∷ q) a b = b (m ∷ q) refl
disjoint_from (n ∷ p) (m ∷ q) a b = λ same.
    let one : n ≡ m = one_name n m same in
    disjoint_from p q
    (λ rest e. a rest (ap (λ k. k ∷ p) one ∙ ap (λ s. m ∷ s) e))
    (λ rest e. b rest (ap (λ k. k ∷ q) (sym one) ∙ ap (λ s. n ∷ s) e))

pub step_disjoint : (p q : Path) → AreDisjointPaths p q → Disjoint p q
step_disjoint p q h = disjoint_from p q (λ rest e. h.first (rest, e)) (λ rest e. h.second (rest, e))

pub turned_disjoint : (p q : Path) → AreDisjointPaths p q → Disjoint q p
turned_disjoint p q h = disjoint_from q p (λ rest e. h.second (rest, e)) (λ rest e. h.first (rest, e))

-- what is put stands there
pub put_stands : (t x : Tree) (p : Path) (es : Entries) → at t (parent_of p) ≡ Ok (dir es) → at (put t p x) p ≡ Ok x
unfolding at put
put_stands t x [] es h = refl
put_stands t x (n ∷ p) es h = grind (arith, parent_and_last (n ∷ p) (omega arith), at-put_new (parent_of (n ∷ p)) (last_name (n ∷ p)) t x es h)

-- what is taken out is gone
pub gone : (p : Path) (t x : Tree) → IsOrdered t → 0 < length p → at t p ≡ Ok x → at (without t p) p ≡ Err NoEnt
unfolding at without
gone [] t x s h there = absurd (omega arith)
gone (n ∷ p) (file bytes) x s h there = cc
gone (n ∷ []) (dir es) x s h there = grind (arith, find-remove, same_itself)
gone (n ∷ k ∷ p) (dir es) x s h there =
    through_entry es n (k ∷ p) x there (λ t found inside.
    let child : below n es ≡ t = ap (λ o. unwrap_or o (dir no_entries)) found in
    ap (λ o. option_map_or (λ t. at t (k ∷ p)) o (Err NoEnt))
    (find_replace_there n n (without (below n es) (k ∷ p)) t es found ∙ ap (λ b. cond b (Some (without (below n es) (k ∷ p))) (find n es)) (same_itself n))
    ∙ ap (λ u. at (without u (k ∷ p)) (k ∷ p)) child
    ∙ gone (k ∷ p) t x (ordered-find n es t s found) (omega arith) inside)
