-- What a rename leaves at its two paths.
use Rattle.assise_seq_tree.proofs.Common.{◌≡◌, Bool, true, false, cond, Result, Ok, Err, refl, ap, sym, ◌∙◌, same_path, Done, TreeError, NoEnt, ◌>>=◌}
use Rattle.assise_seq_tree.proofs.Common.{parent_of, may_rename, reply_and_tree, rename_answer, Tree, at, put, without, IsOrdered, arith}
use Rattle.std.proofs.lemmas.List.{append_assoc}
use Rattle.assise_seq_tree.proofs.Shared.Moves.{Path, at-put_disjoint, parent_and_last}
use Rattle.assise_seq_tree.proofs.Shared.Paths.{step_disjoint, put_stands, gone}
use Rattle.assise_seq_tree.proofs.Shared.Checks.{Passed, passed}
use Rattle.assise_seq_tree.proofs.Shared.MovedTreeRoom.{stays_directory}

-- the checks passed, and the tree is moved
pub record Renamed (t u : Tree) (p q : Path) (moved : Tree) : Type 0 where
  pub checks : Passed p q t
  pub tree : u ≡ put (without t p) q moved

pub renamed : (t u : Tree) (p q : Path) (moved : Tree) → rename_answer t p q ≡ (Done, u) → same_path p q ≡ false → at t p ≡ Ok moved → Renamed t u p q moved
renamed t u p q moved h other there =
    let both = go (may_rename t p q) (at t p) (same_path p q) h there other in
    record { checks = passed p q t both.0 other; tree = both.1 }
  where
    go : (may : Result (Unit {0}) TreeError) (found : Result Tree TreeError) (same : Bool)
        → reply_and_tree t (may >>= λ _. found >>= λ x. Ok (Done, cond same t (put (without t p) q x))) ≡ (Done, u) → found ≡ Ok moved → same ≡ false
        → (may ≡ Ok tt) × (u ≡ put (without t p) q moved)
    go (Ok tt) (Ok x) true h there other = cc
    go (Ok tt) (Ok x) false h there other = let one : x ≡ moved = cc in (refl, sym (ap (λ r. r.1) h) ∙ ap (put (without t p) q) one)
    go (Ok tt) (Err e) same h there other = cc
    go (Err e) found same h there other = let no = ap (λ r. r.0) h in cc

-- at its new path
pub stands_at_its_new_path : (t u : Tree) (p q : Path) (moved : Tree) → rename_answer t p q ≡ (Done, u) → same_path p q ≡ false → at t p ≡ Ok moved →
    at u q ≡ Ok moved
stands_at_its_new_path t u p q moved h other there =
    let r = renamed t u p q moved h other there in
    let c = r.checks in
    let d = stays_directory (parent_of q) p t c.entries c.parent
    (grind (arith, parent_and_last q c.to_name, append_assoc)) in
    ap (λ v. at v q) r.tree ∙ put_stands (without t p) moved q d.entries d.there

-- and not at its old one
pub gone_from_its_old_path : (t u : Tree) (p q : Path) (moved : Tree) → IsOrdered t → rename_answer t p q ≡ (Done, u) → same_path p q ≡ false →
    at t p ≡ Ok moved → at u p ≡ Err NoEnt
gone_from_its_old_path t u p q moved s h other there =
    let r = renamed t u p q moved h other there in
    let c = r.checks in
    ap (λ v. at v p) r.tree ∙ at-put_disjoint p q (without t p) moved (step_disjoint p q c.disjoint) ∙ gone p t moved s c.from_name there
