-- What a tree shows once something is put into it or taken out.
use Rattle.assise_inode_table.proofs.Common.{◌≡◌, ℕ, Bool, true, false, cond, List, [], ◌∷◌, ◌++◌, Option, Some, None, Result, Ok, Err, refl, sym, ap, subst}
use Rattle.assise_inode_table.proofs.Common.{◌∙◌, unwrap_or, option_map_or, TreeError, NoEnt, Tree, file, dir, Entries, no_entries, entry, same_name, find}
use Rattle.assise_inode_table.proofs.Common.{replace, remove, at, put, without, names_of, put_step, at_step, one_name, Path, find_replace_there, Shape}
use Rattle.assise_inode_table.proofs.Common.{shape_of_tree, shown_in, arith}
use Rattle.assise_seq_tree.specs.Tree.{set}
use Rattle.assise_inode_table.proofs.Prefixes.{past}

-- ---- one step
-- below what an entry leads to
abbrev pub shown_below : Path → Option Tree → Result Shape TreeError
shown_below q None = Err NoEnt
shown_below q (Some t) = shown_in t q

pub shown_dir : (es : Entries) (name : List ℕ) (q : Path) → shown_in (dir es) (name ∷ q) ≡ shown_below q (find name es)
unfolding at
shown_dir es name q = grind arith

pub shown_here : (t : Tree) → shown_in t [] ≡ Ok (shape_of_tree t)
unfolding at
shown_here t = refl

pub record Step (name : List ℕ) (p : Path) (t found : Tree) : Type 0 where
  pub entries : Entries
  pub child : Tree
  pub is : t ≡ dir entries
  pub there : find name entries ≡ Some child
  pub rest : at child p ≡ Ok found

pub step_at : (name : List ℕ) (p : Path) (t found : Tree) → at t (name ∷ p) ≡ Ok found → Step name p t found
unfolding at
step_at name p (file bytes) found e = cc
step_at name p (dir es) found e = grind arith

pub at-append : (p q : Path) (t found : Tree) → at t p ≡ Ok found → at t (p ++ q) ≡ at found q
unfolding at
at-append [] q t found e = let is : t ≡ found = cc in ap (λ u. at u q) is
at-append (name ∷ p) q t found e =
    let s = step_at name p t found e in
    ap (λ u. at u (name ∷ p ++ q)) s.is ∙ at_step s.entries name (p ++ q) s.child s.there ∙ at-append p q s.child found s.rest

-- ---- another tree in the place of one that is there
names-replace : (name : List ℕ) (t : Tree) (es : Entries) → names_of (replace name t es) ≡ names_of es
names-replace name t no_entries = refl
names-replace name t (entry other u es) = grind (arith, names-replace name t es)

-- past the place the new tree shows, elsewhere the old one
abbrev pub replaced : Path → Tree → Tree → Path → Result Shape TreeError
replaced p t y q = option_map_or (λ rest. shown_in y rest) (past p q) (shown_in t q)

replaced_child : (name : List ℕ) (p : Path) (es : Entries) (c y : Tree) → find name es ≡ Some c → ((q : Path) → shown_in (put c p y) q ≡ replaced p c y q)
    → (q : Path) → shown_in (dir (replace name (put c p y) es)) q ≡ replaced (name ∷ p) (dir es) y q
replaced_child name p es c y there ih [] = grind (arith, shown_here, names-replace)
replaced_child name p es c y there ih (x ∷ q) =
    shown_dir (replace name (put c p y) es) x q ∙ ap (shown_below q) (find_replace_there x name (put c p y) c es there) ∙ turn (same_name x name) refl
  where
    turn : (b : Bool) → same_name x name ≡ b → shown_below q (cond b (Some (put c p y)) (find x es)) ≡ option_map_or (λ rest. shown_in y rest)
        (cond b (past p q) None) (shown_in (dir es) (x ∷ q))
    turn true e =
        ih q ∙ ap (option_map_or (λ rest. shown_in y rest) (past p q))
        (sym (shown_dir es x q ∙ ap (shown_below q) (ap (λ n. find n es) (one_name x name e) ∙ there)))
    turn false e = sym (shown_dir es x q)

pub shown-put : (p : Path) (t found y : Tree) → at t p ≡ Ok found → (q : Path) → shown_in (put t p y) q ≡ replaced p t y q
unfolding put
shown-put [] t found y e q = refl
shown-put (name ∷ p) t found y e q =
    let s = step_at name p t found e in
    subst (λ u. shown_in (put u (name ∷ p) y) q ≡ replaced (name ∷ p) u y q) (sym s.is)
    (ap (λ u. shown_in u q) (put_step s.entries name p y s.child s.there)
    ∙ replaced_child name p s.entries s.child y s.there (λ x. shown-put p s.child found y s.rest x) q)

-- ---- one entry of a directory that is there
pub put_entry : (p : Path) (name : List ℕ) (t u : Tree) (es : Entries) → at t p ≡ Ok (dir es) → put t (p ++ name ∷ []) u ≡ put t p (dir (set name u es))
unfolding at put
put_entry [] name t u es e = let is : t ≡ dir es = cc in ap (λ s. put s (name ∷ []) u) is
put_entry (k ∷ p) name t u es e =
    let s = step_at k p t (dir es) e in
    subst (λ z. put z (k ∷ p ++ name ∷ []) u ≡ put z (k ∷ p) (dir (set name u es))) (sym s.is)
    (grind (arith, put_entry p name s.child u es s.rest))

without_step : (es : Entries) (k : List ℕ) (p : Path) (name : List ℕ) (c : Tree) → find k es ≡ Some c
    → without (dir es) (k ∷ p ++ name ∷ []) ≡ dir (replace k (without c (p ++ name ∷ [])) es)
unfolding without
without_step es k [] name c there = ap (λ o. dir (replace k (without (unwrap_or o (dir no_entries)) (name ∷ [])) es)) there
without_step es k (x ∷ p) name c there = ap (λ o. dir (replace k (without (unwrap_or o (dir no_entries)) (x ∷ p ++ name ∷ [])) es)) there

pub without_entry : (p : Path) (name : List ℕ) (t : Tree) (es : Entries) → at t p ≡ Ok (dir es) → without t (p ++ name ∷ []) ≡ put t p (dir (remove name es))
unfolding at put without
without_entry [] name t es e = let is : t ≡ dir es = cc in ap (λ s. without s (name ∷ [])) is
without_entry (k ∷ p) name t es e =
    let s = step_at k p t (dir es) e in
    subst (λ z. without z (k ∷ p ++ name ∷ []) ≡ put z (k ∷ p) (dir (remove name es))) (sym s.is)
    (grind (arith, without_entry p name s.child es s.rest, without_step))
