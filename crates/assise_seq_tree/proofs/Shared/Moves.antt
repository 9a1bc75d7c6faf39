-- Two paths of which neither begins with the other: what is done at one leaves the other.
use Rattle.assise_seq_tree.proofs.Common.{◌≡◌, ℕ, ◌<◌, arith, Bool, true, false, cond, List, [], ◌∷◌, ◌++◌, length, Some, None, is_some, Ok, Err, refl, ap}
use Rattle.assise_seq_tree.proofs.Common.{sym, ◌∙◌, inl, inr, subst, unwrap_or, option_map_or, cases_Bool, NoEnt, Tree, file, dir, Entries, no_entries, entry}
use Rattle.assise_seq_tree.proofs.Common.{same_name, find, replace, set, remove, at, put, without, IsOrdered, AreOrdered, parent_of, last_name}
use Rattle.assise_seq_tree.proofs.Shared.TreePut.{cases_option, through_entry}
use Rattle.assise_seq_tree.proofs.Order.{ordered-replace, ordered-find, ordered-put}
use Rattle.assise_seq_tree.proofs.Shared.Sets.{same_itself, one_name, shadowed, not_both, find-set, find-replace_any, find-remove, ordered-remove, ordered-set}
use Rattle.assise_seq_tree.proofs.Shared.Sets.{same_entries}

abbrev pub Path : Type 0
Path = List (List ℕ)

-- neither path begins with the other, step by step
abbrev pub Disjoint : Path → Path → Type 0
Disjoint [] q = ⊥
Disjoint (n ∷ p) [] = ⊥
Disjoint (n ∷ p) (m ∷ q) = same_name n m ≡ true → Disjoint p q

-- what an entry leads to, or the empty directory
abbrev pub below : List ℕ → Entries → Tree
below n es = unwrap_or (find n es) (dir no_entries)

-- ---- one entry
find_set_same : (n : List ℕ) (x : Tree) (es : Entries) → find n (set n x es) ≡ Some x
find_set_same n x es = find-set n n x es ∙ ap (λ b. cond b (Some x) (find n es)) (same_itself n)

find_set_other : (q n : List ℕ) (x : Tree) (es : Entries) → same_name q n ≡ false → find q (set n x es) ≡ find q es
find_set_other q n x es disjoint = find-set q n x es ∙ ap (λ b. cond b (Some x) (find q es)) disjoint

-- entries in any order
pub find_remove_other : (q n : List ℕ) (es : Entries) → same_name q n ≡ false → find q (remove n es) ≡ find q es
find_remove_other q n no_entries disjoint = refl
find_remove_other q n (entry k t es) disjoint =
    elim (cases_Bool (same_name n k)) [
      | inl same ↦ let other : same_name q k ≡ false = subst (λ m. same_name q m ≡ false) (one_name n k same) disjoint in rw (same, other) refl
      | inr not_same ↦ rw not_same (ap (cond (same_name q k) (Some t)) (find_remove_other q n es disjoint))
    ]

turned : (q n : List ℕ) → same_name q n ≡ false → same_name n q ≡ false
turned q n disjoint =
    elim (cases_Bool (same_name n q)) [
      | inl same ↦ let one = one_name n q same in let is : same_name q n ≡ true = ap (same_name q) one ∙ same_itself q in cc
      | inr disjoint_too ↦ disjoint_too
    ]

pub replace_absent : (n : List ℕ) (x : Tree) (es : Entries) → find n es ≡ None → replace n x es ≡ es
replace_absent n x no_entries h = refl
replace_absent n x (entry k t es) h =
    elim (cases_Bool (same_name n k)) [
      | inl same ↦ let no = rw same at h in cc
      | inr disjoint ↦ rw disjoint (ap (entry k t) (replace_absent n x es (rw disjoint at h)))
    ]

pub find_replace_there : (q n : List ℕ) (x u : Tree) (es : Entries) → find n es ≡ Some u → find q (replace n x es) ≡ cond (same_name q n) (Some x) (find q es)
find_replace_there q n x u es there = find-replace_any q n x es (ap is_some there)

pub find_replace_other : (q n : List ℕ) (x : Tree) (es : Entries) → same_name q n ≡ false → find q (replace n x es) ≡ find q es
find_replace_other q n x es disjoint = grind (arith, replace_absent, find_replace_there)

-- ---- two changes of entries
set-set : (n : List ℕ) (x y : Tree) (es : Entries) → AreOrdered es → IsOrdered x → IsOrdered y → set n y (set n x es) ≡ set n y es
set-set n x y es s o k = search (same_entries, ordered-set, find-set, arith) parts 3

remove-set : (n m : List ℕ) (x : Tree) (es : Entries) → AreOrdered es → IsOrdered x → same_name n m ≡ false → remove n (set m x es) ≡ set m x (remove n es)
remove-set n m x es s o disjoint = grind (arith, ordered-set, same_entries, ordered-remove, find-remove, find-set, not_both)

replace-set : (n m : List ℕ) (w x : Tree) (es : Entries) → AreOrdered es → IsOrdered w → IsOrdered x → same_name n m ≡ false → replace n w (set m x es)
    ≡ set m x (replace n w es)
replace-set n m w x es s v o disjoint =
    elim (cases_option (find n es)) [
      | inl none ↦ replace_absent n w (set m x es) (find_set_other n m x es disjoint ∙ none) ∙ ap (set m x) (sym (replace_absent n w es none))
      | inr some ↦
          same_entries (replace n w (set m x es)) (set m x (replace n w es)) (ordered-replace n w (set m x es) (ordered-set m x es s o) v)
          (ordered-set m x (replace n w es) (ordered-replace n w es s v) o)
          (search (find_replace_there, find-set, not_both, arith) parts 3)
    ]

-- the same entry
replace-set_same : (n : List ℕ) (w x y : Tree) (es : Entries) → AreOrdered es → IsOrdered w → IsOrdered x → IsOrdered y → replace n y (set n x es)
    ≡ set n y (replace n w es)
replace-set_same n w x y es s v o k =
    same_entries (replace n y (set n x es)) (set n y (replace n w es)) (ordered-replace n y (set n x es) (ordered-set n x es s o) k)
    (ordered-set n y (replace n w es) (ordered-replace n w es s v) k)
    (λ q. find_replace_there q n y x (set n x es) (find_set_same n x es) ∙ ap (cond (same_name q n) (Some y)) (find-set q n x es)
    ∙ sym (shadowed (same_name q n) (Some y) (Some x) (find q es))
    ∙ others q (same_name q n) refl ∙ sym (find-set q n y (replace n w es)))
  where
    others : (q : List ℕ) (b : Bool) → same_name q n ≡ b → cond b (Some y) (find q es) ≡ cond b (Some y) (find q (replace n w es))
    others q true e = refl
    others q false e = sym (find_replace_other q n w es e)

-- ---- paths
ordered_below : (n : List ℕ) (es : Entries) → AreOrdered es → IsOrdered (below n es)
ordered_below n es s = grind (arith, ordered-find)

pub ordered-without : (p : Path) (t : Tree) → IsOrdered t → IsOrdered (without t p)
unfolding without
ordered-without [] t s = s
ordered-without (n ∷ p) (file bytes) s = tt
ordered-without (n ∷ []) (dir es) s = ordered-remove n es s
ordered-without (n ∷ k ∷ p) (dir es) s = ordered-replace n (without (below n es) (k ∷ p)) es s (ordered-without (k ∷ p) (below n es) (ordered_below n es s))

without_empty : (k : List ℕ) (p : Path) → without (dir no_entries) (k ∷ p) ≡ dir no_entries
unfolding without
without_empty k [] = refl
without_empty k (n ∷ p) = refl

at_empty : (p q : Path) → Disjoint p q → at (dir no_entries) p ≡ Err NoEnt
unfolding at
at_empty [] q disjoint = absurd disjoint
at_empty (n ∷ p) q disjoint = refl

-- what is put at q leaves what stands at p
pub at-put_disjoint : (p q : Path) (t x : Tree) → Disjoint p q → at (put t q x) p ≡ at t p
unfolding at put
at-put_disjoint [] q t x disjoint = absurd disjoint
at-put_disjoint (n ∷ p) [] t x disjoint = absurd disjoint
at-put_disjoint (n ∷ p) (m ∷ q) (file bytes) x disjoint = refl
at-put_disjoint (n ∷ p) (m ∷ q) (dir es) x disjoint =
    elim (cases_Bool (same_name n m)) [
      | inl same ↦
          let one : n ≡ m = one_name n m same in
          let far = disjoint same in
          ap (λ o. option_map_or (λ t. at t p) o (Err NoEnt))
          (ap (λ k. find k (set m (put (below m es) q x) es)) one ∙ find_set_same m (put (below m es) q x) es)
          ∙ at-put_disjoint p q (below m es) x far
          ∙ elim (cases_option (find m es)) [
            | inl none ↦ ap (λ o. at (unwrap_or o (dir no_entries)) p) none ∙ at_empty p q far ∙ ap (λ o. option_map_or (λ t. at t p) o (Err NoEnt)) (sym none)
            | inr some ↦ ap (λ o. at (unwrap_or o (dir no_entries)) p) some.1 ∙ ap (λ o. option_map_or (λ t. at t p) o (Err NoEnt)) (sym some.1)
          ]
          ∙ ap (λ k. option_map_or (λ t. at t p) (find k es) (Err NoEnt)) (sym one)
      | inr other ↦ ap (λ o. option_map_or (λ t. at t p) o (Err NoEnt)) (find_set_other n m (put (below m es) q x) es other)
    ]

-- what is taken out at p leaves what stands at q
pub at-without_disjoint : (p q : Path) (t : Tree) → Disjoint p q → at (without t p) q ≡ at t q
unfolding at without
at-without_disjoint [] q t disjoint = absurd disjoint
at-without_disjoint (n ∷ p) [] t disjoint = absurd disjoint
at-without_disjoint (n ∷ p) (m ∷ q) (file bytes) disjoint = refl
at-without_disjoint (n ∷ []) (m ∷ q) (dir es) disjoint = grind (arith, find_remove_other, turned)
at-without_disjoint (n ∷ k ∷ p) (m ∷ q) (dir es) disjoint =
    elim (cases_Bool (same_name n m)) [
      | inl same ↦
          grind (arith, at-without_disjoint (k ∷ p) q (below n es) (disjoint same), one_name n m same, replace_absent, find_replace_there)
      | inr other ↦ ap (λ o. option_map_or (λ t. at t q) o (Err NoEnt)) (find_replace_other m n (without (below n es) (k ∷ p)) es (turned n m other))
    ]

-- the one that is put and the one that is taken out may change places
pub without-put : (p q : Path) (t x : Tree) → IsOrdered t → IsOrdered x → Disjoint p q → without (put t q x) p ≡ put (without t p) q x
unfolding put without
without-put [] q t x s o disjoint = absurd disjoint
without-put (n ∷ p) [] t x s o disjoint = absurd disjoint
without-put (n ∷ p) (m ∷ q) (file bytes) x s o disjoint = refl
without-put (n ∷ []) (m ∷ q) (dir es) x s o disjoint = grind (arith, ordered-put, ordered_below, remove-set, find_remove_other, turned)
without-put (n ∷ k ∷ p) (m ∷ q) (dir es) x s o disjoint =
    elim (cases_Bool (same_name n m)) [
      | inl same ↦
          let one : m ≡ n = sym (one_name n m same) in
          subst (λ j. without (put (dir es) (j ∷ q) x) (n ∷ k ∷ p) ≡ put (without (dir es) (n ∷ k ∷ p)) (j ∷ q) x) (sym one)
          (inside (without-put (k ∷ p) q (below n es) x (ordered_below n es s) o (disjoint same)))
      | inr other ↦
          grind (
            arith,
            ordered-put q (below m es) x (ordered_below m es s) o,
            ordered-without (k ∷ p) (below n es) (ordered_below n es s),
            find_set_other n m
                (put (below m es) q x) es other,
            replace-set,
            find_replace_other m n (without (below n es) (k ∷ p)) es (turned n m other),
          )
    ]
  where
    kept : below n (replace n (without (below n es) (k ∷ p)) es) ≡ without (below n es) (k ∷ p)
    kept =
        elim (cases_option (find n es)) [
          | inl none ↦
              ap (below n) (replace_absent n (without (below n es) (k ∷ p)) es none) ∙ ap (λ c. unwrap_or c (dir no_entries)) none
              ∙ sym (ap (λ c. without (unwrap_or c (dir no_entries)) (k ∷ p)) none ∙ without_empty k p)
          | inr some ↦ ap (λ c. unwrap_or c (dir no_entries))
              (find_replace_there n n (without (below n es) (k ∷ p)) some.0 es some.1 ∙ ap (λ b. cond b (Some (without (below n es) (k ∷ p))) (find n es))
              (same_itself n))
        ]

    inside : without (put (below n es) q x) (k ∷ p) ≡ put (without (below n es) (k ∷ p)) q x → without (put (dir es) (n ∷ q) x) (n ∷ k ∷ p)
        ≡ put (without (dir es) (n ∷ k ∷ p)) (n ∷ q) x
    inside ih =
        let new = ordered-put q (below n es) x (ordered_below n es s) o in
        let left = ordered-without (k ∷ p) (below n es) (ordered_below n es s) in
        ap (λ c. dir (replace n (without (unwrap_or c (dir no_entries)) (k ∷ p)) (set n (put (below n es) q x) es))) (find_set_same n (put (below n es) q x) es)
        ∙ ap (λ z. dir (replace n z (set n (put (below n es) q x) es))) ih
        ∙ ap dir (replace-set_same n (without (below n es) (k ∷ p)) (put (below n es) q x) (put (without (below n es) (k ∷ p)) q x) es s left new
        (ordered-put q (without (below n es) (k ∷ p)) x left o))
        ∙ ap (λ w. dir (set n (put w q x) (replace n (without (below n es) (k ∷ p)) es))) (sym kept)

-- the last that is put at a path stays
pub put-put_any : (q : Path) (t x y : Tree) → IsOrdered t → IsOrdered x → IsOrdered y → put (put t q x) q y ≡ put t q y
unfolding put
put-put_any [] t x y s o k = refl
put-put_any (m ∷ q) (file bytes) x y s o k = refl
put-put_any (m ∷ q) (dir es) x y s o k =
    let old = ordered_below m es s in
    ap (λ c. dir (set m (put (unwrap_or c (dir no_entries)) q y) (set m (put (below m es) q x) es))) (find_set_same m (put (below m es) q x) es)
    ∙ ap (λ z. dir (set m z (set m (put (below m es) q x) es))) (put-put_any q (below m es) x y old o k)
    ∙ ap dir (set-set m (put (below m es) q x) (put (below m es) q y) es s (ordered-put q (below m es) x old o) (ordered-put q (below m es) y old k))

-- what is put into a directory that is there is found
pub at-put_new : (p : Path) (n : List ℕ) (t x : Tree) (es : Entries) → at t p ≡ Ok (dir es) → at (put t (p ++ n ∷ []) x) (p ++ n ∷ []) ≡ Ok x
unfolding at put
at-put_new [] n (file bytes) x es h = cc
at-put_new [] n (dir fs) x es h = ap (λ o. option_map_or (λ t. at t []) o (Err NoEnt)) (find_set_same n x fs)
at-put_new (k ∷ p) n (file bytes) x es h = cc
at-put_new (k ∷ p) n (dir fs) x es h =
    through_entry fs k p (dir es) h (λ t found there.
    ap (λ o. option_map_or (λ t. at t (p ++ n ∷ [])) o (Err NoEnt)) (find_set_same k (put (below k fs) (p ++ n ∷ []) x) fs)
    ∙ ap (λ o. at (put (unwrap_or o (dir no_entries)) (p ++ n ∷ []) x) (p ++ n ∷ [])) found ∙ at-put_new p n t x es there)

pub parent_and_last : (p : Path) → 0 < length p → p ≡ parent_of p ++ last_name p ∷ []
parent_and_last [] h = absurd (omega arith)
parent_and_last (n ∷ []) h = refl
parent_and_last (n ∷ k ∷ p) h = grind (arith, parent_and_last (k ∷ p) (omega arith))
