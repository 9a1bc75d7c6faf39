-- What is put into a tree and taken out of it within the limits.
use Rattle.assise_seq_tree.proofs.Common.{◌≡◌, ◌≤◌, ◌<◌, ◌+◌, arith, ℕ, List, [], ◌∷◌, ◌++◌, Some, Ok, Less, Equal, Greater, nat_cmp, refl, ap, sym, inl, inr}
use Rattle.assise_seq_tree.proofs.Common.{subst, match_ordering, slice_cmp, cases_Bool, Tree, file, dir, Entries, no_entries, entry, same_name, find, replace}
use Rattle.assise_seq_tree.proofs.Common.{insert, set, remove, count, at, put, without, IsWithinLimits, AreWithinLimits}
use Rattle.assise_seq_tree.proofs.Shared.TreePut.{put_step, through_entry}
use Rattle.assise_seq_tree.proofs.Shared.Moves.{Path, below}

-- ---- entries
pub count-replace : (n : List ℕ) (x : Tree) (es : Entries) → count (replace n x es) ≡ count es
count-replace n x no_entries = refl
count-replace n x (entry k t es) = grind (arith, count-replace n x es)

count-insert : (n : List ℕ) (x : Tree) (es : Entries) → count (insert n x es) ≤ count es + 1
count-insert n x no_entries = omega arith
count-insert n x (entry k t es) = grind (arith, count-insert n x es)

within-replace : (n : List ℕ) (x : Tree) (es : Entries) → AreWithinLimits es → IsWithinLimits x → AreWithinLimits (replace n x es)
within-replace n x no_entries s o = tt
within-replace n x (entry k t es) s o = grind (arith, within-replace n x es s.1 o)

within-insert : (n : List ℕ) (x : Tree) (es : Entries) → AreWithinLimits es → IsWithinLimits x → AreWithinLimits (insert n x es)
within-insert n x no_entries s o = (o, tt)
within-insert n x (entry k t es) s o =
    elim (slice_cmp nat_cmp n k) as (λ o. AreWithinLimits (match_ordering o (entry n x (entry k t es)) (entry k x es) (entry k t (insert n x es)))) [
      | Less ↦ (o, s)
      | Equal ↦ (o, s.1)
      | Greater ↦ (s.0, within-insert n x es s.1 o)
    ]

within-find : (n : List ℕ) (es : Entries) (u : Tree) → AreWithinLimits es → find n es ≡ Some u → IsWithinLimits u
within-find n no_entries u s h = cc
within-find n (entry k t es) u s h =
    elim (cases_Bool (same_name n k)) [
      | inl same ↦ let is : Some t ≡ Some u = rw same at h in let one : t ≡ u = cc in subst IsWithinLimits one s.0
      | inr disjoint ↦ within-find n es u s.1 (rw disjoint at h)
    ]

within-set : (n : List ℕ) (x : Tree) (es : Entries) → count es < 4096 → AreWithinLimits es → IsWithinLimits x → IsWithinLimits (dir (set n x es))
within-set n x es room s o = grind (arith, count-replace, within-replace, count-insert, within-insert)

within-replaced : (n : List ℕ) (x : Tree) (es : Entries) → IsWithinLimits (dir es) → IsWithinLimits x → IsWithinLimits (dir (replace n x es))
within-replaced n x es s o = (omega (arith, s.0, count-replace n x es), within-replace n x es s.1 o)

pub count-remove : (n : List ℕ) (es : Entries) → count (remove n es) ≤ count es
count-remove n no_entries = omega arith
count-remove n (entry k t es) = grind (arith, count-remove n es)

within-remove : (n : List ℕ) (es : Entries) → AreWithinLimits es → AreWithinLimits (remove n es)
within-remove n no_entries s = tt
within-remove n (entry k t es) s = grind (arith, within-remove n es s.1)

within_below : (n : List ℕ) (es : Entries) → AreWithinLimits es → IsWithinLimits (below n es)
within_below n es s = grind (arith, within-find)

-- ---- paths
-- what stands there is replaced
pub put_there : (p : Path) (t x u : Tree) → at t p ≡ Ok u → IsWithinLimits t → IsWithinLimits x → IsWithinLimits (put t p x)
unfolding at put
put_there [] t x u h s o = o
put_there (n ∷ p) (file bytes) x u h s o = s
put_there (n ∷ p) (dir es) x u h s o =
    through_entry es n p u h (λ t found there.
    subst IsWithinLimits (sym (put_step es n p x t found)) (within-replaced n (put t p x) es s (put_there p t x u there (within-find n es t s.1 found) o)))

-- what is new has a parent with room
pub put_new : (p : Path) (n : List ℕ) (t x : Tree) (es : Entries) → at t p ≡ Ok (dir es) → count es < 4096 → IsWithinLimits t → IsWithinLimits x →
    IsWithinLimits (put t (p ++ n ∷ []) x)
unfolding at put
put_new [] n (file bytes) x es h room s o = cc
put_new [] n (dir fs) x es h room s o = let one : fs ≡ es = cc in within-set n x fs (omega (arith, room, ap count one)) s.1 o
put_new (k ∷ p) n (file bytes) x es h room s o = cc
put_new (k ∷ p) n (dir fs) x es h room s o =
    through_entry fs k p (dir es) h (λ t found there.
    subst IsWithinLimits (sym (put_step fs k (p ++ n ∷ []) x t found))
    (within-replaced k (put t (p ++ n ∷ []) x) fs s (put_new p n t x es there room (within-find k fs t s.1 found) o)))

-- what is taken out leaves no more than there was
pub within-without : (p : Path) (t : Tree) → IsWithinLimits t → IsWithinLimits (without t p)
unfolding without
within-without [] t s = s
within-without (n ∷ p) (file bytes) s = s
within-without (n ∷ []) (dir es) s = (omega (arith, s.0, count-remove n es), within-remove n es s.1)
within-without (n ∷ k ∷ p) (dir es) s = within-replaced n (without (below n es) (k ∷ p)) es s (within-without (k ∷ p) (below n es) (within_below n es s.1))

pub within-at : (p : Path) (t u : Tree) → at t p ≡ Ok u → IsWithinLimits t → IsWithinLimits u
unfolding at
within-at [] t u h s = let one : t ≡ u = cc in subst IsWithinLimits one s
within-at (n ∷ p) (file bytes) u h s = cc
within-at (n ∷ p) (dir es) u h s = through_entry es n p u h (λ t found there. within-at p t u there (within-find n es t s.1 found))
