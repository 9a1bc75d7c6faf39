-- A directory that takes a moved tree has room for it.
use Rattle.assise_seq_tree.proofs.Common.{◌≡◌, ◌≤◌, ◌<◌, ◌+◌, arith, ℕ, Bool, true, false, List, [], ◌∷◌, ◌++◌, Some, None, Ok, Err, refl, ap, sym, ◌∙◌, inl}
use Rattle.assise_seq_tree.proofs.Common.{inr, subst, option_map_or, cases_Bool, same_path, NoEnt, parent_of, last_name, may_receive, may_rename, Tree, file}
use Rattle.assise_seq_tree.proofs.Common.{dir, Entries, no_entries, entry, same_name, find, replace, remove, count, at, put, without, IsWithinLimits}
use Rattle.std.proofs.lemmas.List.{append_assoc}
use Rattle.assise_seq_tree.proofs.Shared.TreePut.{through_entry}
use Rattle.assise_seq_tree.proofs.Shared.Sets.{same_itself, one_name}
use Rattle.assise_seq_tree.proofs.Shared.Moves.{Path, below, find_remove_other, find_replace_there, find_replace_other, at-without_disjoint, parent_and_last}
use Rattle.assise_seq_tree.proofs.Shared.Paths.{step_disjoint}
use Rattle.assise_seq_tree.proofs.Shared.Checks.{Passed, passed, same_is}
use Rattle.assise_seq_tree.proofs.Limits.{count-replace, count-remove, put_there, put_new, within-without, within-at}

-- an entry less
count_less : (n : List ℕ) (es : Entries) (u : Tree) → find n es ≡ Some u → count (remove n es) + 1 ≡ count es
count_less n no_entries u h = cc
count_less n (entry k t es) u h =
    elim (cases_Bool (same_name n k)) [
      | inl same ↦ rw same refl
      | inr disjoint ↦ rw disjoint (let rest = count_less n es u (rw disjoint at h) in omega (arith, rest))
    ]

-- a directory that isn't below what is taken out stays, with no more entries
pub record StaysDirectory (t : Tree) (p s : Path) (es : Entries) : Type 0 where
  pub entries : Entries
  pub there : at (without t p) s ≡ Ok (dir entries)
  pub few : count entries ≤ count es

pub stays_directory : (s p : Path) (t : Tree) (es : Entries) → at t s ≡ Ok (dir es) → ((rest : Path) → s ≡ p ++ rest → ⊥) → StaysDirectory t p s es
unfolding at without
stays_directory s [] t es h outside = absurd (outside s refl)
stays_directory [] (n ∷ p) (file bytes) es h outside = cc
stays_directory [] (n ∷ []) (dir fs) es h outside = grind (arith, count-remove n fs)
stays_directory [] (n ∷ k ∷ p) (dir fs) es h outside = grind (arith, count-replace n (without (below n fs) (k ∷ p)) fs)
stays_directory (m ∷ s) (n ∷ p) (file bytes) es h outside = cc
stays_directory (m ∷ s) (n ∷ []) (dir fs) es h outside =
    elim (cases_Bool (same_name m n)) [
      | inl same ↦ absurd (outside s (ap (λ x. x ∷ s) (one_name m n same)))
      | inr disjoint ↦ record {
        entries = es;
        there = ap (λ o. option_map_or (λ t. at t s) o (Err NoEnt)) (find_remove_other m n fs disjoint) ∙ h;
        few =
            omega arith;
      }
    ]
stays_directory (m ∷ s) (n ∷ k ∷ p) (dir fs) es h outside =
    elim (cases_Bool (same_name m n)) [
      | inr disjoint ↦ record {
        entries = es;
        there = grind (arith, find_replace_other);
        few = omega arith;
      }
      | inl same ↦
          let one : m ≡ n = one_name m n same in
          through_entry fs m s (dir es) h (λ v got inside.
          let rest : StaysDirectory v (k ∷ p) s es = stays_directory s (k ∷ p) v es inside (λ more e. outside more (ap (λ x. x ∷ s) one ∙ ap (λ x. n ∷ x) e)) in
          let child : below n fs ≡ v = subst (λ x. below x fs ≡ v) one (rw got refl) in
          let found : find m (replace n (without (below n fs) (k ∷ p)) fs) ≡ Some (without (below n fs) (k ∷ p)) =
          grind (arith, find_replace_there) in
          record {
            entries = rest.entries;
            there = ap (λ o. option_map_or (λ t. at t s) o (Err NoEnt)) found ∙ ap (λ u. at (without u (k ∷ p)) s) child ∙ rest.there;
            few = rest.few;
          })
    ]

without_step : (m n : List ℕ) (s : Path) (fs : Entries) → without (dir fs) (m ∷ (s ++ n ∷ [])) ≡ dir (replace m (without (below m fs) (s ++ n ∷ [])) fs)
unfolding without
without_step m n [] fs = refl
without_step m n (k ∷ s) fs = refl

-- the directory of what is taken out has an entry less
record LosesEntry (t : Tree) (p s : Path) (es : Entries) : Type 0 where
  pub entries : Entries
  pub there : at (without t p) s ≡ Ok (dir entries)
  pub less : count entries + 1 ≡ count es

taken_here : (n : List ℕ) (fs : Entries) → at (without (dir fs) (n ∷ [])) [] ≡ Ok (dir (remove n fs))
unfolding at without
taken_here n fs = refl

loses_entry : (s : Path) (n : List ℕ) (t u : Tree) (es : Entries) → at t s ≡ Ok (dir es) → at t (s ++ n ∷ []) ≡ Ok u → LosesEntry t (s ++ n ∷ []) s es
unfolding at
loses_entry [] n (file bytes) u es h there = cc
loses_entry [] n (dir fs) u es h there = grind (arith, taken_here, count_less)
loses_entry (m ∷ s) n (file bytes) u es h there = cc
loses_entry (m ∷ s) n (dir fs) u es h there =
    through_entry fs m s (dir es) h (λ v got inside.
    let rest : LosesEntry v (s ++ n ∷ []) s es = loses_entry s n v u es inside (rw got at there) in
    let child : below m fs ≡ v = rw got refl in
    let found : find m (replace m (without (below m fs) (s ++ n ∷ [])) fs) ≡ Some (without (below m fs) (s ++ n ∷ [])) =
    grind (arith, find_replace_there, same_itself) in
    record {
      entries = rest.entries;
      there = grind (arith, without_step);
      less = rest.less;
    })

pub entry_there : (s : Path) (n : List ℕ) (t u : Tree) (es : Entries) → at t s ≡ Ok (dir es) → find n es ≡ Some u → at t (s ++ n ∷ []) ≡ Ok u
unfolding at
entry_there [] n (file bytes) u es h found = cc
entry_there [] n (dir fs) u es h found = cc
entry_there (m ∷ s) n (file bytes) u es h found = cc
entry_there (m ∷ s) n (dir fs) u es h found =
    through_entry fs m s (dir es) h (λ t got there. ap (λ o. option_map_or (λ t. at t (s ++ n ∷ [])) o (Err NoEnt)) got ∙ entry_there s n t u es there found)

-- ---- a move

has_room : (moved : Tree) (stays : Bool) (es : Entries) → may_receive moved stays es None ≡ Ok tt → stays ≡ false → count es < 4096
has_room moved true es h beside = cc
has_room moved false es h beside = grind arith

module _ (t : Tree) (p q : Path) (c : Passed p q t) (s : IsWithinLimits t) where
  moved_within : IsWithinLimits c.moved
  moved_within = within-at p t c.moved c.source s

  whole : q ≡ parent_of q ++ last_name q ∷ []
  whole = parent_and_last q c.to_name

  outside : (rest : Path) → parent_of q ≡ p ++ rest → ⊥
  outside rest is = c.disjoint.second (rest ++ last_name q ∷ [], whole ∙ ap (λ x. x ++ last_name q ∷ []) is ∙ append_assoc p rest (last_name q ∷ []))

  over : (target : Tree) → find (last_name q) c.entries ≡ Some target → IsWithinLimits (put (without t p) q c.moved)
  over target found = search (put_there, at-without_disjoint, step_disjoint, whole, entry_there, within-without, moved_within, arith) parts 3

  onto : (fs : Entries) → at (without t p) (parent_of q) ≡ Ok (dir fs) → count fs < 4096 → IsWithinLimits (put (without t p) q c.moved)
  onto fs there room = grind (arith, whole, put_new, within-without, moved_within)

  elsewhere : count c.entries < 4096 → IsWithinLimits (put (without t p) q c.moved)
  elsewhere room = grind (arith, stays_directory (parent_of q) p t c.entries c.parent outside, onto)

  beside : same_path (parent_of p) (parent_of q) ≡ true → IsWithinLimits (put (without t p) q c.moved)
  beside same =
      let one : parent_of p ≡ parent_of q = (same_is (parent_of p) (parent_of q)).0 same in
      let path : p ≡ parent_of q ++ last_name p ∷ [] = parent_and_last p c.from_name ∙ ap (λ x. x ++ last_name p ∷ []) one in
      let d = loses_entry (parent_of q) (last_name p) t c.moved c.entries c.parent (ap (at t) (sym path) ∙ c.source) in
      let few = within-at (parent_of q) t (dir c.entries) c.parent s in
      onto d.entries (ap (λ x. at (without t x) (parent_of q)) path ∙ d.there) (omega (arith, d.less, few.0))

  placed : IsWithinLimits (put (without t p) q c.moved)
  placed = search (over, beside, elsewhere, arith) parts 3

pub received : (t moved : Tree) (p q : Path) → at t p ≡ Ok moved → may_rename t p q ≡ Ok tt → same_path p q ≡ false → IsWithinLimits t →
    IsWithinLimits (put (without t p) q moved)
received t moved p q there passes disjoint s = grind (arith, passed p q t passes disjoint, placed)
