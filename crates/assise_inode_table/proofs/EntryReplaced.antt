-- An entry is moved onto another, whose inode is freed.
use Rattle.assise_inode_table.proofs.Common.{◌≡◌, ◌≢◌, ℕ, ◌==◌, Bool, true, false, cond, List, [], ◌∷◌, ◌++◌, Option, Some, None, Ok, refl, sym, ap, subst, ◌∙◌}
use Rattle.assise_inode_table.proofs.Common.{eq-eqb, ne_eqb, eqb-true, ok_or, nat_list_cmp_total, NoEnt, Link, Unlink, Free, Tree, dir, Entries, same_name}
use Rattle.assise_inode_table.proofs.Common.{remove, at, put, without, IsOrdered, AreOrdered, same_itself, one_name, find-set, find-remove, ordered-remove}
use Rattle.assise_inode_table.proofs.Common.{ordered-set, same_entries, at-put, put-put, Path, Disjoint, at-without_disjoint, without-put, ordered-without}
use Rattle.assise_inode_table.proofs.Common.{directory, Links, Values, after, children, reach, link_of, Spells, AgreeBut, RemovesLink, arith}
use Rattle.std.proofs.lemmas.List.{append_assoc, append-nil}
use Rattle.std.specs.FinMap as map
use Rattle.assise_seq_tree.specs.Tree.{set}
use Rattle.assise_inode_table.proofs.Prefixes.{past, past-Some}
use Rattle.assise_inode_table.proofs.PathReach.{reach_step, reach-append, same_reach}
use Rattle.assise_inode_table.proofs.TreeShows.{put_entry, without_entry}
use Rattle.assise_inode_table.proofs.Shared.SpellingUnique.{spelled_is_ordered}
use Rattle.assise_inode_table.proofs.Shared.ReachedSpelling.{Below, Directory, descend, directory_at}
use Rattle.assise_inode_table.proofs.Leaves.{LeadsNowhere}
use Rattle.assise_inode_table.proofs.EntryUnlinked.{outside_reached}
use Rattle.assise_inode_table.proofs.EntryFreed.{keeps, freed}
use Rattle.assise_inode_table.proofs.EntryMoved.{moved_spells}

-- ---- trees

set-remove : (name : List ℕ) (x : Tree) (es : Entries) → AreOrdered es → IsOrdered x → set name x (remove name es) ≡ set name x es
set-remove name x es s o = grind (arith, same_entries, ordered-set, ordered-remove, find-set, find-remove)

-- what was taken out doesn't matter where something else is put
put-without_same : (p : Path) (name : List ℕ) (t x : Tree) (es : Entries) → IsOrdered t → IsOrdered x → AreOrdered es → at t p ≡ Ok (dir es) →
    put (without t (p ++ name ∷ [])) (p ++ name ∷ []) x ≡ put t (p ++ name ∷ []) x
put-without_same p name t x es s o ordered there = grind (
  arith,
  without_entry p name t es there,
  put_entry p name (put t p (dir (remove name es))) x (remove name es)
      (at-put p t (dir (remove name es)) (dir es) there),
  put_entry p name t x es there,
  put-put p t (dir (remove name es))
      (dir (set name x (remove name es))) (dir es) there,
  set-remove name x es ordered o,
)

-- ---- prefixes of paths

no_longer : (n : List ℕ) (rest x : Path) → x ≡ x ++ n ∷ rest → ⊥
no_longer n rest [] e = cc
no_longer n rest (k ∷ x) e = let tail : x ≡ x ++ n ∷ rest = cc in no_longer n rest x tail

prefix_disjoint : (p q rest : Path) → Disjoint p q → q ≡ p ++ rest → ⊥
prefix_disjoint [] q rest disjoint is = disjoint
prefix_disjoint (n ∷ p) [] rest disjoint is = disjoint
prefix_disjoint (n ∷ p) (m ∷ q) rest disjoint is =
    let one : n ≡ m = cc in
    let tail : q ≡ p ++ rest = cc in
    prefix_disjoint p q rest (disjoint (ap (same_name n) (sym one) ∙ same_itself n)) tail

-- ---- inodes
-- The entry `name` of directory d at p leads to inode i, and the entry `new` of directory e at q to inode g, which leads nowhere.
module _ (v : Values) (t m : Tree) (d e i g : ℕ) (p q : Path) (name new : List ℕ) (from to : Links) (s : Spells v t) (parent : reach (children v) 0 p ≡ Ok d)
    (holds : v d ≡ Some (directory from)) (entry : map.get from name ≡ Some i) (there : at t (p ++ name ∷ []) ≡ Ok m) (goal : reach (children v) 0 q ≡ Ok e)
    (receives : v e ≡ Some (directory to)) (target : map.get to new ≡ Some g) (nowhere : LeadsNowhere (children v) g)
    (disjoint : Disjoint (p ++ name ∷ []) (q ++ new ∷ [])) (turned : Disjoint (q ++ new ∷ []) (p ++ name ∷ [])) (outside : past (p ++ name ∷ []) q ≡ None) where
  unlinked : Values
  unlinked = after v (Unlink e new ∷ [])

  cleared : Values
  cleared = after v (Unlink e new ∷ Free g ∷ [])

  removes : RemovesLink v unlinked e new g to
  unfolding unlinked
  removes = grind arith

  gone : cleared g ≡ None
  unfolding cleared
  gone = rw (eq-eqb g g refl) refl

  others : AgreeBut g unlinked cleared
  unfolding unlinked cleared
  others j other = rw (ne_eqb g j (λ x. other (sym x))) refl

  without_target : Spells cleared (without t (q ++ new ∷ []))
  without_target = freed v unlinked cleared e g t q new to s goal removes nowhere gone others

  -- a path that doesn't begin with the target's leads where it led
  still : (x : Path) (j : ℕ) → past (q ++ new ∷ []) x ≡ None → reach (children v) 0 x ≡ Ok j → reach (children cleared) 0 x ≡ Ok j
  still x j none direct =
      same_reach unlinked cleared x 0 (keeps v unlinked cleared e g t q new to s goal removes nowhere gone others)
      ∙ outside_reached v unlinked 0 e g t q new to s.tree goal removes x j none direct

  goal_link : children v e new ≡ Ok g
  goal_link = ap (λ o. link_of o new) receives ∙ ap (λ o. ok_or o NoEnt) target

  parent_link : children v d name ≡ Ok i
  parent_link = ap (λ o. link_of o name) holds ∙ ap (λ o. ok_or o NoEnt) entry

  goal_stays : g ≢ e
  goal_stays same = nowhere new g (ap (λ k. children v k new) same ∙ goal_link)

  parent_stays : g ≢ d
  parent_stays same = nowhere name i (ap (λ k. children v k name) same ∙ parent_link)

  -- the links of the parent without the target, if it is there
  left : Links
  left = cond (e == d) (map.remove to new) from

  same_links : e ≡ d → to ≡ from
  same_links same = let both = sym receives ∙ ap v same ∙ holds in cc

  left_by : (b : Bool) → (e == d) ≡ b → unlinked d ≡ Some (directory (cond b (map.remove to new) from))
  unfolding unlinked
  left_by true same = rw (same, ap v (sym (eqb-true e d same)) ∙ receives) refl
  left_by false other = rw (other, holds) refl

  parent_holds : cleared d ≡ Some (directory left)
  unfolding left
  parent_holds = others d (λ x. parent_stays (sym x)) ∙ left_by (e == d) refl

  other_names : e ≡ d → same_name name new ≡ true → ⊥
  other_names same named = grind (arith, prefix_disjoint (p ++ name ∷ []) (q ++ new ∷ []), one_name name new named, append-nil (p ++ name ∷ []))

  entry_by : (b : Bool) → (e == d) ≡ b → map.get (cond b (map.remove to new) from) name ≡ Some i
  entry_by false other = entry
  entry_by true same = grind (arith, map.get-remove, nat_list_cmp_total, other_names)

  goal_holds : cleared e ≡ Some (directory (map.remove to new))
  goal_holds = others e (λ x. goal_stays (sym x)) ∙ removes.after

  no_target : map.get (map.remove to new) new ≡ None
  no_target = map.get-remove nat_list_cmp_total to new new ∙ ap (λ b. cond b None (map.get to new)) (same_itself new)

  ordered : IsOrdered t
  ordered = spelled_is_ordered v 0 t s.tree

  parent_free : past (q ++ new ∷ []) p ≡ None
  parent_free = go (past (q ++ new ∷ []) p) refl
    where
      go : (o : Option Path) → past (q ++ new ∷ []) p ≡ o → o ≡ None
      go None is = refl
      go (Some rest) is =
          absurd (prefix_disjoint (q ++ new ∷ []) (p ++ name ∷ []) (rest ++ name ∷ []) turned
          (ap (λ x. x ++ name ∷ []) (past-Some (q ++ new ∷ []) p rest is) ∙ append_assoc (q ++ new ∷ []) rest (name ∷ [])))

  goal_free : past (q ++ new ∷ []) q ≡ None
  goal_free = go (past (q ++ new ∷ []) q) refl
    where
      go : (o : Option Path) → past (q ++ new ∷ []) q ≡ o → o ≡ None
      go None is = refl
      go (Some rest) is = absurd (no_longer new rest q (past-Some (q ++ new ∷ []) q rest is ∙ append_assoc q (new ∷ []) rest))

  -- ---- the moved tree
  below : Below v t (p ++ name ∷ []) i
  below = descend v (p ++ name ∷ []) 0 t i s.tree (reach-append (children v) 0 p (name ∷ []) d parent ∙ reach_step (children v) d i name [] parent_link)

  moved_ordered : IsOrdered m
  moved_ordered =
      let one : below.subtree ≡ m = let both = sym below.place ∙ there in cc in
      subst IsOrdered one (spelled_is_ordered v i below.subtree below.spells)

  place : Directory v t q e to
  place = directory_at v q 0 t e to s.tree goal receives

  same_tree : put (without (without t (q ++ new ∷ [])) (p ++ name ∷ [])) (q ++ new ∷ []) m ≡ put (without t (p ++ name ∷ [])) (q ++ new ∷ []) m
  same_tree =
      sym (without-put (p ++ name ∷ []) (q ++ new ∷ []) (without t (q ++ new ∷ [])) m (ordered-without (q ++ new ∷ []) t ordered) moved_ordered disjoint)
      ∙ ap (λ u. without u (p ++ name ∷ []))
      (put-without_same q new t m place.entries ordered moved_ordered (spelled_is_ordered v e (dir place.entries) place.spells) place.place)
      ∙ without-put (p ++ name ∷ []) (q ++ new ∷ []) t m ordered moved_ordered disjoint

  pub displaced_spells : Spells (after v (Unlink e new ∷ Free g ∷ Unlink d name ∷ Link e new i ∷ [])) (put (without t (p ++ name ∷ [])) (q ++ new ∷ []) m)
  unfolding cleared left
  displaced_spells =
      subst (Spells (after v (Unlink e new ∷ Free g ∷ Unlink d name ∷ Link e new i ∷ []))) same_tree
      (moved_spells cleared (without t (q ++ new ∷ [])) m d e i p q name new left (map.remove to new) without_target (still p d parent_free parent) parent_holds
      (entry_by (e == d) refl)
      (at-without_disjoint (q ++ new ∷ []) (p ++ name ∷ []) t turned ∙ there) (still q e goal_free goal) goal_holds no_target outside)
