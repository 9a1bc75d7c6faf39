-- What is spelled is ordered, and one tree.
use Rattle.assise_inode_table.proofs.Common.{◌≡◌, ℕ, Bool, true, false, cond, List, [], ◌∷◌, Option, Some, None, Result, Ok, Err, refl, sym, ap, subst, ◌∙◌}
use Rattle.assise_inode_table.proofs.Common.{TreeError, Tree, file, dir, Entries, no_entries, entry, same_name, find, IsBelow, IsOrdered, AreOrdered, names_of}
use Rattle.assise_inode_table.proofs.Common.{◌>>=◌, one_name, find_below, find_first, found_later, Path, Content, regular, directory, Values, children, reach}
use Rattle.assise_inode_table.proofs.Common.{Shape, folder, shape_of, shown_from, shown_in, SpellsFrom}
use Rattle.std.specs.FinMap as map
use Rattle.assise_inode_table.proofs.Shared.DirectoryNames.{Ascend, names_below, ascend-keys}
use Rattle.assise_inode_table.proofs.TreeShows.{shown_here, shown_dir, shown_below}

-- ---- entries
-- ---- order
-- the names of each directory that is shown ascend
abbrev pub ShowsAscending : (Path → Result Shape TreeError) → Type 0
ShowsAscending shown = (p : Path) (names : List (List ℕ)) → shown p ≡ Ok (folder names) → Ascend names

mutual
  ordered_tree : (t : Tree) → ShowsAscending (shown_in t) → IsOrdered t
  ordered_tree (file bytes) h = tt
  ordered_tree (dir es) h = ordered_entries es (h [] (names_of es) (shown_here (dir es)))
      (λ q u there p names e. h (q ∷ p) names (shown_dir es q p ∙ ap (shown_below p) there ∙ e))

  ordered_entries : (es : Entries) → Ascend (names_of es) → ((q : List ℕ) (u : Tree) → find q es ≡ Some u → ShowsAscending (shown_in u)) → AreOrdered es
  ordered_entries no_entries ascend h = tt
  ordered_entries (entry name t es) ascend h =
      let below = names_below name es ascend.0 in
      (below, ordered_tree t (h name t (find_first name t es)), ordered_entries es ascend.2 (λ q u there. h q u (found_later q name t u es below there)))

shown_ascending : (v : Values) (r : ℕ) → ShowsAscending (shown_from v r)
shown_ascending v r p names e = by_inode (reach (children v) r p) e
  where
    by_value : (o : Option Content) → shape_of o ≡ Ok (folder names) → Ascend names
    by_value None f = cc
    by_value (Some (regular bytes)) f = cc
    by_value (Some (directory links)) f = let is : map.keys links ≡ names = cc in subst Ascend is (ascend-keys links)

    by_inode : (o : Result ℕ TreeError) → (o >>= λ j. shape_of (v j)) ≡ Ok (folder names) → Ascend names
    by_inode (Ok j) f = by_value (v j) f
    by_inode (Err x) f = cc

pub spelled_is_ordered : (v : Values) (r : ℕ) (t : Tree) → SpellsFrom v r t → IsOrdered t
spelled_is_ordered v r t s = ordered_tree t (λ p names e. shown_ascending v r p names (s.shows p ∙ e))

-- ---- one tree
shown_entry : (q name : List ℕ) (t u : Tree) (es fs : Entries) (p : Path) → IsBelow name es → IsBelow name fs
    → shown_below p (find q (entry name t es)) ≡ shown_below p (find q (entry name u fs)) → shown_below p (find q es) ≡ shown_below p (find q fs)
shown_entry q name t u es fs p a b h = go (same_name q name) refl h
  where
    go : (c : Bool) → same_name q name ≡ c → shown_below p (cond c (Some t) (find q es)) ≡ shown_below p (cond c (Some u) (find q fs))
        → shown_below p (find q es) ≡ shown_below p (find q fs)
    go true e f =
        ap (λ n. shown_below p (find n es)) (one_name q name e) ∙ ap (shown_below p) (find_below name es a) ∙ sym (ap (shown_below p) (find_below name fs b))
        ∙ sym (ap (λ n. shown_below p (find n fs)) (one_name q name e))
    go false e f = f

abbrev pub ShowSame : Entries → Entries → Type 0
ShowSame es fs = (q : List ℕ) (p : Path) → shown_below p (find q es) ≡ shown_below p (find q fs)

mutual
  same_tree : (t u : Tree) → IsOrdered t → IsOrdered u → ((p : Path) → shown_in t p ≡ shown_in u p) → t ≡ u
  same_tree (file bytes) (file others) a b h = let shapes = sym (shown_here (file bytes)) ∙ h [] ∙ shown_here (file others) in cc
  same_tree (file bytes) (dir fs) a b h = let shapes = sym (shown_here (file bytes)) ∙ h [] ∙ shown_here (dir fs) in cc
  same_tree (dir es) (file others) a b h = let shapes = sym (shown_here (dir es)) ∙ h [] ∙ shown_here (file others) in cc
  same_tree (dir es) (dir fs) a b h =
      let shapes = sym (shown_here (dir es)) ∙ h [] ∙ shown_here (dir fs) in
      ap dir (same_all es fs a b (cc) (λ q p. sym (shown_dir es q p) ∙ h (q ∷ p) ∙ shown_dir fs q p))

  same_all : (es fs : Entries) → AreOrdered es → AreOrdered fs → names_of es ≡ names_of fs → ShowSame es fs → es ≡ fs
  same_all no_entries no_entries a b names h = refl
  same_all no_entries (entry m u fs) a b names h = cc
  same_all (entry n t es) no_entries a b names h = cc
  same_all (entry n t es) (entry m u fs) a b names h =
      let one : n ≡ m = cc in
      let here : ShowSame (entry n t es) (entry n u fs) = subst (λ k. ShowSame (entry n t es) (entry k u fs)) (sym one) h in
      let below : IsBelow n fs = subst (λ k. IsBelow k fs) (sym one) b.0 in
      let first : t ≡ u = same_tree t u a.1 b.1 (λ p. sym (ap (shown_below p) (find_first n t es)) ∙ here n p ∙ ap (shown_below p) (find_first n u fs)) in
      let rest : es ≡ fs = same_all es fs a.2 b.2 (cc) (λ q p. shown_entry q n t u es fs p a.0 below (here q p)) in
      cc

pub spelled_is_one : (v : Values) (r : ℕ) (t u : Tree) → SpellsFrom v r t → SpellsFrom v r u → t ≡ u
spelled_is_one v r t u s o = same_tree t u (spelled_is_ordered v r t s) (spelled_is_ordered v r u o) (λ p. sym (s.shows p) ∙ o.shows p)
