-- One entry of a directory comes to lead elsewhere: what is reached and shown from there.
use Rattle.assise_inode_table.proofs.Common.{◌≡◌, ℕ, true, false, cond, List, [], ◌∷◌, Option, Some, Result, Ok, Err, refl, sym, ap, ◌∙◌, ok_or, TreeError}
use Rattle.assise_inode_table.proofs.Common.{NoEnt, Tree, dir, Entries, same_name, find, names_of, ◌>>=◌, Path, directory, Links, Values, Shape, folder}
use Rattle.assise_inode_table.proofs.Common.{children, reach, link_of, shape_of, shown_from, shown_in, ReachesOnce, AgreeBut, arith}
use Rattle.std.specs.FinMap as map
use Rattle.assise_inode_table.proofs.PathReach.{no_way_back, Keeps, away_keeps, same_rest, same_reach, same_shown}
use Rattle.assise_inode_table.proofs.TreeShows.{shown_here, shown_dir, shown_below}

-- in directory d the name leads to the target, or nowhere
pub record Relinks (v w : Values) (d : ℕ) (name : List ℕ) (before after : Links) (target : Option ℕ) : Type 0 where
  pub old : v d ≡ Some (directory before)
  pub now : w d ≡ Some (directory after)
  pub gets : (x : List ℕ) → map.get after x ≡ cond (same_name x name) target (map.get before x)
  pub others : AgreeBut d v w

-- from the target on
abbrev pub way : Values → Option ℕ → Path → Result ℕ TreeError
way v target q = ok_or target NoEnt >>= λ i. reach (children v) i q

abbrev pub shown_on : Values → Option ℕ → Path → Result Shape TreeError
shown_on v target q = way v target q >>= λ j. shape_of (v j)

-- what the entries of d that stay lead to holds the same
module _ (v w : Values) (d : ℕ) (once : ReachesOnce (children v) d) (others : AgreeBut d v w) where
  entry_keeps : (x : List ℕ) (k : ℕ) → children v d x ≡ Ok k → Keeps v w k
  entry_keeps x k e = away_keeps v w d k others (no_way_back (children v) d k x once e)

  entry_reach : (x : List ℕ) (q : Path) → (children v d x >>= λ k. reach (children w) k q) ≡ reach (children v) d (x ∷ q)
  entry_reach x q = same_rest (children v) (children w) q (children v d x) (λ k e. same_reach v w q k (entry_keeps x k e))

  entry_shown : (x : List ℕ) (q : Path) (o : Result ℕ TreeError) → children v d x ≡ o
      → ((o >>= λ k. reach (children w) k q) >>= λ j. shape_of (w j)) ≡ ((o >>= λ k. reach (children v) k q) >>= λ j. shape_of (v j))
  entry_shown x q (Ok k) e = same_shown v w q k (entry_keeps x k e)
  entry_shown x q (Err z) e = refl

module _ (v w : Values) (d : ℕ) (name : List ℕ) (before after : Links) (target : Option ℕ) (c : Relinks v w d name before after target)
    (once : ReachesOnce (children v) d) where
  link_now : (x : List ℕ) → link_of (w d) x ≡ ok_or (cond (same_name x name) target (map.get before x)) NoEnt
  link_now x = ap (λ o. link_of o x) c.now ∙ ap (λ o. ok_or o NoEnt) (c.gets x)

  link_old : (x : List ℕ) → ok_or (map.get before x) NoEnt ≡ children v d x
  link_old x = sym (ap (λ o. link_of o x) c.old)

  pub relinked : (x : List ℕ) (q : Path) → reach (children w) d (x ∷ q) ≡ cond (same_name x name) (way w target q) (reach (children v) d (x ∷ q))
  relinked x q = grind (arith, entry_reach v w d once c.others x q)

  relinked_shown : (x : List ℕ) (q : Path) → shown_from w d (x ∷ q) ≡ cond (same_name x name) (shown_on w target q) (shown_from v d (x ∷ q))
  relinked_shown x q = grind (arith, entry_shown v w d once c.others x q (children v d x) refl)

  -- The entries come to be fs, with a new tree or none under the name.
  module _ (es fs : Entries) (new : Option Tree) (shows : (q : Path) → shown_from v d q ≡ shown_in (dir es) q)
      (finds : (x : List ℕ) → find x fs ≡ cond (same_name x name) new (find x es)) (names : names_of fs ≡ map.keys after)
      (shows_new : (q : Path) → shown_on w target q ≡ shown_below q new) where
    pub relinked_shows : (q : Path) → shown_from w d q ≡ shown_in (dir fs) q
    relinked_shows [] = ap shape_of c.now ∙ ap (λ ks. Ok (folder ks)) (sym names) ∙ sym (shown_here (dir fs))
    relinked_shows (x ∷ q) =
        relinked_shown x q
        ∙ elim (same_name x name) as (λ b. cond b (shown_on w target q) (shown_from v d (x ∷ q)) ≡ shown_below q (cond b new (find x es))) [
          | true ↦ shows_new q
          | false ↦ shows (x ∷ q) ∙ shown_dir es x q
        ]
        ∙ ap (shown_below q) (sym (finds x)) ∙ sym (shown_dir fs x q)
