-- A tree that stands apart is linked into a directory.
use Rattle.assise_inode_table.proofs.Common.{◌≡◌, ℕ, Bool, true, false, cond, List, [], ◌∷◌, ◌++◌, Some, Ok, Err, refl, sym, ap, subst, ◌∙◌, ok_or}
use Rattle.assise_inode_table.proofs.Common.{nat_list_cmp_total, NoEnt, Tree, dir, Entries, same_name, put, IsOrdered, AreOrdered, names_of, ◌>>=◌, same_itself}
use Rattle.assise_inode_table.proofs.Common.{one_name, find-set, ordered-set, Path, Links, Values, children, reach, link_of, ReachesOnce, SpellsFrom, ShareNone}
use Rattle.assise_inode_table.proofs.Common.{AddsLink, arith}
use Rattle.std.specs.FinMap as map
use Rattle.assise_seq_tree.specs.Tree.{set}
use Rattle.assise_inode_table.proofs.PathReach.{reach-append, once_below, Away, away_keeps, same_reach, same_shown}
use Rattle.assise_inode_table.proofs.TreeShows.{put_entry}
use Rattle.assise_inode_table.proofs.Shared.DirectoryNames.{names_are_keys, same_found}
use Rattle.assise_inode_table.proofs.Shared.SpellingUnique.{spelled_is_ordered}
use Rattle.assise_inode_table.proofs.Shared.ReachedSpelling.{Directory, directory_at}
use Rattle.assise_inode_table.proofs.EntryRelinked.{Relinks, relinked, relinked_shows}
use Rattle.assise_inode_table.proofs.InodeRegrown.{IsOwn, regrown, inside, still_reached}

links_more : (v w : Values) (d : ℕ) (name : List ℕ) (i : ℕ) (links : Links) → AddsLink v w d name i links → Relinks v w d name links (map.insert links name i)
    (Some i)
links_more v w d name i links a = record { old = a.before; now = a.after; gets = λ x. map.get-insert nat_list_cmp_total links name i x; others = a.others }

names_more : (es : Entries) (links : Links) (name : List ℕ) (u : Tree) (i : ℕ) → AreOrdered es → IsOrdered u → names_of es ≡ map.keys links
    → names_of (set name u es) ≡ map.keys (map.insert links name i)
names_more es links name u i s o names = grind (arith, names_are_keys, ordered-set, find-set, same_found, map.get-insert, nat_list_cmp_total)

-- What inode i spells is linked into the directory d, which the path p reaches.
module _ (v w : Values) (r d i : ℕ) (t u : Tree) (p : Path) (name : List ℕ) (links : Links) (s : SpellsFrom v r t) (held : SpellsFrom v i u)
    (disjoint : ShareNone (children v) r i) (parent : reach (children v) r p ≡ Ok d) (a : AddsLink v w d name i links) where
  place : Directory v t p d links
  place = directory_at v p r t d links s parent a.before

  change : Relinks v w d name links (map.insert links name i) (Some i)
  change = links_more v w d name i links a

  once_here : ReachesOnce (children v) d
  once_here = once_below (children v) r p d s.once parent

  far : Away (children v) i d
  far q e = disjoint p q d parent e

  held_reach : (q : Path) → reach (children w) i q ≡ reach (children v) i q
  held_reach q = same_reach v w q i (away_keeps v w d i a.others far)

  -- where a path from the directory leads
  data Leads (q : Path) (j : ℕ) : Type 0 where
    into : (rest : Path) → q ≡ name ∷ rest → reach (children v) i rest ≡ Ok j → Leads q j
    besides : reach (children v) d q ≡ Ok j → Leads q j

  leads : (q : Path) (j : ℕ) → reach (children w) d q ≡ Ok j → Leads q j
  leads [] j e = besides e
  leads (x ∷ q) j e = go (same_name x name) refl (sym (relinked v w d name links (map.insert links name i) (Some i) change once_here x q) ∙ e)
    where
      go : (b : Bool) → same_name x name ≡ b → cond b (reach (children w) i q) (reach (children v) d (x ∷ q)) ≡ Ok j → Leads (x ∷ q) j
      go true f h = into q (ap (λ n. n ∷ q) (one_name x name f)) (sym (held_reach q) ∙ h)
      go false f h = besides h

  disjoint_here : (q rest : Path) (j : ℕ) → reach (children v) d q ≡ Ok j → reach (children v) i rest ≡ Ok j → ⊥
  disjoint_here q rest j e f = disjoint (p ++ q) rest j (reach-append (children v) r p q d parent ∙ e) f

  once_after : ReachesOnce (children w) d
  once_after x y j e f = grind (arith, leads, disjoint_here, once_here)

  ordered_here : AreOrdered place.entries
  ordered_here = spelled_is_ordered v d (dir place.entries) place.spells

  spells_here : SpellsFrom w d (dir (set name u place.entries))
  spells_here = record {
    shows = relinked_shows v w d name links (map.insert links name i) (Some i) change once_here place.entries (set name u place.entries) (Some u)
        place.spells.shows
        (λ x. find-set x name u place.entries) (names_more place.entries links name u i ordered_here (spelled_is_ordered v i u held) place.names)
        (λ q. same_shown v w q i (away_keeps v w d i a.others far) ∙ held.shows q);
    once = once_after;
  }

  own : IsOwn v w r d
  own x j e = grind (arith, leads)

  pub linked : SpellsFrom w r (put t (p ++ name ∷ []) u)
  linked =
      subst (SpellsFrom w r) (sym (put_entry p name t u place.entries place.place))
      (regrown v w r d t (dir place.entries) (dir (set name u place.entries)) p s parent place.place a.others spells_here own)

  -- what was reached, from the root or from i, is reached
  no_link : children v d name ≡ Err NoEnt
  no_link = ap (λ o. link_of o name) a.before ∙ ap (λ o. ok_or o NoEnt) a.absent

  still_below : (j : ℕ) (q : Path) → reach (children v) d q ≡ Ok j → (b : Path) × (reach (children w) d b ≡ Ok j)
  still_below j [] e = ([], e)
  still_below j (x ∷ q) e = (x ∷ q, relinked v w d name links (map.insert links name i) (Some i) change once_here x q ∙ go (same_name x name) refl)
    where
      go : (b : Bool) → same_name x name ≡ b → cond b (reach (children w) i q) (reach (children v) d (x ∷ q)) ≡ Ok j
      go true f =
          let none = sym (ap (λ o. o >>= λ k. reach (children v) k q) (ap (children v d) (one_name x name f) ∙ no_link)) ∙ e in
          cc
      go false f = e

  pub old_reached : (j : ℕ) (q : Path) → reach (children v) r q ≡ Ok j → (b : Path) × (reach (children w) r b ≡ Ok j)
  old_reached j q e = still_reached v w r d t (dir place.entries) (dir (set name u place.entries)) p s parent place.place a.others spells_here own j q e
      (still_below j)

  pub held_reached : (j : ℕ) (q : Path) → reach (children v) i q ≡ Ok j → (b : Path) × (reach (children w) r b ≡ Ok j)
  held_reached j q e = (
    p ++ name ∷ q,
    inside v w r d t (dir place.entries) (dir (set name u place.entries)) p s parent place.place a.others spells_here own (name ∷ q) j
        (relinked v w d name links (map.insert links name i) (Some i) change once_here name q
        ∙ ap (λ b. cond b (reach (children w) i q) (reach (children v) d (name ∷ q))) (same_itself name) ∙ held_reach q ∙ e),
  )
