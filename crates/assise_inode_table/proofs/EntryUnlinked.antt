-- An entry is taken out: what it held stands apart from then on.
use Rattle.assise_inode_table.proofs.Common.{◌≡◌, ℕ, Bool, true, false, cond, List, [], ◌∷◌, ◌++◌, Option, Some, None, Ok, Err, refl, sym, ap, subst, ◌∙◌, inl}
use Rattle.assise_inode_table.proofs.Common.{ok_or, option_map_or, nat_list_cmp_total, NoEnt, Tree, dir, Entries, same_name, remove, at, without, AreOrdered}
use Rattle.assise_inode_table.proofs.Common.{names_of, same_itself, one_name, find-remove, ordered-remove, Path, no_error, Links, Values, children, reach}
use Rattle.assise_inode_table.proofs.Common.{link_of, ReachesOnce, SpellsFrom, ShareNone, RemovesLink, arith}
use Rattle.std.proofs.lemmas.List.{append_assoc}
use Rattle.std.specs.FinMap as map
use Rattle.assise_inode_table.proofs.Prefixes.{past, past_prefix, past_itself, past-Some}
use Rattle.assise_inode_table.proofs.PathReach.{reach_step, reach-append, once_below, Away, no_way_back, Keeps, away_keeps, same_reach, kept_spells}
use Rattle.assise_inode_table.proofs.TreeShows.{without_entry}
use Rattle.assise_inode_table.proofs.Shared.DirectoryNames.{names_are_keys, same_found}
use Rattle.assise_inode_table.proofs.Shared.SpellingUnique.{spelled_is_ordered}
use Rattle.assise_inode_table.proofs.Shared.ReachedSpelling.{descend, Directory, directory_at}
use Rattle.assise_inode_table.proofs.EntryRelinked.{Relinks, relinked, relinked_shows}
use Rattle.assise_inode_table.proofs.InodeRegrown.{detour, IsOwn, regrown, still_reached}

links_less : (v w : Values) (d : ℕ) (name : List ℕ) (i : ℕ) (links : Links) → RemovesLink v w d name i links → Relinks v w d name links (map.remove links name)
    None
links_less v w d name i links u = record { old = u.before; now = u.after; gets = λ x. map.get-remove nat_list_cmp_total links name x; others = u.others }

names_less : (es : Entries) (links : Links) (name : List ℕ) → AreOrdered es → names_of es ≡ map.keys links → names_of (remove name es)
    ≡ map.keys (map.remove links name)
names_less es links name s names = grind (arith, names_are_keys, ordered-remove name es s, find-remove, same_found, map.get-remove, nat_list_cmp_total)

-- The directory d, which the path p reaches, loses the name of inode i.
module _ (v w : Values) (r d i : ℕ) (t : Tree) (p : Path) (name : List ℕ) (links : Links) (s : SpellsFrom v r t) (parent : reach (children v) r p ≡ Ok d)
    (u : RemovesLink v w d name i links) where
  place : Directory v t p d links
  place = directory_at v p r t d links s parent u.before

  change : Relinks v w d name links (map.remove links name) None
  change = links_less v w d name i links u

  once_here : ReachesOnce (children v) d
  once_here = once_below (children v) r p d s.once parent

  link : children v d name ≡ Ok i
  link = ap (λ o. link_of o name) u.before ∙ ap (λ o. ok_or o NoEnt) u.present

  pub held_keeps : Keeps v w i
  held_keeps = away_keeps v w d i u.others (no_way_back (children v) d i name once_here link)

  pub held_path : (q : Path) → reach (children v) r (p ++ name ∷ q) ≡ reach (children v) i q
  held_path q = reach-append (children v) r p (name ∷ q) d parent ∙ reach_step (children v) d i name q link

  -- ---- from the directory
  nothing_there : (q : Path) (j : ℕ) → reach (children w) d (name ∷ q) ≡ Ok j → ⊥
  nothing_there q j e = grind (arith, change, same_itself)

  before : (q : Path) (j : ℕ) → reach (children w) d q ≡ Ok j → reach (children v) d q ≡ Ok j
  before [] j e = e
  before (x ∷ q) j e =
      (no_error (same_name x name) NoEnt (reach (children v) d (x ∷ q)) j
      (sym (relinked v w d name links (map.remove links name) None change once_here x q) ∙ e)).1

  spells_here : SpellsFrom w d (dir (remove name place.entries))
  spells_here =
      let ordered = spelled_is_ordered v d (dir place.entries) place.spells in
      record {
        shows = relinked_shows v w d name links (map.remove links name) None change once_here place.entries (remove name place.entries) None place.spells.shows
            (λ x. find-remove x name place.entries ordered) (names_less place.entries links name ordered place.names) (λ q. refl);
        once = λ x y j e f. once_here x y j (before x j e) (before y j f);
      }

  own : IsOwn v w r d
  own x j e = inl (x, before x j e)

  -- ---- from the root
  pub rest : SpellsFrom w r (without t (p ++ name ∷ []))
  rest =
      subst (SpellsFrom w r) (sym (without_entry p name t place.entries place.place))
      (regrown v w r d t (dir place.entries) (dir (remove name place.entries)) p s parent place.place u.others spells_here own)

  pub held : (x : Tree) → at t (p ++ name ∷ []) ≡ Ok x → SpellsFrom w i x
  held x is =
      let b = descend v (p ++ name ∷ []) r t i s (held_path []) in
      let one : b.subtree ≡ x = let both = sym b.place ∙ is in cc in
      kept_spells v w i x (subst (SpellsFrom v i) one b.spells) held_keeps

  -- what is reached was reached by the same path
  found_before : (q : Path) (j : ℕ) → reach (children w) r q ≡ Ok j → reach (children v) r q ≡ Ok j
  found_before q j e = go (past p q) refl
    where
      back : (o : Option Path) → past p q ≡ o → option_map_or (λ rest. reach (children w) d rest) o (reach (children v) r q) ≡ Ok j
      back o f = ap (λ x. option_map_or (λ rest. reach (children w) d rest) x (reach (children v) r q)) (sym f)
          ∙ sym (detour v w d p r u.others s.once parent q) ∙ e

      go : (o : Option Path) → past p q ≡ o → reach (children v) r q ≡ Ok j
      go None f = back None f
      go (Some a) f = ap (reach (children v) r) (past-Some p q a f) ∙ reach-append (children v) r p a d parent ∙ before a j (back (Some a) f)

  parent_after : reach (children w) r p ≡ Ok d
  parent_after =
      detour v w d p r u.others s.once parent p
      ∙ ap (λ o. option_map_or (λ rest. reach (children w) d rest) o (reach (children v) r p)) (past_itself p)

  pub disjoint : ShareNone (children w) r i
  disjoint a b j e f =
      let one : a ≡ p ++ name ∷ b = s.once a (p ++ name ∷ b) j (found_before a j e) (held_path b ∙ sym (same_reach v w b i held_keeps) ∙ f) in
      nothing_there b j (sym (reach-append (children w) r p (name ∷ b) d parent_after) ∙ ap (reach (children w) r) (sym one) ∙ e)

  -- what the entry did not hold is still reached
  still_below : (j : ℕ) → Away (children v) i j → (a : Path) → reach (children v) d a ≡ Ok j → (b : Path) × (reach (children w) d b ≡ Ok j)
  still_below j away [] e = ([], e)
  still_below j away (x ∷ a) e = (x ∷ a, relinked v w d name links (map.remove links name) None change once_here x a ∙ go (same_name x name) refl)
    where
      go : (b : Bool) → same_name x name ≡ b → cond b (Err NoEnt) (reach (children v) d (x ∷ a)) ≡ Ok j
      go true f = absurd (away a (sym (reach_step (children v) d i x a (ap (children v d) (one_name x name f) ∙ link)) ∙ e))
      go false f = e

  pub others_reached : (j : ℕ) → Away (children v) i j → (q : Path) → reach (children v) r q ≡ Ok j → (b : Path) × (reach (children w) r b ≡ Ok j)
  others_reached j away q e =
      still_reached v w r d t (dir place.entries) (dir (remove name place.entries)) p s parent place.place u.others spells_here own j q e (still_below j away)

  -- ---- paths that don't begin with the entry's
  through : (x b : Path) (j : ℕ) → reach (children v) r x ≡ Ok j → reach (children v) i b ≡ Ok j → x ≡ (p ++ name ∷ []) ++ b
  through x b j direct below = s.once x (p ++ name ∷ b) j direct (held_path b ∙ below) ∙ sym (append_assoc p (name ∷ []) b)

  pub outside_away : (x : Path) (j : ℕ) → past (p ++ name ∷ []) x ≡ None → reach (children v) r x ≡ Ok j → Away (children v) i j
  outside_away x j none direct b below = grind (arith, through, past_prefix)

  -- such a path leads where it led
  pub outside_reached : (x : Path) (j : ℕ) → past (p ++ name ∷ []) x ≡ None → reach (children v) r x ≡ Ok j → reach (children w) r x ≡ Ok j
  outside_reached x j none direct = grind (arith, others_reached, outside_away, found_before)
