-- A link that is made before effects that only take away.
use Rattle.assise_inode_table.proofs.Common.{◌≡◌, ℕ, Bool, true, false, if◌then◌else◌, cond, List, [], ◌∷◌, ◌++◌, ◌+◌, ◌<◌, ◌≤◌, ◌-◌, arith, length, take}
use Rattle.assise_inode_table.proofs.Common.{slice_index_or, Option, Some, None, refl, ap, sym, subst, ◌∙◌, inl, inr, filter, list_all, take_all, take_more}
use Rattle.assise_inode_table.proofs.Common.{same_from_push, filter-append, and_parts, nat_list_cmp_total, Effect, NewFile, NewDir, Write, SetLen, Link, Unlink}
use Rattle.assise_inode_table.proofs.Common.{Free, same_name, one_name, Content, regular, directory, Links, InodeMap, TakesAway, all_applied, applied}
use Rattle.assise_inode_table.proofs.Common.{effect_on, value_after, CanBeChangedWhole, OnlyFirstAsks, OnlyTakeAway, is_link, leaves_entry, takes_away}
use Rattle.std.specs.FinMap as map
use Rattle.assise_inode_table.proofs.Shared.EffectLists.{append_applied, get-all_applied, same_inodes}
use Rattle.assise_inode_table.proofs.EffectOverrides.{same_links}

-- ---- the entries of one directory

insert_other : (links : Links) (name other : List ℕ) (i : ℕ) → same_name other name ≡ false → map.insert (map.remove links other) name i
    ≡ map.remove (map.insert links name i) other
insert_other links name other i differs =
    same_links _ _ (grind (arith, map.get-insert, nat_list_cmp_total, map.get-remove))

insert_again : (links : Links) (name : List ℕ) (i : ℕ) → map.insert (map.remove links name) name i ≡ map.insert links name i
insert_again links name i = grind (arith, same_links, map.get-insert, nat_list_cmp_total, map.get-remove)

-- ---- one inode

other_entry_after : (o : Option Content) (c d : ℕ) (name other : List ℕ) (i : ℕ) → same_name other name ≡ false →
    effect_on (effect_on o (Unlink c other)) (Link d name i) ≡ effect_on (effect_on o (Link d name i)) (Unlink c other)
other_entry_after None c d name other i differs = refl
other_entry_after (Some (regular bytes)) c d name other i differs = refl
other_entry_after (Some (directory links)) c d name other i differs = ap (λ l. Some (directory l)) (insert_other links name other i differs)

same_entry_after : (o : Option Content) (c d : ℕ) (name other : List ℕ) (i : ℕ) → same_name other name ≡ true →
    effect_on (effect_on o (Unlink c other)) (Link d name i) ≡ effect_on o (Link d name i)
same_entry_after None c d name other i same = refl
same_entry_after (Some (regular bytes)) c d name other i same = refl
same_entry_after (Some (directory links)) c d name other i same = grind (arith, one_name other name same, insert_again links name i)

-- ---- one inode of a number, after both effects

both_orders : (a b : Bool) (o : Option Content) (e f : Effect) → (a ≡ true → b ≡ true → effect_on (effect_on o e) f ≡ effect_on (effect_on o f) e) →
    (if b then effect_on (if a then effect_on o e else o) f else (if a then effect_on o e else o))
    ≡ (if a then effect_on (if b then effect_on o f else o) e else (if b then effect_on o f else o))
both_orders true true o e f same = same refl refl
both_orders true false o e f same = refl
both_orders false true o e f same = refl
both_orders false false o e f same = refl

last_alone : (b : Bool) (o : Option Content) (e f : Effect) → effect_on (effect_on o e) f ≡ effect_on o f →
    (if b then effect_on (if b then effect_on o e else o) f else (if b then effect_on o e else o)) ≡ (if b then effect_on o f else o)
last_alone true o e f same = same
last_alone false o e f same = refl

-- only an entry and an inode are taken away
away_cases : (P : Effect → Type 0) → ((c : ℕ) (other : List ℕ) → P (Unlink c other)) → ((c : ℕ) → P (Free c)) → (e : Effect) → TakesAway e → P e
away_cases P entry inode (Unlink c other) t = entry c other
away_cases P entry inode (Free c) t = inode c
away_cases P entry inode (NewFile c) t = absurd t
away_cases P entry inode (NewDir c) t = absurd t
away_cases P entry inode (Write c patch) t = absurd t
away_cases P entry inode (SetLen c size) t = absurd t
away_cases P entry inode (Link c other j) t = absurd t

module _ (d : ℕ) (name : List ℕ) (i : ℕ) where
  link_before : (q : ℕ) (o : Option Content) (e : Effect) → TakesAway e → leaves_entry d name e ≡ true → value_after q o (e ∷ Link d name i ∷ [])
      ≡ value_after q o (Link d name i ∷ e ∷ [])
  link_before q o = grind (arith, other_entry_after)

  link_instead : (q : ℕ) (o : Option Content) (e : Effect) → TakesAway e → leaves_entry d name e ≡ false → value_after q o (e ∷ Link d name i ∷ [])
      ≡ value_after q o (Link d name i ∷ [])
  link_instead q o = grind (arith, same_entry_after)

  -- ---- all inodes

  applied_before : (m : InodeMap) (e : Effect) → TakesAway e → leaves_entry d name e ≡ true → applied (applied m e) (Link d name i)
      ≡ applied (applied m (Link d name i)) e
  applied_before m e t leaves =
      same_inodes _ _ (λ q.
      get-all_applied m (e ∷ Link d name i ∷ []) q ∙ link_before q (map.get m q) e t leaves ∙ sym (get-all_applied m (Link d name i ∷ e ∷ []) q))

  applied_instead : (m : InodeMap) (e : Effect) → TakesAway e → leaves_entry d name e ≡ false → applied (applied m e) (Link d name i)
      ≡ applied m (Link d name i)
  applied_instead m e t gone =
      same_inodes _ _ (λ q. get-all_applied m (e ∷ Link d name i ∷ []) q ∙ link_instead q (map.get m q) e t gone
      ∙ sym (get-all_applied m (Link d name i ∷ []) q))

  one_behind : (m : InodeMap) (e : Effect) (es : List Effect) (b : Bool) → TakesAway e → leaves_entry d name e ≡ b →
      all_applied (applied (applied m e) (Link d name i)) es ≡ all_applied (applied m (Link d name i)) (cond b (e ∷ es) es)
  one_behind m e es true t leaves = ap (λ n. all_applied n es) (applied_before m e t leaves)
  one_behind m e es false t gone = ap (λ n. all_applied n es) (applied_instead m e t gone)

  -- the link comes first, and what takes out its very entry is left out
  pub link_first : (m : InodeMap) (before : List Effect) → OnlyTakeAway before →
      all_applied m (before ++ Link d name i ∷ []) ≡ all_applied (applied m (Link d name i)) (filter (leaves_entry d name) before)
  link_first m [] t = refl
  link_first m (e ∷ es) t = link_first (applied m e) es t.1 ∙ one_behind m e (filter (leaves_entry d name) es) (leaves_entry d name e) t.0 refl

-- ---- one after another, with some passed over

one_more : (m : InodeMap) (p : Effect → Bool) (es : List Effect) (k : ℕ) (e : Effect) → k < length es → e ≡ slice_index_or es k e →
    all_applied m (filter p (take (k + 1) es)) ≡ all_applied (all_applied m (filter p (take k es))) (cond (p e) (e ∷ []) [])
one_more m p es k e h is =
    ap (λ xs. all_applied m (filter p xs)) (take_more es k e h ∙ ap (λ x. take k es ++ x ∷ []) (sym is))
    ∙ ap (all_applied m) (filter-append p (take k es) (e ∷ [])) ∙ append_applied m (filter p (take k es)) (filter p (e ∷ []))

pub one_more_left : (m : InodeMap) (p : Effect → Bool) (es : List Effect) (k : ℕ) (e : Effect) → k < length es → e ≡ slice_index_or es k e → p e ≡ true →
    all_applied m (filter p (take (k + 1) es)) ≡ applied (all_applied m (filter p (take k es))) e
one_more_left m p es k e h is left = one_more m p es k e h is ∙ ap (λ b. all_applied (all_applied m (filter p (take k es))) (cond b (e ∷ []) [])) left

pub one_passed_over : (m : InodeMap) (p : Effect → Bool) (es : List Effect) (k : ℕ) (e : Effect) → k < length es → e ≡ slice_index_or es k e → p e ≡ false →
    all_applied m (filter p (take (k + 1) es)) ≡ all_applied m (filter p (take k es))
one_passed_over m p es k e h is passed = one_more m p es k e h is ∙ ap (λ b. all_applied (all_applied m (filter p (take k es))) (cond b (e ∷ []) [])) passed

-- ---- which effects end with a link

away_type : (e : Effect) → takes_away e ≡ true → TakesAway e
away_type (Unlink d name) away = tt
away_type (Free i) away = tt
away_type (NewFile i) away = cc
away_type (NewDir i) away = cc
away_type (Write i patch) away = cc
away_type (SetLen i size) away = cc
away_type (Link d name i) away = cc

away_test : (e : Effect) → TakesAway e → takes_away e ≡ true
away_test = away_cases (λ e. takes_away e ≡ true) (λ c other. refl) (λ c. refl)

pub all_take_away : (es : List Effect) → list_all takes_away es ≡ true → OnlyTakeAway es
all_take_away [] h = tt
all_take_away (e ∷ es) h = let both = and_parts (takes_away e) (list_all takes_away es) h in (away_type e both.0, all_take_away es both.1)

all_pass : (es : List Effect) → OnlyTakeAway es → list_all takes_away es ≡ true
all_pass [] t = refl
all_pass (e ∷ es) t = rw (away_test e t.0) (all_pass es t.1)

-- a list whose last effect is no link, or whose others don't only take away, is made in its order
pub made_in_order : (es before : List Effect) (last : Effect) → es ≡ before ++ last ∷ [] → CanBeChangedWhole es →
    (is_link last ≡ true → list_all takes_away before ≡ true → ⊥) → OnlyFirstAsks es
made_in_order es before last are (inl asks) other = asks
made_in_order es before last are (inr w) other = grind (arith, same_from_push, all_pass)

-- the effects before the last one, and the last one
pub last_behind : (es : List Effect) (last : Effect) → 1 ≤ length es → last ≡ slice_index_or es (length es - 1) last → es ≡ take (length es - 1) es ++ last ∷ []
last_behind es last some is = grind (arith, take_all, take_more)

-- a link doesn't take away
link_not_away : (e : Effect) → is_link e ≡ true → TakesAway e → ⊥
link_not_away e links t = away_cases (λ e. is_link e ≡ true → ⊥) (λ c other h. cc) (λ c h. cc) e t links

last_away : (before : List Effect) (last : Effect) → OnlyTakeAway (before ++ last ∷ []) → TakesAway last
last_away [] last t = t.0
last_away (b ∷ bs) last t = last_away bs last t.1

-- where the last one is a link, not all take away
pub link_last_asks : (es before : List Effect) (last : Effect) → es ≡ before ++ last ∷ [] → is_link last ≡ true → OnlyTakeAway es → ⊥
link_last_asks es before last are links t = link_not_away last links (last_away before last (subst OnlyTakeAway are t))
