-- An entry is moved to another place, with all that it leads to.
use Rattle.assise_inode_table.proofs.Common.{◌≡◌, ℕ, ◌==◌, Bool, true, false, cond, List, [], ◌∷◌, ◌++◌, Option, Some, None, IsSome, is_some, Ok, refl, sym, ap}
use Rattle.assise_inode_table.proofs.Common.{◌∙◌, eqb, eqb-true, eqb-false, nat_list_cmp_total, Link, Unlink, Tree, at, put, without, Path, directory, Links}
use Rattle.assise_inode_table.proofs.Common.{Values, after, children, reach, SpellsFrom, Spells, ShareNone, AddsLink, RemovesLink, arith}
use Rattle.std.proofs.lemmas.List.{append_assoc}
use Rattle.std.specs.FinMap as map
use Rattle.assise_inode_table.proofs.Prefixes.{past, past-Some}
use Rattle.assise_inode_table.proofs.PathReach.{same_reach}
use Rattle.assise_inode_table.proofs.SubtreeLinked.{linked, old_reached, held_reached}
use Rattle.assise_inode_table.proofs.EntryUnlinked.{held_keeps, held_path, rest, held, disjoint, others_reached, outside_away, outside_reached}

-- The entry `name` of directory d, which the path p reaches, leads to inode i. It becomes the entry `new` of directory e, which the path q reaches, and no
-- path through the entry does.
module _ (v : Values) (t m : Tree) (d e i : ℕ) (p q : Path) (name new : List ℕ) (from to : Links) (s : Spells v t) (parent : reach (children v) 0 p ≡ Ok d)
    (holds : v d ≡ Some (directory from)) (entry : map.get from name ≡ Some i) (there : at t (p ++ name ∷ []) ≡ Ok m) (goal : reach (children v) 0 q ≡ Ok e)
    (receives : v e ≡ Some (directory to)) (absent : map.get to new ≡ None) (outside : past (p ++ name ∷ []) q ≡ None) where
  between : Values
  between = after v (Unlink d name ∷ [])

  moved : Values
  moved = after v (Unlink d name ∷ Link e new i ∷ [])

  removes : RemovesLink v between d name i from
  unfolding between
  removes = grind arith

  -- the links of the goal once the entry is gone
  left : Links
  left = cond (d == e) (map.remove from name) to

  left_by : (b : Bool) → (d == e) ≡ b → between e ≡ Some (directory (cond b (map.remove from name) to))
  unfolding between
  left_by true same = grind arith
  left_by false other = rw (other, receives) refl

  same_links : d ≡ e → from ≡ to
  same_links same = let both = sym holds ∙ ap v same ∙ receives in cc

  none_left : (b : Bool) → (d == e) ≡ b → map.get (cond b (map.remove from name) to) new ≡ None
  none_left true same = grind (arith, map.get-remove, nat_list_cmp_total)
  none_left false other = absent

  adds : AddsLink between moved e new i left
  unfolding between moved left
  adds = grind (arith, none_left)

  goal_after : reach (children between) 0 q ≡ Ok e
  goal_after = outside_reached v between 0 d i t p name from s.tree parent removes q e outside goal

  rest_spelled : SpellsFrom between 0 (without t (p ++ name ∷ []))
  rest_spelled = rest v between 0 d i t p name from s.tree parent removes

  moved_spelled : SpellsFrom between i m
  moved_spelled = held v between 0 d i t p name from s.tree parent removes m there

  moved_disjoint : ShareNone (children between) 0 i
  moved_disjoint = disjoint v between 0 d i t p name from s.tree parent removes

  Reached : ℕ → Type 0
  Reached j = (x : Path) × (reach (children moved) 0 x ≡ Ok j)

  still_reached : (j : ℕ) (x : Path) → reach (children v) 0 x ≡ Ok j → Reached j
  unfolding Reached
  still_reached j x direct = go (past (p ++ name ∷ []) x) refl
    where
      go : (o : Option Path) → past (p ++ name ∷ []) x ≡ o → Reached j
      go None none =
          let b = others_reached v between 0 d i t p name from s.tree parent removes j
          (outside_away v between 0 d i t p name from s.tree parent removes x j none direct) x direct in
          old_reached between moved 0 e i (without t (p ++ name ∷ [])) m q new left rest_spelled moved_spelled moved_disjoint goal_after adds j b.0 b.1
      go (Some a) some =
          let path = ap (reach (children v) 0) (sym (past-Some (p ++ name ∷ []) x a some ∙ append_assoc p (name ∷ []) a)) ∙ direct in
          let below = sym (held_path v between 0 d i t p name from s.tree parent removes a) ∙ path in
          held_reached between moved 0 e i (without t (p ++ name ∷ [])) m q new left rest_spelled moved_spelled moved_disjoint goal_after adds j a
          (same_reach v between a i (held_keeps v between 0 d i t p name from s.tree parent removes) ∙ below)

  was_there : (j : ℕ) → IsSome (moved j) → (a b : Bool) → eqb j d ≡ a → eqb j e ≡ b → IsSome (v j)
  was_there j some true b is_d other = ap is_some (ap v (eqb-true j d is_d) ∙ holds)
  was_there j some false true other is_e = ap is_some (ap v (eqb-true j e is_e) ∙ receives)
  was_there j some false false not_d not_e = ap is_some (sym (adds.others j (eqb-false j e not_e) ∙ removes.others j (eqb-false j d not_d))) ∙ some

  pub moved_spells : Spells (after v (Unlink d name ∷ Link e new i ∷ [])) (put (without t (p ++ name ∷ [])) (q ++ new ∷ []) m)
  unfolding moved Reached
  moved_spells = record {
    tree = linked between moved 0 e i (without t (p ++ name ∷ [])) m q new left rest_spelled moved_spelled moved_disjoint goal_after adds;
    reached = λ j some. let x = s.reached j (was_there j some (eqb j d) (eqb j e) refl refl) in still_reached j x.0 x.1;
  }
