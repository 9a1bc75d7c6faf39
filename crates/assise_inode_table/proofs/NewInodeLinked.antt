-- A new inode that leads nowhere is linked into a directory.
use Rattle.assise_inode_table.proofs.Common.{◌≡◌, ◌≢◌, ℕ, Bool, true, false, List, [], ◌∷◌, ◌++◌, None, IsSome, is_some, Ok, refl, sym, ap, ◌∙◌, eqb, eqb-true}
use Rattle.assise_inode_table.proofs.Common.{eqb-false, Tree, put, Path, Links, Values, children, reach, Spells, SpellsFrom, ShareNone, AgreeBut, AddsLink}
use Rattle.assise_inode_table.proofs.PathReach.{Keeps, away_keeps, same_reach, kept_spells}
use Rattle.assise_inode_table.proofs.Shared.ReachedSpelling.{none_is_away}
use Rattle.assise_inode_table.proofs.Leaves.{LeadsNowhere, alone}
use Rattle.assise_inode_table.proofs.SubtreeLinked.{linked, old_reached, held_reached}

-- In u there is the new inode i, and in w its entry too.
module _ (v u w : Values) (d i : ℕ) (t new : Tree) (p : Path) (name : List ℕ) (links : Links) (s : Spells v t) (fresh : v i ≡ None) (others : AgreeBut i v u)
    (held : SpellsFrom u i new) (nowhere : LeadsNowhere (children u) i) (place : reach (children v) 0 p ≡ Ok d) (a : AddsLink u w d name i links) where
  keeps : Keeps v u 0
  keeps = away_keeps v u i 0 others (none_is_away v 0 t i s.tree fresh)

  spells : SpellsFrom u 0 t
  spells = kept_spells v u 0 t s.tree keeps

  parent : reach (children u) 0 p ≡ Ok d
  parent = same_reach v u p 0 keeps ∙ place

  disjoint : ShareNone (children u) 0 i
  disjoint x y j e f = none_is_away v 0 t i s.tree fresh x (sym (same_reach v u x 0 keeps) ∙ e ∙ ap Ok (alone (children u) i nowhere y j f))

  Reached : ℕ → Type 0
  Reached j = (q : Path) × (reach (children w) 0 q ≡ Ok j)

  from_old : (j : ℕ) → j ≢ d → j ≢ i → IsSome (w j) → Reached j
  unfolding Reached
  from_old j not_d not_i there =
      let q = s.reached j (ap is_some (sym (a.others j not_d ∙ others j not_i)) ∙ there) in
      old_reached u w 0 d i t new p name links spells held disjoint parent a j q.0 (same_reach v u q.0 0 keeps ∙ q.1)

  by_parent : (j : ℕ) → j ≢ i → IsSome (w j) → (b : Bool) → eqb j d ≡ b → Reached j
  unfolding Reached
  by_parent j not_i there true e = old_reached u w 0 d i t new p name links spells held disjoint parent a j p (parent ∙ ap Ok (sym (eqb-true j d e)))
  by_parent j not_i there false e = from_old j (eqb-false j d e) not_i there

  by_new : (j : ℕ) → IsSome (w j) → (b : Bool) → eqb j i ≡ b → Reached j
  unfolding Reached
  by_new j there true e = held_reached u w 0 d i t new p name links spells held disjoint parent a j [] (ap Ok (sym (eqb-true j i e)))
  by_new j there false e = by_parent j (eqb-false j i e) there (eqb j d) refl

  pub created : Spells w (put t (p ++ name ∷ []) new)
  unfolding Reached
  created = record {
    tree = linked u w 0 d i t new p name links spells held disjoint parent a;
    reached = λ j there. by_new j there (eqb j i) refl;
  }
