-- What an entry led to goes with it.
use Rattle.assise_inode_table.proofs.Common.{◌≡◌, ◌≢◌, ℕ, Bool, true, false, List, [], ◌∷◌, ◌++◌, None, IsSome, is_some, Ok, refl, sym, ap, ◌∙◌, eqb}
use Rattle.assise_inode_table.proofs.Common.{false≢true, eqb-true, eqb-false, Tree, without, Path, Links, Values, children, reach, Spells, AgreeBut}
use Rattle.assise_inode_table.proofs.Common.{RemovesLink}
use Rattle.assise_inode_table.proofs.PathReach.{Keeps, away_keeps, same_reach, kept_spells}
use Rattle.assise_inode_table.proofs.Leaves.{LeadsNowhere, alone}
use Rattle.assise_inode_table.proofs.EntryUnlinked.{rest, disjoint, others_reached}

-- In u the entry is gone, and in w the inode i too.
module _ (v u w : Values) (d i : ℕ) (t : Tree) (p : Path) (name : List ℕ) (links : Links) (s : Spells v t) (parent : reach (children v) 0 p ≡ Ok d)
    (l : RemovesLink v u d name i links) (nowhere : LeadsNowhere (children v) i) (gone : w i ≡ None) (others : AgreeBut i u w) where
  pub keeps : Keeps u w 0
  keeps = away_keeps u w i 0 others (λ q e. disjoint v u 0 d i t p name links s.tree parent l q [] i e refl)

  stays : (j : ℕ) → IsSome (w j) → j ≢ i
  stays j there e = false≢true (sym (ap is_some (ap w e ∙ gone)) ∙ there)

  was_there : (j : ℕ) → IsSome (w j) → (b : Bool) → eqb j d ≡ b → IsSome (v j)
  was_there j there true e = ap is_some (ap v (eqb-true j d e) ∙ l.before)
  was_there j there false e = ap is_some (sym (others j (stays j there) ∙ l.others j (eqb-false j d e))) ∙ there

  reached : (j : ℕ) → IsSome (w j) → (q : Path) × (reach (children w) 0 q ≡ Ok j)
  reached j there =
      let q = s.reached j (was_there j there (eqb j d) refl) in
      let b = others_reached v u 0 d i t p name links s.tree parent l j (λ x e. stays j there (alone (children v) i nowhere x j e)) q.0 q.1 in
      (b.0, same_reach u w b.0 0 keeps ∙ b.1)

  pub freed : Spells w (without t (p ++ name ∷ []))
  freed = record { tree = kept_spells u w 0 (without t (p ++ name ∷ [])) (rest v u 0 d i t p name links s.tree parent l) keeps; reached = reached }
