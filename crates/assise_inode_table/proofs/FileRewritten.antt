-- The bytes of a file change.
use Rattle.assise_inode_table.proofs.Common.{◌≡◌, ℕ, Bool, true, false, List, [], Some, IsSome, is_some, Ok, refl, sym, ap, ◌∙◌, inl, eqb, eqb-true, eqb-false}
use Rattle.assise_inode_table.proofs.Common.{Tree, file, put, Path, regular, Values, children, reach, Spells, SpellsFrom, AgreeBut}
use Rattle.assise_inode_table.proofs.Shared.ReachedSpelling.{Below, descend}
use Rattle.assise_inode_table.proofs.Leaves.{alone, file_nowhere, file_spells}
use Rattle.assise_inode_table.proofs.InodeRegrown.{IsOwn, regrown, still_reached}

module _ (v w : Values) (t : Tree) (p : Path) (i : ℕ) (bytes new : List ℕ) (s : Spells v t) (place : reach (children v) 0 p ≡ Ok i)
    (before : v i ≡ Some (regular bytes)) (after : w i ≡ Some (regular new)) (others : AgreeBut i v w) where
  found : Below v t p i
  found = descend v p 0 t i s.tree place

  own : IsOwn v w 0 i
  own a j e = inl ([], ap Ok (sym (alone (children w) i (file_nowhere w i new after) a j e)))

  spells : SpellsFrom w i (file new)
  spells = file_spells w i new after

  still_below : (j : ℕ) (a : Path) → reach (children v) i a ≡ Ok j → (b : Path) × (reach (children w) i b ≡ Ok j)
  still_below j a e = ([], ap Ok (sym (alone (children v) i (file_nowhere v i bytes before) a j e)))

  was_there : (j : ℕ) → IsSome (w j) → (b : Bool) → eqb j i ≡ b → IsSome (v j)
  was_there j there true e = ap is_some (ap v (eqb-true j i e) ∙ before)
  was_there j there false e = ap is_some (sym (others j (eqb-false j i e))) ∙ there

  pub file_rewritten : Spells w (put t p (file new))
  file_rewritten = record {
    tree = regrown v w 0 i t found.subtree (file new) p s.tree place found.place others spells own;
    reached = λ j there.
        let q = s.reached j (was_there j there (eqb j i) refl) in
        still_reached v w 0 i t found.subtree (file new) p s.tree place found.place others spells own j q.0 q.1 (still_below j);
  }
