-- The calls that change the bytes of a file agree with the tree: write and truncate.
use Rattle.assise_inode_table.proofs.Common.{ℕ, if◌then◌else◌, nat_le, ◌==◌, List, [], ◌∷◌, length, refl, sym, ◌∙◌, inl, inr, cases_Bool, eq-eqb, ne_eqb, Done}
use Rattle.assise_inode_table.proofs.Common.{Error, IsDir, TooBig, Write, SetLen, overwritten, is_within, resized, Tree, file, put, tree_after_write, arith}
use Rattle.assise_inode_table.proofs.Common.{write_answer, truncate_answer, Path, Values, after, finish, then_or_error, as_regular, write_effects, write_call}
use Rattle.assise_inode_table.proofs.Common.{truncate_call, Spells}
use Rattle.assise_inode_table.proofs.CallsAgree.{Agrees, agrees, agrees_quietly}
use Rattle.assise_inode_table.proofs.FileRewritten.{file_rewritten}
use Rattle.assise_inode_table.proofs.WalkMeets.{settled, walk_fails, walk_to_file, walk_to_directory, Meets, nothing, a_file, a_directory, FindsFile, meets}

module _ (v : Values) (t : Tree) (p : Path) (offset : ℕ) (new : List ℕ) (fresh : ℕ) (s : Spells v t) where
  written : (f : FindsFile v t p) → Spells (after v (Write f.inode (record { offset = offset; bytes = new }) ∷ []))
      (put t p (file (overwritten f.bytes offset new)))
  written f =
      file_rewritten v (after v (Write f.inode (record { offset = offset; bytes = new }) ∷ [])) t p f.inode f.bytes (overwritten f.bytes offset new) s f.reached
      f.holds
      (rw (eq-eqb f.inode f.inode refl, f.holds) refl) (λ j differs. rw (ne_eqb f.inode j (λ e. differs (sym e))) refl)

  write_spells : (f : FindsFile v t p) → Spells (after v (write_effects f.inode offset new)) (tree_after_write t p offset new f.bytes)
  write_spells f =
      elim (cases_Bool (length new == 0)) [
        | inl none ↦ rw none s
        | inr some ↦ rw some (written f)
      ]

  write_file : (f : FindsFile v t p) → Agrees v fresh (settled v (write_call p offset new)) (write_answer t p offset new)
  write_file f =
      let ends = walk_to_file v t p
      (λ i c. then_or_error (as_regular c) (λ _. if is_within offset new then finish Done (write_effects i offset new) else finish (Error TooBig) [])) f in
      elim (cases_Bool (is_within offset new)) [
        | inl fits ↦ agrees v fresh _ _ Done (write_effects f.inode offset new) (tree_after_write t p offset new f.bytes) (ends ∙ rw fits refl)
            (rw (f.there, fits) refl) (λ n. write_spells f)
        | inr big ↦ agrees_quietly v t fresh _ _ (Error TooBig) s (ends ∙ rw big refl) (rw (f.there, big) refl)
      ]

  pub write_agrees : Agrees v fresh (settled v (write_call p offset new)) (write_answer t p offset new)
  write_agrees = go (meets v t p s)
    where
      go : Meets v t p → Agrees v fresh (settled v (write_call p offset new)) (write_answer t p offset new)
      go (nothing e f a) = agrees_quietly v t fresh _ _ (Error e) s (walk_fails v p _ e f) (rw a refl)
      go (a_file f) = write_file f
      go (a_directory d) = agrees_quietly v t fresh _ _ (Error IsDir) s (walk_to_directory v t p _ d) (rw d.there refl)

module _ (v : Values) (t : Tree) (p : Path) (size fresh : ℕ) (s : Spells v t) where
  cut_or_filled : (f : FindsFile v t p) → Spells (after v (SetLen f.inode size ∷ [])) (put t p (file (resized f.bytes size)))
  cut_or_filled f =
      file_rewritten v (after v (SetLen f.inode size ∷ [])) t p f.inode f.bytes (resized f.bytes size) s f.reached f.holds
      (rw (eq-eqb f.inode f.inode refl, f.holds) refl) (λ j differs. rw (ne_eqb f.inode j (λ e. differs (sym e))) refl)

  truncate_file : (f : FindsFile v t p) → Agrees v fresh (settled v (truncate_call p size)) (truncate_answer t p size)
  truncate_file f =
      let ends = walk_to_file v t p
      (λ i c. then_or_error (as_regular c) (λ _. if nat_le size 1048576 then finish Done (SetLen i size ∷ []) else finish (Error TooBig) [])) f in
      elim (cases_Bool (nat_le size 1048576)) [
        | inl fits ↦ grind (arith, cut_or_filled f)
        | inr big ↦ agrees_quietly v t fresh _ _ (Error TooBig) s (ends ∙ rw big refl) (rw (f.there, big) refl)
      ]

  pub truncate_agrees : Agrees v fresh (settled v (truncate_call p size)) (truncate_answer t p size)
  truncate_agrees = go (meets v t p s)
    where
      go : Meets v t p → Agrees v fresh (settled v (truncate_call p size)) (truncate_answer t p size)
      go (nothing e f a) = agrees_quietly v t fresh _ _ (Error e) s (walk_fails v p _ e f) (rw a refl)
      go (a_file f) = truncate_file f
      go (a_directory d) = agrees_quietly v t fresh _ _ (Error IsDir) s (walk_to_directory v t p _ d) (rw d.there refl)
