-- The calls that take an entry out agree with the tree: unlink and rmdir.
use Rattle.assise_inode_table.proofs.Common.{◌≡◌, ℕ, arith, false, ◌==◌, List, [], ◌∷◌, ◌++◌, length, Result, Ok, refl, sym, subst, ◌∙◌, inl, inr, cases_Bool}
use Rattle.assise_inode_table.proofs.Common.{eq-eqb, ne_eqb, eqb-true, eqb-false, nil_from_length, Reply, Done, Error, TreeError, IsDir, NotDir, NotEmpty}
use Rattle.assise_inode_table.proofs.Common.{Invalid, Effect, Unlink, Free, Tree, without, ◌>>=◌, parent_of, last_name, file_at, entries_at, reply_and_tree}
use Rattle.assise_inode_table.proofs.Common.{unlink_answer, rmdir_answer, Path, parent_and_last, Content, regular, directory, Values, after, Interaction}
use Rattle.assise_inode_table.proofs.Common.{finish, then_or_error, as_regular, as_links, without_links, walk_to_entry, unlink_call, rmdir_call, children}
use Rattle.assise_inode_table.proofs.Common.{Spells, Err, if◌then◌else◌}
use Rattle.std.specs.FinMap as map
use Rattle.assise_seq_tree.specs.Answer.{vacant as empty}
use Rattle.assise_inode_table.proofs.CallsAgree.{Agrees, agrees, agrees_quietly}
use Rattle.assise_inode_table.proofs.EntryFreed.{freed}
use Rattle.assise_inode_table.proofs.Leaves.{LeadsNowhere, file_nowhere, vacant_nowhere}
use Rattle.assise_inode_table.proofs.WalkMeets.{settled, Meets, nothing, a_file, a_directory, FindsFile, FindsDirectory, meets, same_count}
use Rattle.assise_inode_table.proofs.MeetingEntries.{HasEntry, entry_at, walk_finds_entry, walk_fails_entry}

-- ---- what the tree answers where the path has a name

abbrev if_it_may : Tree → Path → Result (Unit {0}) TreeError → Reply × Tree
if_it_may t p may = reply_and_tree t (may >>= λ _. Ok (Done, without t p))

abbrev unlinked_at : Tree → Path → Reply × Tree
unlinked_at t p = if_it_may t p (file_at t p >>= λ _. Ok tt)

abbrev removed_at : Tree → Path → Reply × Tree
removed_at t p = if_it_may t p (entries_at t p >>= λ es. empty es)

-- ---- an entry is taken out, and its inode goes too

abbrev taken_out : ℕ → List ℕ → ℕ → List Effect
taken_out d name i = Unlink d name ∷ Free i ∷ []

module _ (v : Values) (t : Tree) (p : Path) (name : List ℕ) (fresh : ℕ) (s : Spells v t) where
  entry_gone : (i : ℕ) (h : HasEntry v p name i) → LeadsNowhere (children v) i → Spells (after v (taken_out h.parent name i)) (without t (p ++ name ∷ []))
  entry_gone i h nowhere =
      freed v (after v (Unlink h.parent name ∷ [])) (after v (taken_out h.parent name i)) h.parent i t p name h.links s h.reached
      (record {
        before = h.holds;
        present = h.present;
        after = rw (eq-eqb h.parent h.parent refl, h.holds) refl;
        others = λ j other. rw (ne_eqb h.parent j (λ e. other (sym e))) refl;
      })
      nowhere (rw (eq-eqb i i refl) refl) (λ j other. rw (ne_eqb i j (λ e. other (sym e))) refl)

  -- ---- unlink

  take_file : ℕ → ℕ → Content → Interaction
  take_file d i content = then_or_error (as_regular content) (λ _. finish Done (taken_out d name i))

  unlinked : Reply × Tree
  unlinked = unlinked_at t (p ++ name ∷ [])

  unlink_below : Agrees v fresh (settled v (walk_to_entry p name take_file)) unlinked
  unfolding take_file unlinked
  unlink_below = go (meets v t (p ++ name ∷ []) s)
    where
      file_goes : (f : FindsFile v t (p ++ name ∷ [])) (h : HasEntry v p name f.inode) → Agrees v fresh (settled v (walk_to_entry p name take_file)) unlinked
      file_goes f h =
          agrees v fresh _ _ Done (taken_out h.parent name f.inode) (without t (p ++ name ∷ []))
          (walk_finds_entry v p name f.inode (regular f.bytes) take_file h f.holds) (rw f.there refl)
          (λ n. entry_gone f.inode h (file_nowhere v f.inode f.bytes f.holds))

      go : Meets v t (p ++ name ∷ []) → Agrees v fresh (settled v (walk_to_entry p name take_file)) unlinked
      go (nothing e f a) = agrees_quietly v t fresh _ _ (Error e) s (walk_fails_entry v p name e take_file f) (rw a refl)
      go (a_file f) = file_goes f (entry_at v p name f.inode f.reached)
      go (a_directory d) = agrees_quietly v t fresh _ _ (Error IsDir) s
          (walk_finds_entry v p name d.inode (directory d.links) take_file (entry_at v p name d.inode d.reached) d.holds) (rw d.there refl)

  -- ---- rmdir

  take_directory : ℕ → ℕ → Content → Interaction
  take_directory d i content = then_or_error (as_links content) (λ links. then_or_error (without_links links) (λ _. finish Done (taken_out d name i)))

  removed : Reply × Tree
  removed = removed_at t (p ++ name ∷ [])

  rmdir_below : Agrees v fresh (settled v (walk_to_entry p name take_directory)) removed
  unfolding take_directory removed
  rmdir_below = go (meets v t (p ++ name ∷ []) s)
    where
      directory_goes : (d : FindsDirectory v t (p ++ name ∷ [])) (h : HasEntry v p name d.inode) →
          Agrees v fresh (settled v (walk_to_entry p name take_directory)) removed
      directory_goes d h =
          let ends = walk_finds_entry v p name d.inode (directory d.links) take_directory h d.holds in
          let many = same_count d.entries d.links d.names in
          elim (cases_Bool (length (map.keys d.links) == 0)) [
            | inl none ↦
                agrees v fresh _ _ Done (taken_out h.parent name d.inode) (without t (p ++ name ∷ [])) (ends ∙ rw none refl) (rw (d.there, sym many, none) refl)
                (λ n. entry_gone d.inode h (vacant_nowhere v d.inode d.links d.holds (nil_from_length (map.keys d.links) (eqb-true _ 0 none))))
            | inr some ↦ agrees_quietly v t fresh _ _ (Error NotEmpty) s (ends ∙ rw some refl) (rw (d.there, sym many, some) refl)
          ]

      go : Meets v t (p ++ name ∷ []) → Agrees v fresh (settled v (walk_to_entry p name take_directory)) removed
      go (nothing e f a) = agrees_quietly v t fresh _ _ (Error e) s (walk_fails_entry v p name e take_directory f) (rw a refl)
      go (a_file f) = agrees_quietly v t fresh _ _ (Error NotDir) s
          (walk_finds_entry v p name f.inode (regular f.bytes) take_directory (entry_at v p name f.inode f.reached) f.holds) (rw f.there refl)
      go (a_directory d) = directory_goes d (entry_at v p name d.inode d.reached)

-- ---- the root has no entry

pub whole : (p : Path) → (length p == 0) ≡ false → p ≡ parent_of p ++ last_name p ∷ []
whole p deep = parent_and_last p (let no = eqb-false (length p) 0 deep in omega (arith, no))

module _ (v : Values) (t : Tree) (p : Path) (fresh : ℕ) (s : Spells v t) where
  -- a call that walks to the entry where the path has a name, and else is refused
  by_name : (error : TreeError) (call : Interaction) (may : Path → Result (Unit {0}) TreeError)
      → Agrees v fresh (settled v call) (if_it_may t (parent_of p ++ last_name p ∷ []) (may (parent_of p ++ last_name p ∷ [])))
      → Agrees v fresh (settled v (if length p == 0 then finish (Error error) [] else call)) (if_it_may t p (if length p == 0 then Err error else may p))
  by_name error call may below =
      elim (cases_Bool (length p == 0)) [
        | inl root ↦ rw root (agrees_quietly v t fresh _ _ (Error error) s refl refl)
        | inr deep ↦ rw deep (subst (λ q. Agrees v fresh (settled v call) (if_it_may t q (may q))) (sym (whole p deep)) below)
      ]

  pub unlink_agrees : Agrees v fresh (settled v (unlink_call p)) (unlink_answer t p)
  unfolding take_file unlinked
  unlink_agrees = by_name IsDir (walk_to_entry (parent_of p) (last_name p) (take_file v t (parent_of p) (last_name p) fresh s))
      (λ q. file_at t q >>= λ _. Ok tt) (unlink_below v t (parent_of p) (last_name p) fresh s)

  pub rmdir_agrees : Agrees v fresh (settled v (rmdir_call p)) (rmdir_answer t p)
  unfolding take_directory removed
  rmdir_agrees = by_name Invalid (walk_to_entry (parent_of p) (last_name p) (take_directory v t (parent_of p) (last_name p) fresh s))
      (λ q. entries_at t q >>= λ es. empty es) (rmdir_below v t (parent_of p) (last_name p) fresh s)
