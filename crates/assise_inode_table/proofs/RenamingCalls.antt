-- A rename over inodes agrees with a rename of the tree.
use Rattle.assise_inode_table.proofs.Common.{◌≡◌, ◌≢◌, ℕ, Bool, false, cond, ◌==◌, ◌||◌, nat_le, List, [], ◌∷◌, ◌++◌, length, Option, Some, None, is_some}
use Rattle.assise_inode_table.proofs.Common.{Result, Ok, Err, refl, ap, sym, subst, ◌∙◌, inl, inr, ok_or, cases_Bool, or_parts, nil_from_length}
use Rattle.assise_inode_table.proofs.Common.{is_proper_prefix, same_path, Reply, Done, Error, TreeError, NoEnt, NotDir, Invalid, DirFull, Effect, Unlink, Free}
use Rattle.assise_inode_table.proofs.Common.{Tree, file, dir, Entries, find, names_of, at, put, without, ◌>>=◌, parent_of, last_name, as_directory, entries_at}
use Rattle.assise_inode_table.proofs.Common.{may_receive, tree_may_replace, reply_and_tree, tree_after_rename, rename_answer, Path, Disjoint, same_is}
use Rattle.assise_inode_table.proofs.Common.{not_begins, Content, regular, directory, Links, Values, after, finish, then_or_error, content_may_replace}
use Rattle.assise_inode_table.proofs.Common.{without_links, move_effects, move_to, receive, replace_target, room_beside, walk_to_entry, rename_call, children}
use Rattle.assise_inode_table.proofs.Common.{reach, link_of, Spells, arith}
use Rattle.std.specs.Prelude.{if◌then◌else◌}
use Rattle.std.proofs.lemmas.List.{append_assoc, append-nil}
use Rattle.std.specs.FinMap as map
use Rattle.assise_seq_tree.proofs.Shared.Paths.{disjoint_from}
use Rattle.assise_seq_tree.proofs.Shared.MovedTreeRoom.{entry_there}
use Rattle.assise_inode_table.proofs.CallsAgree.{Agrees, agrees, agrees_quietly}
use Rattle.assise_inode_table.proofs.EntryReplaced.{displaced_spells}
use Rattle.assise_inode_table.proofs.Prefixes.{past, past-Some}
use Rattle.assise_inode_table.proofs.Leaves.{LeadsNowhere, ends, file_nowhere, vacant_nowhere}
use Rattle.assise_inode_table.proofs.WalkMeets.{settled, walk_fails, walk_to_file, walk_to_directory, Meets, nothing, a_file, a_directory, FindsDirectory}
use Rattle.assise_inode_table.proofs.WalkMeets.{meets, same_count}
use Rattle.assise_inode_table.proofs.MeetingEntries.{HasEntry, entry_at, walk_finds_entry, walk_fails_entry}
use Rattle.assise_inode_table.proofs.EntryMoved.{moved_spells}
use Rattle.assise_inode_table.proofs.Shared.DirectoryNames.{same_found}
use Rattle.assise_inode_table.proofs.PathReach.{reach_step, reach-append}
use Rattle.assise_inode_table.proofs.RemovingCalls.{whole}

-- ---- what stands in the other's place

-- a content and a tree are both files, or both directories with the same names
data SameKind (c : Content) (u : Tree) : Type 0 where
  files : (bytes : List ℕ) → c ≡ regular bytes → u ≡ file bytes → SameKind c u
  directories : (links : Links) (es : Entries) → c ≡ directory links → u ≡ dir es → names_of es ≡ map.keys links → SameKind c u

same_replacing : (c d : Content) (m u : Tree) → SameKind c m → SameKind d u → content_may_replace c d ≡ tree_may_replace m u
same_replacing c d m u (files b is there) (files g be too) = rw (is, there, be, too) refl
same_replacing c d m u (files b is there) (directories links es be too names) = rw (is, there, be, too) refl
same_replacing c d m u (directories links es is there names) (files g be too) = rw (is, there, be, too) refl
same_replacing c d m u (directories ks fs is there names) (directories links es be too named) = rw (is, there, be, too, same_count es links named) refl

is_vacant : (links : Links) → without_links links ≡ Ok tt → map.keys links ≡ []
is_vacant links h = grind (arith, nil_from_length)

-- what may be replaced leads nowhere
replaced_nowhere : (v : Values) (g : ℕ) (c d : Content) → v g ≡ Some d → content_may_replace c d ≡ Ok tt → LeadsNowhere (children v) g
replaced_nowhere v g c (regular bytes) holds may = file_nowhere v g bytes holds
replaced_nowhere v g (regular b) (directory links) holds may = cc
replaced_nowhere v g (directory ks) (directory links) holds may = vacant_nowhere v g links holds (is_vacant links may)

-- ---- a rename of paths that have a last name, of which the first is no proper prefix of the second

module _ (v : Values) (t : Tree) (p q : Path) (fresh : ℕ) (s : Spells v t) (from_whole : p ≡ parent_of p ++ last_name p ∷ [])
    (to_whole : q ≡ parent_of q ++ last_name q ∷ [])
    (ring : is_proper_prefix p q ≡ false) where
  abbrev stays : Bool
  stays = same_path (parent_of p) (parent_of q)

  -- what the tree answers, by what stands at p and what the checks say
  abbrev answer_by : Result Tree TreeError → Result (Unit {0}) TreeError → Reply × Tree
  answer_by found may = reply_and_tree t (may >>= λ _. found >>= λ moved. Ok (Done, tree_after_rename t p q moved))

  abbrev entered : Tree → Entries → Result (Unit {0}) TreeError
  entered moved es = if same_path p q then Ok tt else may_receive moved stays es (find (last_name q) es)

  -- ---- the paths
  differ : same_path p q ≡ false → p ≢ q
  differ other e = let same = (same_is p q).1 e in cc

  no_ring : same_path p q ≡ false → (rest : Path) → q ≢ p ++ rest
  no_ring other rest e = not_begins p q ring (differ other) rest e

  outside : same_path p q ≡ false → past (parent_of p ++ last_name p ∷ []) (parent_of q) ≡ None
  outside other = subst (λ x. past x (parent_of q) ≡ None) from_whole (go (past p (parent_of q)) refl)
    where
      go : (o : Option Path) → past p (parent_of q) ≡ o → o ≡ None
      go None is = refl
      go (Some rest) is =
          absurd (no_ring other (rest ++ last_name q ∷ [])
          (to_whole ∙ ap (λ x. x ++ last_name q ∷ []) (past-Some p (parent_of q) rest is) ∙ append_assoc p rest (last_name q ∷ [])))

  -- ---- inode i with its content c, the entry of p, spells the tree m there
  module _ (i : ℕ) (c : Content) (m : Tree) (h : HasEntry v (parent_of p) (last_name p) i) (holds : v i ≡ Some c) (reached : reach (children v) 0 p ≡ Ok i)
      (there : at t p ≡ Ok m)
      (kind : SameKind c m) where
    module _ (d : FindsDirectory v t (parent_of q)) (other : same_path p q ≡ false) where
      abbrev moves : List Effect
      moves = move_effects h.parent (last_name p) d.inode (last_name q) i

      abbrev moved_tree : Tree
      moved_tree = put (without t p) q m

      answered : (es : Result (Unit {0}) TreeError) → es ≡ Ok tt → answer_by (Ok m) es ≡ (Done, moved_tree)
      answered es is = rw (is, other) refl

      refused : (es : Result (Unit {0}) TreeError) (e : TreeError) → es ≡ Err e → answer_by (Ok m) es ≡ (Error e, t)
      refused es e is = rw is refl

      -- nothing stands at q
      placed : map.get d.links (last_name q) ≡ None → Spells (after v moves) moved_tree
      placed none =
          subst (λ x. Spells (after v moves) (put (without t x) q m)) (sym from_whole)
          (subst (λ y. Spells (after v moves) (put (without t (parent_of p ++ last_name p ∷ [])) y m)) (sym to_whole)
          (moved_spells v t m h.parent d.inode i (parent_of p) (parent_of q) (last_name p) (last_name q) h.links d.links s h.reached h.holds h.present
          (ap (at t) (sym from_whole) ∙ there)
          d.reached d.holds none (outside other)))

      received_new : map.get d.links (last_name q) ≡ None → (r : Result (Unit {0}) TreeError) → room_beside stays d.links ≡ r →
          may_receive m stays d.entries None ≡ r →
          Agrees v fresh (settled v (then_or_error r (λ _. finish Done moves))) (answer_by (Ok m) r)
      received_new none (Ok x) is too = agrees v fresh _ _ Done moves moved_tree refl (answered (Ok x) refl) (λ n. placed none)
      received_new none (Err e) is too = agrees_quietly v t fresh _ _ (Error e) s refl (refused (Err e) e refl)

      same_room : room_beside stays d.links ≡ may_receive m stays d.entries None
      same_room = ap (λ k. if stays then Ok tt else (if nat_le 4096 k then Err DirFull else Ok tt)) (same_count d.entries d.links d.names)

      -- the inode g stands at q
      module _ (g : ℕ) (target : map.get d.links (last_name q) ≡ Some g) (u : Tree) (found : find (last_name q) d.entries ≡ Some u) where
        abbrev replacing : List Effect
        replacing = Unlink d.inode (last_name q) ∷ Free g ∷ moves

        goal_reached : reach (children v) 0 (parent_of q ++ last_name q ∷ []) ≡ Ok g
        goal_reached =
            reach-append (children v) 0 (parent_of q) (last_name q ∷ []) d.inode d.reached
            ∙ reach_step (children v) d.inode g (last_name q) [] (ap (λ o. link_of o (last_name q)) d.holds ∙ ap (λ o. ok_or o NoEnt) target)

        goal_there : at t (parent_of q ++ last_name q ∷ []) ≡ Ok u
        goal_there = entry_there (parent_of q) (last_name q) t u d.entries d.there found

        record Target : Type 0 where
          pub content : Content
          pub is : v g ≡ Some content
          pub alike : SameKind content u

        met : Meets v t (parent_of q ++ last_name q ∷ []) → Target
        met (nothing e f a) = let no : Err e ≡ Ok u = sym a ∙ goal_there in cc
        met (a_file f) =
            let one : f.inode ≡ g = let both = sym f.reached ∙ goal_reached in cc in
            let tree : u ≡ file f.bytes = let both = sym goal_there ∙ f.there in cc in
            record { content = regular f.bytes; is = ap v (sym one) ∙ f.holds; alike = files f.bytes refl tree }
        met (a_directory f) =
            let one : f.inode ≡ g = let both = sym f.reached ∙ goal_reached in cc in
            let tree : u ≡ dir f.entries = let both = sym goal_there ∙ f.there in cc in
            record { content = directory f.links; is = ap v (sym one) ∙ f.holds; alike = directories f.links f.entries refl tree f.names }

        seen : Target
        seen = met (meets v t (parent_of q ++ last_name q ∷ []) s)

        -- p doesn't go on from q, which leads nowhere
        not_below : LeadsNowhere (children v) g → (rest : Path) → p ≡ q ++ rest → ⊥
        not_below nowhere rest e =
            let way : reach (children v) g rest ≡ Ok i =
            sym (reach-append (children v) 0 (parent_of q ++ last_name q ∷ []) rest g goal_reached) ∙ ap (λ x. reach (children v) 0 (x ++ rest)) (sym to_whole)
            ∙ ap (reach (children v) 0) (sym e) ∙ reached in
            let none : rest ≡ [] = ends (children v) g nowhere rest i way in
            differ other (e ∙ ap (λ x. q ++ x) none ∙ append-nil q)

        displaced : LeadsNowhere (children v) g → Spells (after v replacing) moved_tree
        displaced nowhere =
            let a : Disjoint p q = disjoint_from p q (not_below nowhere) (no_ring other) in
            let b : Disjoint q p = disjoint_from q p (no_ring other) (not_below nowhere) in
            let c : Disjoint (parent_of p ++ last_name p ∷ []) (parent_of q ++ last_name q ∷ []) = subst (λ x. Disjoint x (parent_of q ++ last_name q ∷ []))
            from_whole (subst (Disjoint p) to_whole a) in
            let e : Disjoint (parent_of q ++ last_name q ∷ []) (parent_of p ++ last_name p ∷ []) = subst (λ x. Disjoint x (parent_of p ++ last_name p ∷ []))
            to_whole (subst (Disjoint q) from_whole b) in
            subst (λ x. Spells (after v replacing) (put (without t x) q m)) (sym from_whole)
            (subst (λ y. Spells (after v replacing) (put (without t (parent_of p ++ last_name p ∷ [])) y m)) (sym to_whole)
            (displaced_spells v t m h.parent d.inode i g (parent_of p) (parent_of q) (last_name p) (last_name q) h.links d.links s h.reached h.holds h.present
            (ap (at t) (sym from_whole) ∙ there)
            d.reached d.holds target nowhere c e (outside other)))

        replaced_by : (r : Result (Unit {0}) TreeError) → content_may_replace c seen.content ≡ r → tree_may_replace m u ≡ r →
            Agrees v fresh (settled v (then_or_error r (λ _. finish Done replacing))) (answer_by (Ok m) r)
        replaced_by (Ok x) is too = agrees v fresh _ _ Done replacing moved_tree refl (answered (Ok x) refl)
            (λ n. displaced (replaced_nowhere v g c seen.content seen.is is))
        replaced_by (Err e) is too = agrees_quietly v t fresh _ _ (Error e) s refl (refused (Err e) e refl)

        received_over : Agrees v fresh (settled v (replace_target c d.inode (last_name q) moves g)) (answer_by (Ok m) (may_receive m stays d.entries (Some u)))
        received_over =
            let same = same_replacing c seen.content m u kind seen.alike in
            let at_target : settled v (replace_target c d.inode (last_name q) moves g)
            ≡ settled v (then_or_error (content_may_replace c seen.content) (λ _. finish Done replacing)) =
            ap (λ o. settled v (then_or_error (ok_or o NoEnt) (λ x. then_or_error (content_may_replace c x) (λ _. finish Done replacing)))) seen.is in
            subst (λ o. Agrees v fresh o (answer_by (Ok m) (tree_may_replace m u))) (sym at_target)
            (subst (λ r. Agrees v fresh (settled v (then_or_error (content_may_replace c seen.content) (λ _. finish Done replacing))) (answer_by (Ok m) r)) same
            (replaced_by (content_may_replace c seen.content) refl (sym same)))

      received : (o : Option ℕ) (r : Option Tree) → map.get d.links (last_name q) ≡ o → find (last_name q) d.entries ≡ r → is_some r ≡ is_some o →
          Agrees v fresh (settled v (receive c stays d.inode d.links (last_name q) moves o)) (answer_by (Ok m) (may_receive m stays d.entries r))
      received None None none absent both =
          subst (λ r. Agrees v fresh (settled v (then_or_error (room_beside stays d.links) (λ _. finish Done moves))) (answer_by (Ok m) r)) same_room
          (received_new none (room_beside stays d.links) refl (sym same_room))
      received (Some g) (Some u) target found both = received_over g target u found
      received None (Some u) none found both = cc
      received (Some g) None target absent both = cc

    goes : Agrees v fresh (settled v (move_to p q h.parent i c)) (answer_by (Ok m) (entries_at t (parent_of q) >>= entered m))
    goes = go (meets v t (parent_of q) s)
      where
        into : (d : FindsDirectory v t (parent_of q)) → Agrees v fresh (settled v (move_to p q h.parent i c))
            (answer_by (Ok m) (entries_at t (parent_of q) >>= entered m))
        into d =
            let way = walk_to_directory v t (parent_of q) _ d in
            elim (cases_Bool (same_path p q)) [
              | inl same ↦ agrees_quietly v t fresh _ _ Done s (way ∙ rw same refl) (rw (d.there, same) refl)
              | inr other ↦
                  let done = received d other (map.get d.links (last_name q)) (find (last_name q) d.entries) refl refl
                  (same_found d.entries d.links d.names (last_name q)) in
                  let ends : settled v (move_to p q h.parent i c)
                  ≡ settled v (receive c stays d.inode d.links (last_name q) (move_effects h.parent (last_name p) d.inode (last_name q) i)
                  (map.get d.links (last_name q))) =
                  way ∙ rw other refl in
                  let inside : (entries_at t (parent_of q) >>= entered m) ≡ may_receive m stays d.entries (find (last_name q) d.entries) =
                  ap (λ o. (o >>= as_directory) >>= entered m) d.there ∙ ap (λ b. cond b (Ok tt) (may_receive m stays d.entries (find (last_name q) d.entries)))
                  other in
                  subst (λ o. Agrees v fresh o (answer_by (Ok m) (entries_at t (parent_of q) >>= entered m))) (sym ends)
                  (subst (λ r. Agrees v fresh (settled v
                  (receive c stays d.inode d.links (last_name q) (move_effects h.parent (last_name p) d.inode (last_name q) i)
                  (map.get d.links (last_name q)))) (answer_by (Ok m) r)) (sym inside) done)
            ]

        go : Meets v t (parent_of q) → Agrees v fresh (settled v (move_to p q h.parent i c)) (answer_by (Ok m) (entries_at t (parent_of q) >>= entered m))
        go (nothing e f a) = agrees_quietly v t fresh _ _ (Error e) s (walk_fails v (parent_of q) _ e f) (rw a refl)
        go (a_file f) = agrees_quietly v t fresh _ _ (Error NotDir) s (walk_to_file v t (parent_of q) _ f) (rw f.there refl)
        go (a_directory d) = into d

  -- ---- from the root
  abbrev checked : Result (Unit {0}) TreeError
  checked = at t p >>= λ moved. entries_at t (parent_of q) >>= entered moved

  rename_below : Agrees v fresh (settled v (walk_to_entry (parent_of p) (last_name p) (move_to p q))) (answer_by (at t p) checked)
  rename_below = go (meets v t (parent_of p ++ last_name p ∷ []) s)
    where
      path : {A : Type 0} (f : Path → A) → f p ≡ f (parent_of p ++ last_name p ∷ [])
      path f = ap f from_whole

      into : (i : ℕ) (c : Content) (m : Tree) → reach (children v) 0 (parent_of p ++ last_name p ∷ []) ≡ Ok i → v i ≡ Some c →
          at t (parent_of p ++ last_name p ∷ []) ≡ Ok m → SameKind c m →
          Agrees v fresh (settled v (walk_to_entry (parent_of p) (last_name p) (move_to p q))) (answer_by (at t p) checked)
      into i c m reached holds there kind =
          let h : HasEntry v (parent_of p) (last_name p) i = entry_at v (parent_of p) (last_name p) i reached in
          let at_path : at t p ≡ Ok m = path (at t) ∙ there in
          let done = goes i c m h holds (path (reach (children v) 0) ∙ reached) at_path kind in
          subst (λ o. Agrees v fresh o (answer_by (at t p) checked)) (sym (walk_finds_entry v (parent_of p) (last_name p) i c (move_to p q) h holds))
          (rw at_path done)

      go : Meets v t (parent_of p ++ last_name p ∷ []) → Agrees v fresh (settled v (walk_to_entry (parent_of p) (last_name p) (move_to p q)))
          (answer_by (at t p) checked)
      go (nothing e f a) = agrees_quietly v t fresh _ _ (Error e) s (walk_fails_entry v (parent_of p) (last_name p) e (move_to p q) f)
          (let none : at t p ≡ Err e = path (at t) ∙ a in rw none refl)
      go (a_file f) = into f.inode (regular f.bytes) (file f.bytes) f.reached f.holds f.there (files f.bytes refl refl)
      go (a_directory d) = into d.inode (directory d.links) (dir d.entries) d.reached d.holds d.there (directories d.links d.entries refl refl d.names)

pub rename_agrees : (v : Values) (t : Tree) (p q : Path) (fresh : ℕ) → Spells v t → Agrees v fresh (settled v (rename_call p q)) (rename_answer t p q)
rename_agrees v t p q fresh s =
    elim (cases_Bool ((length p == 0) || (length q == 0))) [
      | inl root ↦ agrees_quietly v t fresh (settled v (rename_call p q)) (rename_answer t p q) (Error Invalid) s (rw root refl) (rw root refl)
      | inr deep ↦ elim (cases_Bool (is_proper_prefix p q)) [
        | inl ring ↦ agrees_quietly v t fresh (settled v (rename_call p q)) (rename_answer t p q) (Error Invalid) s (rw (deep, ring) refl)
            (rw (deep, ring) refl)
        | inr free ↦
            let names = or_parts (length p == 0) (length q == 0) deep in
            let below = rename_below v t p q fresh s (whole p names.0) (whole q names.1) free in
            rw (deep, free) below
      ]
    ]
