-- The calls that make an inode agree with the tree: create and mkdir.
use Rattle.assise_inode_table.proofs.Common.{◌≡◌, ◌≢◌, ℕ, ◌<◌, arith, true, ◌==◌, List, [], ◌∷◌, ◌++◌, length, Option, Some, None, Result, Ok, Err, refl, ap}
use Rattle.assise_inode_table.proofs.Common.{sym, subst, ◌∙◌, inl, inr, cases_Bool, eq-eqb, ne_eqb, eqb-false, Reply, Done, Error, TreeError, Exists, NotDir}
use Rattle.assise_inode_table.proofs.Common.{touched_by, Effect, NewFile, NewDir, Link, Tree, file, dir, Entries, no_entries, at, put, names_of, ◌>>=◌}
use Rattle.assise_inode_table.proofs.Common.{parent_of, last_name, as_directory, room_for, room_at, reply_and_tree, create_answer, mkdir_answer, Path}
use Rattle.assise_inode_table.proofs.Common.{parent_and_last, Content, regular, directory, Links, Values, effect_on, after, makes, Interaction, finish}
use Rattle.assise_inode_table.proofs.Common.{then_or_error, as_links, room_among, walk, make_call, create_call, mkdir_call, children, Spells, SpellsFrom}
use Rattle.std.specs.FinMap as map
use Rattle.assise_inode_table.proofs.CallsAgree.{Agrees, agrees, agrees_quietly}
use Rattle.assise_inode_table.proofs.NewInodeLinked.{created as made}
use Rattle.assise_inode_table.proofs.Leaves.{LeadsNowhere, file_nowhere, file_spells, empty_nowhere, empty_spells}
use Rattle.assise_inode_table.proofs.WalkMeets.{settled, walk_fails, walk_to_file, walk_to_directory, Meets, nothing, a_file, a_directory, FindsDirectory}
use Rattle.assise_inode_table.proofs.WalkMeets.{meets, same_count}
use Rattle.assise_inode_table.proofs.Shared.DirectoryNames.{is_some-find}

-- ---- the checks

room_same : (name : List ℕ) (links : Links) (es : Entries) → names_of es ≡ map.keys links → room_among name links ≡ room_for name es
room_same name links es names = grind (arith, map.contains_key-keys, is_some-find, same_count)

absent_from : (name : List ℕ) (links : Links) → room_among name links ≡ Ok tt → map.get links name ≡ None
absent_from name links h = grind arith

-- ---- what is made

-- an effect that makes an inode, which leads nowhere and spells a tree
record Making (new : Effect) (fresh : ℕ) (child : Tree) : Type 0 where
  content : Content
  is_made : makes fresh new ≡ true
  touches : touched_by new ≡ fresh
  gives : (old : Option Content) → effect_on old new ≡ Some content
  spells : (u : Values) → u fresh ≡ Some content → SpellsFrom u fresh child
  nowhere : (u : Values) → u fresh ≡ Some content → LeadsNowhere (children u) fresh

new_file : (fresh : ℕ) → Making (NewFile fresh) fresh (file [])
new_file fresh = record {
  content = regular [];
  is_made = eq-eqb fresh fresh refl;
  touches = refl;
  gives = λ old. refl;
  spells = λ u here. file_spells u fresh [] here;
  nowhere = λ u here. file_nowhere u fresh [] here;
}

new_directory : (fresh : ℕ) → Making (NewDir fresh) fresh (dir no_entries)
new_directory fresh = record {
  content = directory map.empty;
  is_made = eq-eqb fresh fresh refl;
  touches = refl;
  gives = λ old. refl;
  spells = λ u here. empty_spells u fresh here;
  nowhere = λ u here. empty_nowhere u fresh here;
}

-- ---- the call

module _ (v : Values) (t : Tree) (p : Path) (fresh : ℕ) (new : Effect) (child : Tree) (m : Making new fresh child) (s : Spells v t) where
  -- the new inode in its directory
  stands : (d : FindsDirectory v t (parent_of p)) → map.get d.links (last_name p) ≡ None → v fresh ≡ None →
      Spells (after v (new ∷ Link d.inode (last_name p) fresh ∷ [])) (put t (parent_of p ++ last_name p ∷ []) child)
  stands d absent none =
      let differs : d.inode ≢ fresh = λ e. (let a = sym d.holds ∙ ap v e ∙ none in cc) in
      let u : Values = after v (new ∷ []) in
      let kept : u d.inode ≡ Some (directory d.links) = rw (m.touches, ne_eqb fresh d.inode (λ e. differs (sym e))) d.holds in
      let here : u fresh ≡ Some m.content = rw (m.touches, eq-eqb fresh fresh refl) (m.gives (v fresh)) in
      made v u (after v (new ∷ Link d.inode (last_name p) fresh ∷ [])) d.inode fresh t child (parent_of p) (last_name p) d.links s none
      (λ j other. rw (m.touches, ne_eqb fresh j (λ e. other (sym e))) refl) (m.spells u here) (m.nowhere u here) d.reached
      (record {
        before = kept;
        absent = absent;
        after = rw (eq-eqb d.inode d.inode refl, m.touches, ne_eqb fresh d.inode (λ e. differs (sym e)), d.holds) refl;
        others = λ j other. rw (ne_eqb d.inode j (λ e. other (sym e))) refl;
      })

  -- below the root
  link_new : ℕ → Content → Interaction
  link_new d content = then_or_error (as_links content)
      (λ links. then_or_error (room_among (last_name p) links) (λ _. finish Done (new ∷ Link d (last_name p) fresh ∷ [])))

  walk_parent : Interaction
  walk_parent = walk (parent_of p) link_new

  below_root : Result (Unit {0}) TreeError
  below_root = at t (parent_of p) >>= λ u. as_directory u >>= λ es. room_for (last_name p) es

  answer_below : Reply × Tree
  answer_below = reply_and_tree t (below_root >>= λ _. Ok (Done, put t p child))

  in_directory : 0 < length p → (d : FindsDirectory v t (parent_of p)) → Agrees v fresh (settled v walk_parent) answer_below
  unfolding link_new walk_parent below_root answer_below
  in_directory long d = go (room_among (last_name p) d.links) refl (sym (room_same (last_name p) d.links d.entries d.names))
      (walk_to_directory v t (parent_of p) link_new d)
    where
      go : (r : Result (Unit {0}) TreeError) → room_among (last_name p) d.links ≡ r → room_for (last_name p) d.entries ≡ r →
          settled v walk_parent ≡ settled v (link_new d.inode (directory d.links)) → Agrees v fresh (settled v walk_parent) answer_below
      go (Err e) is room ends = agrees_quietly v t fresh _ _ (Error e) s (ends ∙ rw is refl) (rw (d.there, room) refl)
      go (Ok x) is room ends =
          agrees v fresh _ _ Done (new ∷ Link d.inode (last_name p) fresh ∷ []) (put t p child) (ends ∙ rw is refl) (rw (d.there, room) refl)
          (λ n. subst (λ q. Spells (after v (new ∷ Link d.inode (last_name p) fresh ∷ [])) (put t q child)) (sym (parent_and_last p long))
          (stands d (absent_from (last_name p) d.links is) (n (rw m.is_made refl))))

  make_below : 0 < length p → Agrees v fresh (settled v walk_parent) answer_below
  unfolding link_new walk_parent below_root answer_below
  make_below long = go (meets v t (parent_of p) s)
    where
      go : Meets v t (parent_of p) → Agrees v fresh (settled v walk_parent) answer_below
      go (nothing e f a) = agrees_quietly v t fresh _ _ (Error e) s (walk_fails v (parent_of p) _ e f) (rw a refl)
      go (a_file f) = agrees_quietly v t fresh _ _ (Error NotDir) s (walk_to_file v t (parent_of p) _ f) (rw f.there refl)
      go (a_directory d) = in_directory long d

  make_agrees : Agrees v fresh (settled v (make_call new p fresh)) (reply_and_tree t (room_at t p >>= λ _. Ok (Done, put t p child)))
  unfolding link_new walk_parent below_root answer_below
  make_agrees =
      elim (cases_Bool (length p == 0)) [
        | inl root ↦ agrees_quietly v t fresh (settled v (make_call new p fresh)) (reply_and_tree t (room_at t p >>= λ _. Ok (Done, put t p child)))
            (Error Exists) s (rw root refl) (rw root refl)
        | inr deep ↦ (let below = make_below (let no = eqb-false (length p) 0 deep in omega (arith, no)) in rw deep below)
      ]

pub create_agrees : (v : Values) (t : Tree) (p : Path) (fresh : ℕ) → Spells v t → Agrees v fresh (settled v (create_call p fresh)) (create_answer t p)
create_agrees v t p fresh s = make_agrees v t p fresh (NewFile fresh) (file []) (new_file fresh) s

pub mkdir_agrees : (v : Values) (t : Tree) (p : Path) (fresh : ℕ) → Spells v t → Agrees v fresh (settled v (mkdir_call p fresh)) (mkdir_answer t p)
mkdir_agrees v t p fresh s = make_agrees v t p fresh (NewDir fresh) (dir no_entries) (new_directory fresh) s
