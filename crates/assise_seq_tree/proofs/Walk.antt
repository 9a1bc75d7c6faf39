-- One step of each walk.
use Rattle.assise_seq_tree.proofs.Common.{nat_tests, ◌==◌, Bool, true, false, ◌≡◌, ℕ, ◌-◌, ◌≤◌, ◌<◌, List, [], ◌∷◌, length, take, drop, get_or, Option, Some}
use Rattle.assise_seq_tree.proofs.Common.{None, Result, Ok, Err, IsErr, OnErr, BTreeMap, Bor, MutBor, MatchResult, refl, ap, sym, ◌∙◌, arith, option_copied}
use Rattle.assise_seq_tree.proofs.Common.{get_by, is_at, TreeError, NoEnt, NotDir, take_rest, Tree, file, dir, Entries, no_entries, find, at, put, without}
use Rattle.assise_seq_tree.proofs.Common.{map_entries, option_copied_mut, set_value, remove_entry, insert_entry, slice_cmp}
use Rattle.std.proofs.lemmas.Map.Steps.{set_value_same}
use Rattle.std.specs.Ordering.{nat_cmp}
use Rattle.assise_seq_tree.proofs.Entries.{at_text, find-entries_of, insert-entries_of, replace-entries_of, remove-entries_of}
use Rattle.assise_seq_tree.proofs.Shared.Moves.{replace_absent}

pub no_items : {X : Type 0} (xs : List X) → length xs < 1 → xs ≡ []
no_items [] h = refl
no_items (x ∷ xs) h = absurd (omega arith)

-- what the pattern [x, rest @ ..] takes apart
pub first_and_rest : {X : Type 0} (xs : List X) (x : X) → 1 ≤ length xs → x ≡ get_or xs 0 x → xs ≡ x ∷ take (length xs - 1) (drop 1 xs)
first_and_rest [] x h e = absurd (omega arith)
first_and_rest (y ∷ ys) x h e = ap (λ z. z ∷ ys) (sym e) ∙ ap (λ zs. x ∷ zs) (sym (take_rest (y ∷ ys) 1))

-- what a look-up in the map says of the entries
pub found : (name : List ℕ) (m : BTreeMap (List ℕ) Tree) (r : Option (Bor Tree)) (x : Bor Tree) → r ≡ Some x → option_copied r ≡ get_by (at_text name) m →
    find name (map_entries m.entries) ≡ Some x.now
found name m r x is value = find-entries_of name m.entries ∙ sym (rw is at value)

pub missing : (name : List ℕ) (m : BTreeMap (List ℕ) Tree) (r : Option (Bor Tree)) → r ≡ None → option_copied r ≡ get_by (at_text name) m →
    find name (map_entries m.entries) ≡ None
missing name m r is value = find-entries_of name m.entries ∙ sym (rw is at value)

-- the walk
pub at_root : (t : Tree) (names : List (List ℕ)) → names ≡ [] → at t names ≡ Ok t
unfolding at
at_root t names e = rw e

pub at_file : (t : Tree) (names : List (List ℕ)) (bytes name : List ℕ) (p : List (List ℕ)) → names ≡ name ∷ p → t ≡ file bytes → at t names ≡ Err NotDir
unfolding at
at_file t names bytes name p e is = rw (e, is)

pub at_missing : (t : Tree) (names : List (List ℕ)) (es : Entries) (name : List ℕ) (p : List (List ℕ)) → names ≡ name ∷ p → t ≡ dir es → find name es ≡ None →
    at t names ≡ Err NoEnt
unfolding at
at_missing t names es name p e is h = rw (e, is, h)

pub at_found : (t : Tree) (names : List (List ℕ)) (es : Entries) (name : List ℕ) (p : List (List ℕ)) (x : Tree) → names ≡ name ∷ p → t ≡ dir es →
    find name es ≡ Some x
    → (r : Result (Bor Tree) TreeError) → MatchResult r (λ y. at x p ≡ Ok y.now) (λ e. at x p ≡ Err e) →
    MatchResult r (λ y. at t names ≡ Ok y.now) (λ e. at t names ≡ Err e)
unfolding at
at_found t names es name p x e is h (Ok y) ends = rw (e, is, h) ends
at_found t names es name p x e is h (Err y) ends = rw (e, is, h) ends

-- the write along a path
pub put_root : (t x : Tree) (names : List (List ℕ)) → names ≡ [] → x ≡ put t names x
unfolding put
put_root t x names e = rw e

pub put_file : (t x : Tree) (names : List (List ℕ)) (bytes name : List ℕ) (p : List (List ℕ)) → names ≡ name ∷ p → t ≡ file bytes → t ≡ put t names x
unfolding put
put_file t x names bytes name p e is = rw (e, is)

-- what stands at the name is changed in its place
pub put_found : (t x : Tree) (names : List (List ℕ)) (name : List ℕ) (p : List (List ℕ)) (m n : BTreeMap (List ℕ) Tree) (r : Option (MutBor Tree))
    (u : MutBor Tree) (w : Tree)
    → names ≡ name ∷ p → t ≡ dir (map_entries m.entries) → r ≡ Some u → option_copied_mut r ≡ get_by (at_text name) m
    → n.entries ≡ set_value (is_at (at_text name)) m.entries w → w ≡ put u.now p x → dir (map_entries n.entries) ≡ put t names x
unfolding put
put_found t x names name p m n r u w e is some value written ends = grind (arith, find-entries_of, replace-entries_of)

-- what is missing is made at its sorted place
pub put_missing : (t x : Tree) (names : List (List ℕ)) (name : List ℕ) (p : List (List ℕ)) (m n : BTreeMap (List ℕ) Tree) (r : Option (MutBor Tree))
    (key : List ℕ) (w : Tree)
    → names ≡ name ∷ p → t ≡ dir (map_entries m.entries) → r ≡ None → option_copied_mut r ≡ get_by (at_text name) m
    → key ≡ name → n.entries ≡ insert_entry (slice_cmp nat_cmp) m.entries key w → w ≡ put (dir no_entries) p x → dir (map_entries n.entries) ≡ put t names x
unfolding put
put_missing t x names name p m n r key w e is none value spelled written ends = grind (arith, missing, insert-entries_of)

-- a child that stays as it was leaves the tree as it was
pub kept_found : (t : Tree) (name : List ℕ) (m n : BTreeMap (List ℕ) Tree) (r : Option (MutBor Tree)) (u : MutBor Tree) (w : Tree)
    → t ≡ dir (map_entries m.entries) → r ≡ Some u → option_copied_mut r ≡ get_by (at_text name) m → n.entries ≡ set_value (is_at (at_text name)) m.entries w →
    w ≡ u.now → dir (map_entries n.entries) ≡ t
kept_found t name m n r u w is some value written same = grind (arith, set_value_same)

-- the same of a look-up that lends
found_mut : (name : List ℕ) (m : BTreeMap (List ℕ) Tree) (r : Option (MutBor Tree)) (x : MutBor Tree) → r ≡ Some x →
    option_copied_mut r ≡ get_by (at_text name) m → find name (map_entries m.entries) ≡ Some x.now
found_mut name m r x is value = find-entries_of name m.entries ∙ sym (rw is at value)

pub missing_mut : (name : List ℕ) (m : BTreeMap (List ℕ) Tree) (r : Option (MutBor Tree)) → r ≡ None → option_copied_mut r ≡ get_by (at_text name) m →
    find name (map_entries m.entries) ≡ None
missing_mut name m r is value = find-entries_of name m.entries ∙ sym (rw is at value)

at_below : (t : Tree) (names : List (List ℕ)) (es : Entries) (name : List ℕ) (p : List (List ℕ)) (x : Tree) → names ≡ name ∷ p → t ≡ dir es →
    find name es ≡ Some x → at t names ≡ at x p
unfolding at
at_below t names es name p x e is h = rw (e, is, h)

-- an entry that was looked up, and what a swap below it leaves
module _ (t : Tree) (names : List (List ℕ)) (name : List ℕ) (p : List (List ℕ)) (m : BTreeMap (List ℕ) Tree) (r : Option (MutBor Tree)) (u : MutBor Tree)
    (e : names ≡ name ∷ p) (is : t ≡ dir (map_entries m.entries)) (some : r ≡ Some u) (value : option_copied_mut r ≡ get_by (at_text name) m) where
  pub at_looked_up : at t names ≡ at u.now p
  at_looked_up = at_below t names (map_entries m.entries) name p u.now e is (found_mut name m r u some value)

  module _ (n : BTreeMap (List ℕ) Tree) (x y w : Tree) (written : n.entries ≡ set_value (is_at (at_text name)) m.entries w) where
    pub swapped_there : (v : Tree) → (at u.now p ≡ Ok v → (y ≡ v) × (w ≡ put u.now p x)) → at t names ≡ Ok v →
        (y ≡ v) × (dir (map_entries n.entries) ≡ put t names x)
    swapped_there v below h = let b = below (sym at_looked_up ∙ h) in (b.0, put_found t x names name p m n r u w e is some value written b.1)

    pub swapped_absent : (error : TreeError) → (at u.now p ≡ Err error → (y ≡ x) × (w ≡ u.now)) → at t names ≡ Err error →
        (y ≡ x) × (dir (map_entries n.entries) ≡ t)
    swapped_absent error below h = let b = below (sym at_looked_up ∙ h) in (b.0, kept_found t name m n r u w is some value written b.1)

-- nothing is claimed where nothing stands at the path
pub no_tree : {P : Type 0} (r : Result Tree TreeError) (e : TreeError) (x : Tree) → r ≡ Err e → r ≡ Ok x → P
no_tree r e x a b = cc

-- a call that may fail where nothing stands
pub fails_at_none : {T E : Type 0} (r : Result T E) (there : Result Tree TreeError) (e : TreeError) → there ≡ Err e → OnErr r (IsErr there)
fails_at_none (Ok x) there e h = tt
fails_at_none (Err y) there e h = rw h refl

pub same_tree : (r : Result Tree TreeError) (x y : Tree) → r ≡ Ok x → r ≡ Ok y → x ≡ y
same_tree r x y a b = cc

-- ---- taking out
-- what stands at one name alone
pub taken_last : (t x : Tree) (names : List (List ℕ)) (name : List ℕ) (p : List (List ℕ)) (m : BTreeMap (List ℕ) Tree) (r : Option Tree)
    → names ≡ name ∷ p → length p ≡ 0 → t ≡ dir (map_entries m.entries) → r ≡ get_by (at_text name) m → at t names ≡ Ok x → r ≡ Some x
unfolding at
taken_last t x names name [] m r e none is value h = grind (arith, find-entries_of)
taken_last t x names name (k ∷ p) m r e none is value h = absurd (omega arith)

pub without_file : (t : Tree) (names : List (List ℕ)) (bytes name : List ℕ) (p : List (List ℕ)) → names ≡ name ∷ p → t ≡ file bytes → t ≡ without t names
unfolding without
without_file t names bytes name p e is = rw (e, is)

pub without_last : (t : Tree) (names : List (List ℕ)) (name : List ℕ) (p : List (List ℕ)) (m n : BTreeMap (List ℕ) Tree)
    → names ≡ name ∷ p → length p ≡ 0 → t ≡ dir (map_entries m.entries) → n.entries ≡ remove_entry (is_at (at_text name)) m.entries →
    dir (map_entries n.entries) ≡ without t names
unfolding without
without_last t names name [] m n e none is left = rw (e, is, left) (ap dir (sym (remove-entries_of name m.entries)))
without_last t names name (k ∷ p) m n e none is left = absurd (omega arith)

-- what stands at the name is changed in its place
pub without_found : (t : Tree) (names : List (List ℕ)) (name : List ℕ) (p : List (List ℕ)) (m n : BTreeMap (List ℕ) Tree) (r : Option (MutBor Tree))
    (u : MutBor Tree) (w : Tree)
    → names ≡ name ∷ p → 0 < length p → t ≡ dir (map_entries m.entries) → r ≡ Some u → option_copied_mut r ≡ get_by (at_text name) m
    → n.entries ≡ set_value (is_at (at_text name)) m.entries w → w ≡ without u.now p → dir (map_entries n.entries) ≡ without t names
unfolding without
without_found t names name [] m n r u w e some is found value written ends = absurd (omega arith)
without_found t names name (k ∷ p) m n r u w e some is found value written ends = grind (arith, find-entries_of, replace-entries_of)

pub without_missing : (t : Tree) (names : List (List ℕ)) (name : List ℕ) (p : List (List ℕ)) (m : BTreeMap (List ℕ) Tree) (r : Option (MutBor Tree))
    → names ≡ name ∷ p → 0 < length p → t ≡ dir (map_entries m.entries) → r ≡ None → option_copied_mut r ≡ get_by (at_text name) m → t ≡ without t names
unfolding without
without_missing t names name [] m r e some is none value = absurd (omega arith)
without_missing t names name (k ∷ p) m r e some is none value = grind (arith, replace_absent, missing_mut)

-- what the test of a length says
pub is_none : (b : Bool) (n : ℕ) → b ≡ (n == 0) → b ≡ true → n ≡ 0
is_none b n e is = let h : (n == 0) ≡ true = sym e ∙ is in grind (arith, nat_tests)

pub is_more : (b : Bool) (n : ℕ) → b ≡ (n == 0) → b ≡ false → 0 < n
is_more b n e is = let h : (n == 0) ≡ false = sym e ∙ is in grind (arith, nat_tests)
