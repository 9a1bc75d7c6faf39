-- What an effect did is of no account once a later one overrides it.
use Rattle.assise_inode_table.proofs.Common.{◌≡◌, ℕ, ◌+◌, ◌==◌, ◌||◌, ◌⊎◌, Bool, true, false, cond, if◌then◌else◌, List, [], ◌∷◌, length, Option, Some, None}
use Rattle.assise_inode_table.proofs.Common.{refl, ap, sym, ◌∙◌, inl, inr, cases_Bool, eq-eqb, eqb-true, or_cases, or_right, false≢true, nat_list_cmp_total}
use Rattle.assise_inode_table.proofs.Common.{exact_bytes, overwritten, resized, same_name, one_name, Effect, NewFile, NewDir, Write, SetLen, Link, Unlink, Free}
use Rattle.assise_inode_table.proofs.Common.{touched_by, covers, is_write_within, is_of_entry, overrides, overridden, coalesced, Content, Links, regular}
use Rattle.assise_inode_table.proofs.Common.{directory, effect_on, value_after, contains, touched, SameNetEffect, arith}
use Rattle.std.specs.FinMap as map
use Rattle.assise_record.specs.Patch.{Patch}
use Rattle.assise_inode_table.proofs.Bytes.{DifferIn, written_differs, write_keeps, size_keeps, write_settles}

-- ---- values that differ only by what an effect did

-- two files that differ only in these bytes
record InBytes (p : Patch) (x y : Option Content) : Type 0 where
  xs : List ℕ
  ys : List ℕ
  left : x ≡ Some (regular xs)
  right : y ≡ Some (regular ys)
  differ : DifferIn p.offset (p.offset + length p.bytes) xs ys

-- two directories that differ only in this entry
record AtName (name : List ℕ) (x y : Option Content) : Type 0 where
  ls : Links
  ms : Links
  left : x ≡ Some (directory ls)
  right : y ≡ Some (directory ms)
  others : (q : List ℕ) → same_name q name ≡ false → map.get ls q ≡ map.get ms q

-- the first may differ from the second only by what the effect did
abbrev Differ : Effect → Option Content → Option Content → Type 0
Differ (Write i p) x y = (x ≡ y) ⊎ InBytes p x y
Differ (Link d name i) x y = (x ≡ y) ⊎ AtName name x y
Differ (Unlink d name) x y = (x ≡ y) ⊎ AtName name x y
Differ (NewFile i) x y = Unit {0}
Differ (NewDir i) x y = Unit {0}
Differ (SetLen i size) x y = Unit {0}
Differ (Free i) x y = Unit {0}

begins : (e : Effect) (old : Option Content) → Differ e old (effect_on old e)
begins (NewFile i) old = tt
begins (NewDir i) old = tt
begins (SetLen i size) old = tt
begins (Free i) old = tt
begins (Write i p) None = inl refl
begins (Write i p) (Some (regular bytes)) = grind (arith, written_differs bytes p.offset p.bytes)
begins (Write i p) (Some (directory links)) = inl refl
begins (Link d name i) None = inl refl
begins (Link d name i) (Some (regular bytes)) = inl refl
begins (Link d name i) (Some (directory links)) = inr (record {
  ls = links;
  ms = map.insert links name i;
  left = refl;
  right = refl;
  others = λ q other. sym (map.get-insert nat_list_cmp_total links name i q ∙ ap (λ b. cond b (Some i) (map.get links q)) other);
})
begins (Unlink d name) None = inl refl
begins (Unlink d name) (Some (regular bytes)) = inl refl
begins (Unlink d name) (Some (directory links)) = inr (record {
  ls = links;
  ms = map.remove links name;
  left = refl;
  right = refl;
  others = λ q other. sym (map.get-remove nat_list_cmp_total links name q ∙ ap (λ b. cond b None (map.get links q)) other);
})

-- ---- each effect keeps the difference

-- an effect that makes other bytes, or other links, of those that there are
bytes_then : (p : Patch) (f : Effect) (x y : Option Content) (made : List ℕ → List ℕ)
    → ((bytes : List ℕ) → effect_on (Some (regular bytes)) f ≡ Some (regular (made bytes)))
    → (d : InBytes p x y) → DifferIn p.offset (p.offset + length p.bytes) (made d.xs) (made d.ys) → (effect_on x f ≡ effect_on y f) ⊎ InBytes p (effect_on x f)
    (effect_on y f)
bytes_then p f x y made is d differ = grind arith

links_then : (name : List ℕ) (f : Effect) (x y : Option Content) (made : Links → Links)
    → ((links : Links) → effect_on (Some (directory links)) f ≡ Some (directory (made links)))
    → (d : AtName name x y) → ((q : List ℕ) → same_name q name ≡ false → map.get (made d.ls) q ≡ map.get (made d.ms) q) →
    (effect_on x f ≡ effect_on y f) ⊎ AtName name (effect_on x f) (effect_on y f)
links_then name f x y made is d others = inr (record {
  ls = made d.ls;
  ms = made d.ms;
  left = ap (λ v. effect_on v f) d.left ∙ is d.ls;
  right = ap (λ v. effect_on v f) d.right ∙ is d.ms;
  others = others;
})

bytes_keep : (p : Patch) (f : Effect) (x y : Option Content) → InBytes p x y → (effect_on x f ≡ effect_on y f) ⊎ InBytes p (effect_on x f) (effect_on y f)
bytes_keep p (NewFile j) x y d = inl refl
bytes_keep p (NewDir j) x y d = inl refl
bytes_keep p (Free j) x y d = inl refl
bytes_keep p (Write j q) x y d =
    bytes_then p (Write j q) x y (λ bytes. overwritten bytes q.offset q.bytes) (λ bytes. refl) d
    (write_keeps p.offset (p.offset + length p.bytes) d.xs d.ys q.offset q.bytes d.differ)
bytes_keep p (SetLen j n) x y d =
    bytes_then p (SetLen j n) x y (λ bytes. resized bytes n) (λ bytes. refl) d (size_keeps p.offset (p.offset + length p.bytes) d.xs d.ys n d.differ)
bytes_keep p (Link b name j) x y d = bytes_then p (Link b name j) x y (λ bytes. bytes) (λ bytes. refl) d d.differ
bytes_keep p (Unlink b name) x y d = bytes_then p (Unlink b name) x y (λ bytes. bytes) (λ bytes. refl) d d.differ

entry_keeps : (name : List ℕ) (f : Effect) (x y : Option Content) → AtName name x y → (effect_on x f ≡ effect_on y f) ⊎ AtName name (effect_on x f)
    (effect_on y f)
entry_keeps name (NewFile j) x y d = inl refl
entry_keeps name (NewDir j) x y d = inl refl
entry_keeps name (Free j) x y d = inl refl
entry_keeps name (Write j q) x y d = links_then name (Write j q) x y (λ links. links) (λ links. refl) d d.others
entry_keeps name (SetLen j n) x y d = links_then name (SetLen j n) x y (λ links. links) (λ links. refl) d d.others
entry_keeps name (Link b other j) x y d =
    links_then name (Link b other j) x y (λ links. map.insert links other j) (λ links. refl) d (grind (arith, map.get-insert, nat_list_cmp_total))
entry_keeps name (Unlink b other) x y d =
    links_then name (Unlink b other) x y (λ links. map.remove links other) (λ links. refl) d (grind (arith, map.get-remove, nat_list_cmp_total))

either : (P : Option Content → Option Content → Type 0) (f : Effect) (x y : Option Content)
    → (P x y → (effect_on x f ≡ effect_on y f) ⊎ P (effect_on x f) (effect_on y f))
    → (x ≡ y) ⊎ P x y → (effect_on x f ≡ effect_on y f) ⊎ P (effect_on x f) (effect_on y f)
either P f x y keep (inl same) = inl (ap (λ v. effect_on v f) same)
either P f x y keep (inr d) = keep d

keeps : (e f : Effect) (x y : Option Content) → Differ e x y → Differ e (effect_on x f) (effect_on y f)
keeps (NewFile i) f x y d = tt
keeps (NewDir i) f x y d = tt
keeps (SetLen i size) f x y d = tt
keeps (Free i) f x y d = tt
keeps (Write i p) f x y d = either (InBytes p) f x y (bytes_keep p f x y) d
keeps (Link b name i) f x y d = either (AtName name) f x y (entry_keeps name f x y) d
keeps (Unlink b name) f x y d = either (AtName name) f x y (entry_keeps name f x y) d

-- ---- one that overrides leaves none

bytes_settle : (p q : Patch) (i j : ℕ) (x y : Option Content) → covers q p ≡ true → (x ≡ y) ⊎ InBytes p x y → effect_on x (Write j q) ≡ effect_on y (Write j q)
bytes_settle p q i j x y h (inl same) = ap (λ v. effect_on v (Write j q)) same
bytes_settle p q i j x y h (inr d) = grind (arith, write_settles)

-- the maps agree where their look-ups do
pub same_links : (ls ms : Links) → ((q : List ℕ) → map.get ls q ≡ map.get ms q) → ls ≡ ms
same_links ls ms same = map.same_map nat_list_cmp_total exact_bytes ls ms same

over_entry : {A : Type 0} (b : Bool) (x y z : A) → (b ≡ false → y ≡ z) → cond b x y ≡ cond b x z
over_entry true x y z h = refl
over_entry false x y z h = h refl

entry_settles : (name other : List ℕ) (f : Effect) (x y : Option Content) (made : Links → Links) (now : Option ℕ)
    → ((links : Links) → effect_on (Some (directory links)) f ≡ Some (directory (made links)))
    → ((links : Links) (q : List ℕ) → map.get (made links) q ≡ cond (same_name q other) now (map.get links q)) → same_name other name ≡ true →
    (x ≡ y) ⊎ AtName name x y → effect_on x f ≡ effect_on y f
entry_settles name other f x y made now is got h (inl same) = ap (λ v. effect_on v f) same
entry_settles name other f x y made now is got h (inr d) =
    ap (λ v. effect_on v f) d.left ∙ is d.ls
    ∙ ap (λ links. Some (directory links)) (same_links (made d.ls) (made d.ms) (grind (arith, one_name)))
    ∙ sym (ap (λ v. effect_on v f) d.right ∙ is d.ms)

link_settles : (name other : List ℕ) (b j : ℕ) (x y : Option Content) → same_name other name ≡ true → (x ≡ y) ⊎ AtName name x y
    → effect_on x (Link b other j) ≡ effect_on y (Link b other j)
link_settles name other b j x y =
    entry_settles name other (Link b other j) x y (λ links. map.insert links other j) (Some j) (λ links. refl)
    (λ links. map.get-insert nat_list_cmp_total links other j)

unlink_settles : (name other : List ℕ) (b : ℕ) (x y : Option Content) → same_name other name ≡ true → (x ≡ y) ⊎ AtName name x y
    → effect_on x (Unlink b other) ≡ effect_on y (Unlink b other)
unlink_settles name other b x y =
    entry_settles name other (Unlink b other) x y (λ links. map.remove links other) None (λ links. refl)
    (λ links. map.get-remove nat_list_cmp_total links other)

-- what a write or an entry overrides
within_cases : (i : ℕ) (q : Patch) (P : Effect → Type 0) → ((p : Patch) → covers q p ≡ true → P (Write i p)) → (e : Effect) → is_write_within i q e ≡ true → P e
within_cases i q P write (Write j p) h = grind arith
within_cases i q P write (NewFile j) h = absurd (false≢true h)
within_cases i q P write (NewDir j) h = absurd (false≢true h)
within_cases i q P write (SetLen j n) h = absurd (false≢true h)
within_cases i q P write (Link b name j) h = absurd (false≢true h)
within_cases i q P write (Unlink b name) h = absurd (false≢true h)
within_cases i q P write (Free j) h = absurd (false≢true h)

entry_cases : (d : ℕ) (name : List ℕ) (P : Effect → Type 0) → ((other : List ℕ) (i : ℕ) → same_name name other ≡ true → P (Link d other i))
    → ((other : List ℕ) → same_name name other ≡ true → P (Unlink d other)) → (e : Effect) → is_of_entry d name e ≡ true → P e
entry_cases d name P link unlink (Link b other j) h = grind arith
entry_cases d name P link unlink (Unlink b other) h = grind arith
entry_cases d name P link unlink (NewFile j) h = absurd (false≢true h)
entry_cases d name P link unlink (NewDir j) h = absurd (false≢true h)
entry_cases d name P link unlink (Write j p) h = absurd (false≢true h)
entry_cases d name P link unlink (SetLen j n) h = absurd (false≢true h)
entry_cases d name P link unlink (Free j) h = absurd (false≢true h)

settles : (f e : Effect) (x y : Option Content) → overrides f e ≡ true → Differ e x y → effect_on x f ≡ effect_on y f
settles (NewFile j) e x y h d = refl
settles (NewDir j) e x y h d = refl
settles (Free j) e x y h d = refl
settles (SetLen j n) e x y h d = absurd (false≢true h)
settles (Write j q) e x y h d = within_cases j q (λ e. Differ e x y → effect_on x (Write j q) ≡ effect_on y (Write j q)) (λ p. bytes_settle p q j j x y) e h d
settles (Link b other j) e x y h d = grind (arith, link_settles)
settles (Unlink b other) e x y h d = grind (arith, unlink_settles)

-- it touches the same inode
within_same : (i : ℕ) (q : Patch) (e : Effect) → is_write_within i q e ≡ true → touched_by e ≡ i
within_same i q = within_cases i q (λ e. touched_by e ≡ i) (λ p covered. refl)

entry_same : (d : ℕ) (name : List ℕ) (e : Effect) → is_of_entry d name e ≡ true → touched_by e ≡ d
entry_same d name = entry_cases d name (λ e. touched_by e ≡ d) (λ other i same. refl) (λ other same. refl)

pub overrides_same : (f e : Effect) → overrides f e ≡ true → touched_by e ≡ touched_by f
overrides_same (NewFile j) e h = eqb-true (touched_by e) j h
overrides_same (NewDir j) e h = eqb-true (touched_by e) j h
overrides_same (Free j) e h = eqb-true (touched_by e) j h
overrides_same (SetLen j n) e h = absurd (false≢true h)
overrides_same (Write j q) e h = within_same j q e h
overrides_same (Link b name j) e h = entry_same b name e h
overrides_same (Unlink b name) e h = entry_same b name e h

-- ---- lists of effects

-- values that differ only by what an effect did are the same after effects of which one overrides it
later : (i : ℕ) (e : Effect) (es : List Effect) (x y : Option Content) → touched_by e ≡ i → Differ e x y → overridden e es ≡ true →
    value_after i x es ≡ value_after i y es
later i e [] x y own d h = absurd (false≢true h)
later i e (f ∷ fs) x y own d h =
    elim (cases_Bool (touched_by f == i)) [
      | inl here ↦ rw here (elim (or_cases (overrides f e) (overridden e fs) h) [
        | inl now ↦ ap (λ v. value_after i v fs) (settles f e x y now d)
        | inr after ↦ later i e fs (effect_on x f) (effect_on y f) own (keeps e f x y d) after
      ])
      | inr away ↦ rw away (elim (or_cases (overrides f e) (overridden e fs) h) [
        | inl now ↦ absurd (false≢true (sym away ∙ eq-eqb (touched_by f) i (sym (overrides_same f e now) ∙ own)))
        | inr after ↦ later i e fs x y own d after
      ])
    ]

skipped : (i : ℕ) (e : Effect) (es : List Effect) (old : Option Content) → overridden e es ≡ true → value_after i old es ≡ value_after i old (e ∷ es)
skipped i e es old h = search (later, begins, arith) parts 3

pub same_net : (es : List Effect) → SameNetEffect (coalesced es) es
same_net [] i old = refl
same_net (e ∷ es) i old = grind (arith, same_net es i old, same_net es i (if touched_by e == i then effect_on old e else old), skipped)

-- the last effect on an inode stays
touched_later : (e : Effect) (es : List Effect) → overridden e es ≡ true → contains (touched es) (touched_by e) ≡ true
touched_later e [] h = absurd (false≢true h)
touched_later e (f ∷ fs) h =
    elim (or_cases (overrides f e) (overridden e fs) h) [
      | inl now ↦ ap (λ b. b || contains (touched fs) (touched_by e)) (eq-eqb (touched_by f) (touched_by e) (sym (overrides_same f e now)))
      | inr after ↦ or_right (touched_by f == touched_by e) (contains (touched fs) (touched_by e)) (touched_later e fs after)
    ]

absorbed : (a b : Bool) → (a ≡ true → b ≡ true) → b ≡ (a || b)
absorbed true b h = h refl
absorbed false b h = refl

pub same_touch : (es : List Effect) (i : ℕ) → contains (touched (coalesced es)) i ≡ contains (touched es) i
same_touch [] i = refl
same_touch (e ∷ es) i = grind (arith, same_touch es i, touched_later)
