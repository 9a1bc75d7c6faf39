-- The places of a tree are the paths below its root, each once, by ascending names.
use Rattle.assise_seq_tree.proofs.Common.{◌≡◌, ℕ, ◌<◌, true, false, List, [], ◌∷◌, ◌++◌, length, Ok, Ordering, Less, nat_cmp, refl, ap, sym, ◌∙◌, inl, inr}
use Rattle.assise_seq_tree.proofs.Common.{subst, arith, append_assoc, cases_Bool, tied_itself, slice_cmp, AllByRecursion, Contains, IsStrictlySortedBy, on}
use Rattle.assise_seq_tree.proofs.Common.{Place, places_below, places_of, Tree, file, dir, Entries, no_entries, entry, same_name, at, IsBelow, IsOrdered}
use Rattle.assise_seq_tree.proofs.Common.{AreOrdered}
use Rattle.std.proofs.lemmas.List.Elements.{Contains-append_left, Contains-append_right, Contains-append_cases, Contains-push, Contains-push_cases}
use Rattle.std.specs.Cmp.Lexicographic.{nat_list_cmp_total}
use Rattle.assise_seq_tree.proofs.Shared.Moves.{Path}
use Rattle.assise_seq_tree.proofs.Shared.Sets.{find_below, one_name, same_itself}

-- ---- lists

none_in : {X P : Type 0} (x : X) → Contains [] x → P
none_in x h = absurd (omega (arith, h.1))

only_one : {X : Type 0} (x y : X) → Contains (x ∷ []) y → x ≡ y
only_one x y h = elim (Contains-push_cases [] x y h) [ inl none ↦ none_in y none | inr one ↦ one ]

first_in : {X : Type 0} (x : X) (xs : List X) → Contains (x ∷ xs) x
first_in x xs = Contains-append_left (x ∷ []) xs x (Contains-push [] x)

all_from : {X : Type 0} (P : X → Type 0) (xs : List X) → ((x : X) → Contains xs x → P x) → AllByRecursion P xs
all_from P [] h = tt
all_from P (x ∷ xs) h = (h x (first_in x xs), all_from P xs (λ y there. h y (Contains-append_right (x ∷ []) xs y there)))

all_append : {X : Type 0} (P : X → Type 0) (xs ys : List X) → AllByRecursion P xs → AllByRecursion P ys → AllByRecursion P (xs ++ ys)
all_append P [] ys first second = second
all_append P (x ∷ xs) ys first second = (first.0, all_append P xs ys first.1 second)

sorted_none : {X : Type 0} (c : X → X → Ordering) → IsStrictlySortedBy c []
unfolding IsStrictlySortedBy
sorted_none c = tt

sorted_cons : {X : Type 0} (c : X → X → Ordering) (x : X) (xs : List X) → AllByRecursion (λ y. c x y ≡ Less) xs → IsStrictlySortedBy c xs →
    IsStrictlySortedBy c (x ∷ xs)
unfolding IsStrictlySortedBy
sorted_cons c x xs above sorted = (above, sorted)

sorted_append : {X : Type 0} (c : X → X → Ordering) (xs ys : List X) → IsStrictlySortedBy c xs → IsStrictlySortedBy c ys →
    ((x y : X) → Contains xs x → Contains ys y → c x y ≡ Less) → IsStrictlySortedBy c (xs ++ ys)
unfolding IsStrictlySortedBy
sorted_append c [] ys first second across = second
sorted_append c (x ∷ xs) ys first second across = (
  all_append (λ y. c x y ≡ Less) xs ys first.0 (all_from (λ y. c x y ≡ Less) ys (λ y there. across x y (first_in x xs) there)),
  sorted_append c xs ys first.1 second (λ a b here there. across a b (Contains-append_right (x ∷ []) xs a here) there),
)

-- ---- paths by their names

abbrev path_cmp : Path → Path → Ordering
path_cmp = slice_cmp (slice_cmp nat_cmp)

abbrev place_cmp : Place → Place → Ordering
place_cmp = on (λ place. place.0) path_cmp

longer_is_above : (q : Path) (name : List ℕ) (p : Path) → path_cmp q (q ++ name ∷ p) ≡ Less
longer_is_above [] name p = refl
longer_is_above (n ∷ q) name p = rw (tied_itself nat_list_cmp_total n) (longer_is_above q name p)

names_decide : (q : Path) (n m : List ℕ) (p r : Path) → slice_cmp nat_cmp n m ≡ Less → path_cmp (q ++ n ∷ p) (q ++ m ∷ r) ≡ Less
names_decide [] n m p r less = rw less refl
names_decide (k ∷ q) n m p r less = rw (tied_itself nat_list_cmp_total k) (names_decide q n m p r less)

-- ---- one entry of a directory

at_first : (n : List ℕ) (t : Tree) (es : Entries) (p : Path) → at (dir (entry n t es)) (n ∷ p) ≡ at t p
unfolding at
at_first n t es p = rw (same_itself n) refl

at_later : (n m : List ℕ) (t u : Tree) (es : Entries) (p : Path) → IsBelow n es → at (dir es) (m ∷ p) ≡ Ok u → at (dir (entry n t es)) (m ∷ p) ≡ Ok u
unfolding at
at_later n m t u es p below h =
    elim (cases_Bool (same_name m n)) [
      | inl same ↦ let none = find_below m es (subst (λ k. IsBelow k es) (sym (one_name m n same)) below) in let no = rw none at h in cc
      | inr disjoint ↦ rw disjoint h
    ]

-- what a name leads to stands behind the names below which the entries are not
is_above : (n m : List ℕ) (u : Tree) (es : Entries) (p : Path) → IsBelow n es → at (dir es) (m ∷ p) ≡ Ok u → slice_cmp nat_cmp n m ≡ Less
unfolding at
is_above n m u no_entries p below h = cc
is_above n m u (entry k t es) p below h =
    elim (cases_Bool (same_name m k)) [
      | inl same ↦ subst (λ j. slice_cmp nat_cmp n j ≡ Less) (sym (one_name m k same)) below.0
      | inr disjoint ↦ is_above n m u es p below.1 (rw disjoint at h)
    ]

nothing_in_file : {P : Type 0} (bytes name : List ℕ) (p : Path) (u : Tree) → at (file bytes) (name ∷ p) ≡ Ok u → P
unfolding at
nothing_in_file bytes name p u h = cc

nothing_in_none : {P : Type 0} (name : List ℕ) (p : Path) (u : Tree) → at (dir no_entries) (name ∷ p) ≡ Ok u → P
unfolding at
nothing_in_none name p u h = cc

at_itself : (t u : Tree) → at t [] ≡ Ok u → t ≡ u
unfolding at
at_itself t u h = cc

at_root : (t : Tree) → at t [] ≡ Ok t
unfolding at
at_root t = refl

found_first : (n m : List ℕ) (t u : Tree) (es : Entries) (p : Path) → same_name m n ≡ true → at (dir (entry n t es)) (m ∷ p) ≡ Ok u → at t p ≡ Ok u
unfolding at
found_first n m t u es p same h = rw same at h

found_later : (n m : List ℕ) (t u : Tree) (es : Entries) (p : Path) → same_name m n ≡ false → at (dir (entry n t es)) (m ∷ p) ≡ Ok u →
    at (dir es) (m ∷ p) ≡ Ok u
unfolding at
found_later n m t u es p disjoint h = rw disjoint at h

-- ---- each place is a path, and what stands there

-- the place is below q, and is what the rest of its path leads to
abbrev IsUnder : Path → Tree → Place → Type 0
IsUnder q t place = (name : List ℕ) × ((p : Path) × ((place.0 ≡ q ++ name ∷ p) × (at t (name ∷ p) ≡ Ok place.1)))

mutual
  under : (q : Path) (t : Tree) (x : Place) → IsOrdered t → Contains (places_below q t) x → IsUnder q t x
  under q (file bytes) x s h = none_in x h
  under q (dir es) x s h = under_dir q es x s h

  under_dir : (q : Path) (es : Entries) (x : Place) → AreOrdered es → Contains (places_of q es) x → IsUnder q (dir es) x
  under_dir q no_entries x s h = none_in x h
  under_dir q (entry n t es) x s h =
      elim (Contains-append_cases ((q ++ n ∷ [], t) ∷ []) (places_below (q ++ n ∷ []) t ++ places_of q es) x h) [
        | inl first ↦
            let is = only_one (q ++ n ∷ [], t) x first in
            (n, ([], (sym (ap (λ y. y.0) is), at_first n t es [] ∙ at_root t ∙ ap (λ y. Ok y.1) is)))
        | inr rest ↦ elim (Contains-append_cases (places_below (q ++ n ∷ []) t) (places_of q es) x rest) [
          | inl held ↦
              let below = under (q ++ n ∷ []) t x s.1 held in
              (n, (below.0 ∷ below.1.0, (below.1.1.0 ∙ append_assoc q (n ∷ []) (below.0 ∷ below.1.0), at_first n t es (below.0 ∷ below.1.0) ∙ below.1.1.1)))
          | inr others ↦
              let later = under_dir q es x s.2 others in
              (later.0, (later.1.0, (later.1.1.0, at_later n later.0 t x.1 es later.1.0 s.0 later.1.1.1)))
        ]
      ]

-- ---- each path has its place

mutual
  placed : (q : Path) (name : List ℕ) (p : Path) (t u : Tree) → at t (name ∷ p) ≡ Ok u → Contains (places_below q t) (q ++ name ∷ p, u)
  placed q name p (file bytes) u h = nothing_in_file bytes name p u h
  placed q name p (dir es) u h = placed_dir q name p es u h

  placed_dir : (q : Path) (name : List ℕ) (p : Path) (es : Entries) (u : Tree) → at (dir es) (name ∷ p) ≡ Ok u → Contains (places_of q es) (q ++ name ∷ p, u)
  placed_dir q name p no_entries u h = nothing_in_none name p u h
  placed_dir q name p (entry n t es) u h =
      elim (cases_Bool (same_name name n)) [
        | inl same ↦
            subst (λ m. Contains (places_of q (entry n t es)) (q ++ m ∷ p, u)) (sym (one_name name n same))
            (Contains-append_left ((q ++ n ∷ [], t) ∷ places_below (q ++ n ∷ []) t) (places_of q es) (q ++ n ∷ p, u)
            (here p (λ m r more. placed (q ++ n ∷ []) m r t u more) (found_first n name t u es p same h)))
        | inr disjoint ↦ Contains-append_right ((q ++ n ∷ [], t) ∷ places_below (q ++ n ∷ []) t) (places_of q es) (q ++ name ∷ p, u)
            (placed_dir q name p es u (found_later n name t u es p disjoint h))
      ]
    where
      here : (p : Path) → ((m : List ℕ) (r : Path) → at t (m ∷ r) ≡ Ok u → Contains (places_below (q ++ n ∷ []) t) ((q ++ n ∷ []) ++ m ∷ r, u)) →
          at t p ≡ Ok u → Contains ((q ++ n ∷ [], t) ∷ places_below (q ++ n ∷ []) t) (q ++ n ∷ p, u)
      here [] more h = subst (λ v. Contains ((q ++ n ∷ [], t) ∷ places_below (q ++ n ∷ []) t) (q ++ n ∷ [], v)) (at_itself t u h)
          (first_in (q ++ n ∷ [], t) (places_below (q ++ n ∷ []) t))
      here (m ∷ r) more h =
          Contains-append_right ((q ++ n ∷ [], t) ∷ []) (places_below (q ++ n ∷ []) t) (q ++ n ∷ m ∷ r, u)
          (subst (λ path. Contains (places_below (q ++ n ∷ []) t) (path, u)) (append_assoc q (n ∷ []) (m ∷ r)) (more m r h))

-- ---- the paths ascend

mutual
  ascends : (q : Path) (t : Tree) → IsOrdered t → IsStrictlySortedBy place_cmp (places_below q t)
  ascends q (file bytes) s = sorted_none place_cmp
  ascends q (dir es) s = ascends_dir q es s

  ascends_dir : (q : Path) (es : Entries) → AreOrdered es → IsStrictlySortedBy place_cmp (places_of q es)
  ascends_dir q no_entries s = sorted_none place_cmp
  ascends_dir q (entry n t es) s =
      sorted_append place_cmp ((q ++ n ∷ [], t) ∷ places_below (q ++ n ∷ []) t) (places_of q es)
      (sorted_cons place_cmp (q ++ n ∷ [], t) (places_below (q ++ n ∷ []) t)
      (all_from (λ y. place_cmp (q ++ n ∷ [], t) y ≡ Less) (places_below (q ++ n ∷ []) t) (λ y there. below y (under (q ++ n ∷ []) t y s.1 there)))
      (ascends (q ++ n ∷ []) t s.1))
      (ascends_dir q es s.2)
      (λ x y here there. across x y (inside x here) (under_dir q es y s.2 there))
    where
      below : (y : Place) → IsUnder (q ++ n ∷ []) t y → place_cmp (q ++ n ∷ [], t) y ≡ Less
      below y u = rw u.1.1.0 (longer_is_above (q ++ n ∷ []) u.0 u.1.0)

      inside : (x : Place) → Contains ((q ++ n ∷ [], t) ∷ places_below (q ++ n ∷ []) t) x → (p : Path) × (x.0 ≡ q ++ n ∷ p)
      inside x h =
          elim (Contains-append_cases ((q ++ n ∷ [], t) ∷ []) (places_below (q ++ n ∷ []) t) x h) [
            | inl first ↦ ([], sym (ap (λ y. y.0) (only_one (q ++ n ∷ [], t) x first)))
            | inr held ↦ let u = under (q ++ n ∷ []) t x s.1 held in (u.0 ∷ u.1.0, u.1.1.0 ∙ append_assoc q (n ∷ []) (u.0 ∷ u.1.0))
          ]

      across : (x y : Place) → (p : Path) × (x.0 ≡ q ++ n ∷ p) → IsUnder q (dir es) y → place_cmp x y ≡ Less
      across x y p u = rw (p.1, u.1.1.0) (names_decide q n u.0 p.0 u.1.0 (is_above n u.0 y.1 es u.1.0 s.0 u.1.1.1))

-- ---- the laws

pub place_stands : (t u : Tree) (p : Path) → IsOrdered t → Contains (places_below [] t) (p, u) → (at t p ≡ Ok u) × (0 < length p)
place_stands t u p s h =
    let x = under [] t (p, u) s h in
    (ap (at t) x.1.1.0 ∙ x.1.1.1, omega (arith, ap length x.1.1.0))

pub path_is_placed : (t u : Tree) (p : Path) → at t p ≡ Ok u → 0 < length p → Contains (places_below [] t) (p, u)
path_is_placed t u [] h some = absurd (omega (arith, some))
path_is_placed t u (name ∷ p) h some = placed [] name p t u h

pub places_ascend : (t : Tree) → IsOrdered t → IsStrictlySortedBy place_cmp (places_below [] t)
places_ascend t s = ascends [] t s
