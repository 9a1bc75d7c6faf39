-- Laws of trees: what is put is found, and the last that was put stays.
use Rattle.assise_seq_tree.proofs.Common.{◌≡◌, ℕ, List, [], ◌∷◌, Option, Some, None, Ok, refl, ap, ◌∙◌, ◌⊎◌, inl, inr, cases_Bool, Tree, file, dir, Entries}
use Rattle.assise_seq_tree.proofs.Common.{no_entries, entry, same_name, find, replace, at, put, arith, Result, OnOk, OnErr, on_ok_weaker, on_err_weaker}

pub cases_option : {A : Type 0} (o : Option A) → (o ≡ None) ⊎ ((x : A) × (o ≡ Some x))
cases_option None = inl refl
cases_option (Some x) = inr (x, refl)

-- entries
pub find-replace : (name : List ℕ) (t u : Tree) (es : Entries) → find name es ≡ Some u → find name (replace name t es) ≡ Some t
find-replace name t u no_entries h = cc
find-replace name t u (entry other v es) h =
    elim (cases_Bool (same_name name other)) [
      | inl same ↦ rw (same, same)
      | inr disjoint ↦ rw (disjoint, disjoint) (find-replace name t u es (rw disjoint at h))
    ]

pub replace-replace : (name : List ℕ) (t u : Tree) (es : Entries) → replace name u (replace name t es) ≡ replace name u es
replace-replace name t u no_entries = refl
replace-replace name t u (entry other v es) = grind (arith, replace-replace name t u es)

pub replace-self : (name : List ℕ) (t : Tree) (es : Entries) → find name es ≡ Some t → replace name t es ≡ es
replace-self name t no_entries h = refl
replace-self name t (entry other v es) h =
    elim (cases_Bool (same_name name other)) [
      | inl same ↦ let is : Some v ≡ Some t = rw same at h in rw same (cc)
      | inr disjoint ↦ rw disjoint (ap (entry other v) (replace-self name t es (rw disjoint at h)))
    ]

-- one step of `put` where the entry is there
pub put_step : (es : Entries) (name : List ℕ) (p : List (List ℕ)) (x u : Tree) → find name es ≡ Some u → put (dir es) (name ∷ p) x
    ≡ dir (replace name (put u p x) es)
unfolding put
put_step es name p x u h = rw h

pub at_step : (es : Entries) (name : List ℕ) (p : List (List ℕ)) (u : Tree) → find name es ≡ Some u → at (dir es) (name ∷ p) ≡ at u p
unfolding at
at_step es name p u h = rw h

-- where something stands below a directory, its entry is there
pub through_entry : {P : Type 0} (es : Entries) (name : List ℕ) (p : List (List ℕ)) (u : Tree) → at (dir es) (name ∷ p) ≡ Ok u
    → ((t : Tree) → find name es ≡ Some t → at t p ≡ Ok u → P) → P
unfolding at
through_entry es name p u h next = grind arith

pub last_entry : (es : Entries) (name : List ℕ) (u : Tree) → at (dir es) (name ∷ []) ≡ Ok u → find name es ≡ Some u
unfolding at
last_entry es name u h = through_entry es name [] u h (λ t found there. let one : t ≡ u = cc in found ∙ ap Some one)

at_in_file : (bytes name : List ℕ) (p : List (List ℕ)) (x : Tree) {P : Type 0} → at (file bytes) (name ∷ p) ≡ Ok x → P
unfolding at
at_in_file bytes name p x e = cc

-- what stands at the path is replaced once, and again
pub put-put : (p : List (List ℕ)) (t x y u : Tree) → at t p ≡ Ok u → put (put t p x) p y ≡ put t p y
unfolding put
put-put [] t x y u h = refl
put-put (name ∷ p) (file bytes) x y u h = refl
put-put (name ∷ p) (dir es) x y u h =
    through_entry es name p u h (λ v found there.
    grind (arith, put-put p v x y u there, find-replace, replace-replace))

-- what stands at the path, put there, changes nothing
pub put-at : (p : List (List ℕ)) (t u : Tree) → at t p ≡ Ok u → put t p u ≡ t
unfolding put at
put-at [] t u h = cc
put-at (name ∷ p) (file bytes) u h = refl
put-at (name ∷ p) (dir es) u h =
    through_entry es name p u h (λ v found there.
    grind (arith, put-at p v u there, replace-self))

-- what is put is found
pub at-put : (p : List (List ℕ)) (t x u : Tree) → at t p ≡ Ok u → at (put t p x) p ≡ Ok x
unfolding put at
at-put [] t x u h = refl
at-put (name ∷ p) (file bytes) x u h = at_in_file bytes name p u h
at-put (name ∷ p) (dir es) x u h =
    through_entry es name p u h (λ v found there.
    grind (arith, at-put p v x u there, find-replace))

-- what stands at the path is swapped for another, and what was made of it is swapped back: where that was done, and where it changed nothing
module _ {E : Type 0} {u taken after t' t'' : Tree} (r : Result (Unit {0}) E) (p : List (List ℕ)) (t other made : Tree) (there : at t p ≡ Ok u)
    (out : (taken ≡ u) × (t' ≡ put t p other)) (back : (v : Tree) → at t' p ≡ Ok v → (after ≡ v) × (t'' ≡ put t' p made)) where
  swapped_back : t'' ≡ put t p made
  swapped_back = grind (arith, at-put, put-put)

  pub swapped_ok : (x : Tree) → (taken ≡ u → OnOk r (made ≡ x)) → OnOk r (t'' ≡ put t p x)
  swapped_ok x done = on_ok_weaker r (λ e. swapped_back ∙ ap (put t p) e) (done out.0)

  pub swapped_err : OnErr r (made ≡ taken) → OnErr r (t'' ≡ t)
  swapped_err same = on_err_weaker r (λ e. swapped_back ∙ ap (put t p) (e ∙ out.0) ∙ put-at p t u there) same
