-- The chosen leases that aren't revoked, of one inode and of all.
use Rattle.assise_lease_table.proofs.Common.{◌≡◌, ℕ, ◌==◌, Bool, true, false, cond, not, ◌&&◌, ◌||◌, List, [], ◌∷◌, ◌++◌, Option, Some, None, nat_eq, sym, refl}
use Rattle.assise_lease_table.proofs.Common.{ap, ◌∙◌, eq-eqb, append-nil, IsDistinct, list_any, list_all, lookup, keys_of, and_parts, and_from, cond_both}
use Rattle.assise_lease_table.proofs.Common.{not-true, not_from_false, eqb-true, eqb-false, is_of, is_asked, are_once, are_uncut, asked_at, stand_together}
use Rattle.assise_lease_table.proofs.Common.{compatible, is_own, is_to_ask, leases_in, Asked, Lease, arith}
use Rattle.std.proofs.lemmas.List.Folds.{list_all-append, list_any-append}
use Rattle.std.proofs.lemmas.Bool.{ne_eqb}
use Rattle.assise_lease_table.proofs.Shared.Retained.{absent}

turned : (a b : ℕ) (m : Bool) → nat_eq a b ≡ m → (b == a) ≡ m
turned a b true e = eq-eqb b a (sym (eqb-true a b e))
turned a b false e = ne_eqb b a (λ same. eqb-false a b e (sym same))

-- a holder's own lease stands with no other of it
pub others : (l k : Lease) → stand_together l k ≡ true → is_own l.holder k ≡ false
others l k e = turned l.holder k.holder false (not-true (l.holder == k.holder) (and_parts (not (l.holder == k.holder)) _ e).0)

pub not_wanted : (b t rest : Bool) → b ≡ false → rest ≡ false → ((b && t) || rest) ≡ false
not_wanted true t rest e f = cc
not_wanted false t rest e f = f

module _ {V : Type 0} (leases : V → List Lease) (choice : Lease → Bool) where
  -- it is the client's, chosen and not revoked
  abbrev pub wanted : ℕ → Lease → Bool
  wanted c l = is_own c l && is_to_ask choice l

  abbrev pub answer_at : ℕ → Lease → Asked
  answer_at i l = record { client = l.holder; inode = i; cut = 0 }

  -- all of them, inode by inode
  abbrev pub unasked_in : List (ℕ × V) → List Asked
  unasked_in [] = []
  unasked_in (e ∷ es) = asked_at choice e.0 (leases e.1) ++ unasked_in es

  -- ---- which they are

  same_step : (t o : Bool) (a : Asked) (more_of : List Asked) (c i : ℕ) (rest : Bool) → is_of c i a ≡ o → is_asked more_of c i ≡ rest →
      is_asked (cond t (a ∷ more_of) more_of) c i ≡ ((o && t) || rest)
  same_step true true a more_of c i rest e f = λ k. e k || f k
  same_step true false a more_of c i rest e f = λ k. e k || f k
  same_step false true a more_of c i rest e f = f
  same_step false false a more_of c i rest e f = f

  and_same : (a b : Bool) → b ≡ true → (a && b) ≡ a
  and_same true b e = e
  and_same false b e = refl

  or_none : (a b : Bool) → b ≡ false → (a || b) ≡ a
  or_none true b e = refl
  or_none false b e = e

  asked_here : (j i c : ℕ) → (j == i) ≡ true → (ls : List Lease) → is_asked (asked_at choice j ls) c i ≡ list_any (wanted c) ls
  asked_here j i c same [] = refl
  asked_here j i c same (l ∷ ls) = grind (arith, asked_here j i c same ls)

  asked_elsewhere : (j i c : ℕ) → (j == i) ≡ false → (ls : List Lease) → is_asked (asked_at choice j ls) c i ≡ false
  asked_elsewhere j i c other [] = refl
  asked_elsewhere j i c other (l ∷ ls) = grind (arith, asked_elsewhere j i c other ls)

  which_step : (m : Bool) (i c : ℕ) (j : ℕ) (v : V) (rest : Option V) (more_of : List Asked) → nat_eq i j ≡ m → (m ≡ true → rest ≡ None) →
      is_asked more_of c i ≡ list_any (wanted c) (leases_in leases rest)
      → is_asked (asked_at choice j (leases v) ++ more_of) c i ≡ list_any (wanted c) (leases_in leases (cond m (Some v) rest))
  which_step true i c j v rest more_of at gone more = grind (arith, list_any-append, asked_here)
  which_step false i c j v rest more_of at gone more = grind (arith, list_any-append, asked_elsewhere)

  pub which_in : (es : List (ℕ × V)) → IsDistinct nat_eq (keys_of es) → (c i : ℕ) → is_asked (unasked_in es) c i
      ≡ list_any (wanted c) (leases_in leases (lookup (nat_eq i) es))
  unfolding IsDistinct
  which_in [] distinct c i = refl
  which_in (e ∷ es) distinct c i = grind (arith, which_in es distinct.1 c i, which_step, absent)

  -- ---- each is listed once

  none_of : (l : Lease) (ls : List Lease) → list_all (stand_together l) ls ≡ true → list_any (wanted l.holder) ls ≡ false
  none_of l [] e = refl
  none_of l (k ∷ ks) e = let parts = and_parts (stand_together l k) (list_all (stand_together l) ks) e in
      not_wanted (is_own l.holder k) (is_to_ask choice k) (list_any (wanted l.holder) ks) (others l k parts.0) (none_of l ks parts.1)

  once_at : (j : ℕ) (ls : List Lease) → compatible ls ≡ true → are_once (asked_at choice j ls) ≡ true
  once_at j [] fits = refl
  once_at j (l ∷ ls) fits =
      let parts = and_parts (list_all (stand_together l) ls) (compatible ls) fits in
      let behind = asked_at choice j ls in
      let new = not_from_false (is_asked behind l.holder j) (asked_here j j l.holder (eq-eqb j j refl) ls ∙ none_of l ls parts.0) in
      cond_both (is_to_ask choice l) (answer_at j l ∷ behind) behind (λ xs. are_once xs ≡ true)
      (λ _. and_from (not (is_asked behind l.holder j)) (are_once behind) new (once_at j ls parts.1)) (λ _. once_at j ls parts.1)

  both_step : (t : Bool) (a : Asked) (more_of bs : List Asked) → is_asked bs a.client a.inode ≡ false →
      (are_once more_of ≡ true → are_once (more_of ++ bs) ≡ true) → are_once (cond t (a ∷ more_of) more_of) ≡ true →
      are_once (cond t (a ∷ more_of) more_of ++ bs) ≡ true
  both_step true a more_of bs new more once = grind (arith, list_any-append)
  both_step false a more_of bs new more once = more once

  -- where the others are of other inodes
  once_both : (j : ℕ) (bs : List Asked) → ((c : ℕ) → is_asked bs c j ≡ false) → are_once bs ≡ true → (ls : List Lease) → are_once (asked_at choice j ls)
      ≡ true → are_once (asked_at choice j ls ++ bs) ≡ true
  once_both j bs new rest [] once = rest
  once_both j bs new rest (l ∷ ls) once = grind (arith, once_both j bs new rest ls, both_step)

  abbrev pub FitEach : List (ℕ × V) → Type 0
  FitEach es = (i : ℕ) → compatible (leases_in leases (lookup (nat_eq i) es)) ≡ true

  fits_rest : (m : Bool) (v : V) (rest : Option V) → (m ≡ true → rest ≡ None) → compatible (leases_in leases (cond m (Some v) rest)) ≡ true →
      compatible (leases_in leases rest) ≡ true
  fits_rest true v rest gone fits = ap (λ o. compatible (leases_in leases o)) (gone refl)
  fits_rest false v rest gone fits = fits

  pub once_in : (es : List (ℕ × V)) → IsDistinct nat_eq (keys_of es) → FitEach es → are_once (unasked_in es) ≡ true
  unfolding IsDistinct
  once_in [] distinct fits = refl
  once_in (e ∷ es) distinct fits =
      once_both e.0 (unasked_in es)
      (λ c. which_in es distinct.1 c e.0 ∙ ap (λ o. list_any (wanted c) (leases_in leases o)) (absent e.0 e.0 es (eq-eqb e.0 e.0 refl) distinct.0))
      (once_in es distinct.1 (λ i. fits_rest (nat_eq i e.0) e.1 (lookup (nat_eq i) es) (λ same. absent i e.0 es same distinct.0) (fits i)))
      (leases e.1) (grind (arith, once_at, eq-eqb e.0 e.0 refl))

  -- ---- nobody answered

  uncut_at : (j : ℕ) (ls : List Lease) → are_uncut (asked_at choice j ls) ≡ true
  uncut_at j [] = refl
  uncut_at j (l ∷ ls) = grind (arith, uncut_at j ls)

  pub uncut_in : (es : List (ℕ × V)) → are_uncut (unasked_in es) ≡ true
  uncut_in [] = refl
  uncut_in (e ∷ es) = grind (arith, uncut_in es, list_all-append, uncut_at)

  -- ---- the end of a loop over all

  pub all_listed : (asked : List Asked) (es left : List (ℕ × V)) → left ≡ [] → asked ++ unasked_in left ≡ unasked_in es → asked ≡ unasked_in es
  all_listed asked es left done so_far = sym (append-nil asked) ∙ ap (λ xs. asked ++ unasked_in xs) (sym done) ∙ so_far
