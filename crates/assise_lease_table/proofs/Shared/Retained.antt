-- What `retain` leaves of a map whose entries have leases, where it changes the leases of each alike.
use Rattle.assise_lease_table.proofs.Common.{◌≡◌, ℕ, Bool, true, false, inl, inr, eq-eqb, cond, List, [], ◌∷◌, Option, None, Some, nat_eq, sym, refl, ap, subst}
use Rattle.assise_lease_table.proofs.Common.{◌∙◌, IsDistinct, AllByRecursion, list_any, lookup, keys_of, values_of, cond_both, or_cases, or_parts, Lease}
use Rattle.assise_lease_table.proofs.Common.{revoke, leases_in, is_none_or, is_any, arith}
use Rattle.std.specs.Map.Calls.{RetainsPairs}

pub revoke_any : (choice : Lease → Bool) (ls : List Lease) → is_any (revoke choice ls) ≡ is_any ls
revoke_any choice [] = refl
revoke_any choice (l ∷ ls) = refl

pub nothing_left : (ls : List Lease) → is_any ls ≡ false → ls ≡ []
nothing_left [] e = refl
nothing_left (l ∷ ls) e = cc

-- each entry is kept, and what is seen of it is changed alike
module _ {V F R : Type 0} (seen : Option V → R) (T : F → ℕ → V → Bool → V → F → Type 0) (g : R → R) (none : seen None ≡ g (seen None)) (f : F)
    (says : (k : ℕ) (v : V) (b : Bool) (w : V) (f' : F) → T f k v b w f' → (b ≡ true) × (seen (Some w) ≡ g (seen (Some v))) × (f' ≡ f)) where
  at_head : (b : Bool) (v w : V) (old new : Option V) → seen (Some w) ≡ g (seen (Some v)) → seen new ≡ g (seen old)
      → seen (cond b (Some w) new) ≡ g (seen (cond b (Some v) old))
  at_head true v w old new written rest = written
  at_head false v w old new written rest = rest

  seen_after : (es kept : List (ℕ × V)) → RetainsPairs T f es kept → (i : ℕ) → seen (lookup (nat_eq i) kept) ≡ g (seen (lookup (nat_eq i) es))
  seen_after [] kept r i = ap (λ z. seen (lookup (nat_eq i) z)) r ∙ none
  seen_after (e ∷ es) kept r i =
      let a = says e.0 e.1 r.0 r.1 r.2 r.4 in
      let more = seen_after es r.3 (subst (λ u. RetainsPairs T u es r.3) a.2 r.5) i in
      ap (λ z. seen (lookup (nat_eq i) z)) (r.6 ∙ ap (λ b. cond b ((e.0, r.1) ∷ r.3) r.3) a.0)
      ∙ at_head (nat_eq i e.0) e.1 r.1 (lookup (nat_eq i) es) (lookup (nat_eq i) r.3) a.1 more

-- each entry is kept
module _ {V F : Type 0} (leases : V → List Lease) (T : F → ℕ → V → Bool → V → F → Type 0) (g : List Lease → List Lease) (none : g [] ≡ []) (f : F)
    (says : (k : ℕ) (v : V) (b : Bool) (w : V) (f' : F) → T f k v b w f' → (b ≡ true) × (leases w ≡ g (leases v)) × (f' ≡ f)) where
  pub lists_after : (es kept : List (ℕ × V)) → RetainsPairs T f es kept → (i : ℕ)
      → leases_in leases (lookup (nat_eq i) kept) ≡ g (leases_in leases (lookup (nat_eq i) es))
  lists_after = seen_after (leases_in leases) T g (sym none) f says

-- what a call says, with what follows from the middle of it
pub middle : {A B C D : Type 0} → (B → D) → A × B × C → A × D × C
middle follows said = (said.0, follows said.1, said.2)

-- each entry is kept, and has a lease where it had one
module _ {V F : Type 0} (any : V → Bool) (T : F → ℕ → V → Bool → V → F → Type 0) (f : F)
    (says : (k : ℕ) (v : V) (b : Bool) (w : V) (f' : F) → T f k v b w f' → (b ≡ true) × (any w ≡ any v) × (f' ≡ f)) where
  pub held_after : (es kept : List (ℕ × V)) → RetainsPairs T f es kept → (i : ℕ) → is_none_or any (lookup (nat_eq i) kept)
      ≡ is_none_or any (lookup (nat_eq i) es)
  held_after = seen_after (is_none_or any) T (λ b. b) refl f says

-- no entry behind a key has it too
pub absent : {V : Type 0} (i k : ℕ) (es : List (ℕ × V)) → nat_eq i k ≡ true → AllByRecursion (λ y. nat_eq k y ≡ false) (keys_of es) →
    lookup (nat_eq i) es ≡ None
absent i k [] same all = refl
absent i k (e ∷ es) same all = grind (arith, absent i k es same all.1)

-- each entry is kept that has a lease then
module _ {V F : Type 0} (leases : V → List Lease) (any : V → Bool) (empty : (v : V) → any v ≡ false → leases v ≡ []) (T : F → ℕ → V → Bool → V → F → Type 0)
    (g : List Lease → List Lease) (none : g [] ≡ []) (f : F)
    (says : (k : ℕ) (v : V) (b : Bool) (w : V) (f' : F) → T f k v b w f' → (b ≡ any w) × (leases w ≡ g (leases v)) × (f' ≡ f)) where
  kept_head : (b m : Bool) (i k : ℕ) (v w : V) (rest : List (ℕ × V)) (old : Option V) → nat_eq i k ≡ m → b ≡ any w → leases w ≡ g (leases v)
      → leases_in leases (lookup (nat_eq i) rest) ≡ g (leases_in leases old) → (m ≡ true → old ≡ None)
      → leases_in leases (lookup (nat_eq i) (cond b ((k, w) ∷ rest) rest)) ≡ g (leases_in leases (cond m (Some v) old))
  kept_head true true i k v w rest old at at_any written more gone = ap (λ z. leases_in leases (cond z (Some w) (lookup (nat_eq i) rest))) at ∙ written
  kept_head true false i k v w rest old at at_any written more gone = ap (λ z. leases_in leases (cond z (Some w) (lookup (nat_eq i) rest))) at ∙ more
  kept_head false true i k v w rest old at at_any written more gone = grind arith
  kept_head false false i k v w rest old at at_any written more gone = more

  pub kept_after : (es kept : List (ℕ × V)) → IsDistinct nat_eq (keys_of es) → RetainsPairs T f es kept → (i : ℕ) → leases_in leases (lookup (nat_eq i) kept)
      ≡ g (leases_in leases (lookup (nat_eq i) es))
  unfolding IsDistinct
  kept_after [] kept distinct r i = ap (λ z. leases_in leases (lookup (nat_eq i) z)) r ∙ sym none
  kept_after (e ∷ es) kept distinct r i =
      let a = says e.0 e.1 r.0 r.1 r.2 r.4 in
      let more = kept_after es r.3 distinct.1 (subst (λ u. RetainsPairs T u es r.3) a.2 r.5) i in
      ap (λ z. leases_in leases (lookup (nat_eq i) z)) r.6
      ∙ kept_head r.0 (nat_eq i e.0) i e.0 e.1 r.1 r.3 (lookup (nat_eq i) es) refl a.0 a.1 more (λ same. absent i e.0 es same distinct.0)

  all_head : (b m : Bool) (w : V) (i k : ℕ) (rest : List (ℕ × V)) → nat_eq i k ≡ m → b ≡ any w → is_none_or any (lookup (nat_eq i) rest) ≡ true →
      is_none_or any (lookup (nat_eq i) (cond b ((k, w) ∷ rest) rest)) ≡ true
  all_head true true w i k rest at at_any more = ap (λ z. is_none_or any (cond z (Some w) (lookup (nat_eq i) rest))) at ∙ sym at_any
  all_head true false w i k rest at at_any more = ap (λ z. is_none_or any (cond z (Some w) (lookup (nat_eq i) rest))) at ∙ more
  all_head false m w i k rest at at_any more = more

  pub all_held : (es kept : List (ℕ × V)) → RetainsPairs T f es kept → (i : ℕ) → is_none_or any (lookup (nat_eq i) kept) ≡ true
  all_held [] kept r i = ap (λ z. is_none_or any (lookup (nat_eq i) z)) r
  all_held (e ∷ es) kept r i =
      let a = says e.0 e.1 r.0 r.1 r.2 r.4 in
      let more = all_held es r.3 (subst (λ u. RetainsPairs T u es r.3) a.2 r.5) i in
      ap (λ z. is_none_or any (lookup (nat_eq i) z)) r.6 ∙ all_head r.0 (nat_eq i e.0) r.1 i e.0 r.3 refl a.0 more

-- ---- whether some entry has a chosen lease

module _ {V : Type 0} (leases : V → List Lease) (choice : Lease → Bool) where
  abbrev pub AnyIn : List (ℕ × V) → Bool
  AnyIn es = list_any (λ v. list_any choice (leases v)) (values_of es)

  pub none_at : (es : List (ℕ × V)) → AnyIn es ≡ false → (i : ℕ) → list_any choice (leases_in leases (lookup (nat_eq i) es)) ≡ false
  none_at [] e i = refl
  none_at (x ∷ xs) e i = let parts = or_parts (list_any choice (leases x.1)) (AnyIn xs) e in
      cond_both (nat_eq i x.0) (Some x.1) (lookup (nat_eq i) xs) (λ o. list_any choice (leases_in leases o) ≡ false) (λ _. parts.0) (λ _. none_at xs parts.1 i)

  pub some_at : (es : List (ℕ × V)) → IsDistinct nat_eq (keys_of es) → AnyIn es ≡ true →
      (i : ℕ) × (list_any choice (leases_in leases (lookup (nat_eq i) es)) ≡ true)
  unfolding IsDistinct
  some_at [] distinct e = cc
  some_at (x ∷ xs) distinct e = elim (or_cases (list_any choice (leases x.1)) (AnyIn xs) e) [
    | inl here ↦ (x.0, ap (λ b. list_any choice (leases_in leases (cond b (Some x.1) (lookup (nat_eq x.0) xs)))) (eq-eqb x.0 x.0 refl) ∙ here)
    | inr rest ↦ grind (arith, some_at xs distinct.1 rest, absent)
  ]
