-- What is true of the elements of a list that is filtered, mapped or tested.
use Rattle.assise_lease_table.proofs.Common.{◌≡◌, Bool, true, false, cond, List, [], ◌∷◌, ◌++◌, ◌⊎◌, inl, inr, filter, map, sym, refl, ap, ◌∙◌, true≢false}
use Rattle.assise_lease_table.proofs.Common.{list_any, list_all, and_parts, and_from, or_left, or_right, or_cases, Among, arith}
pub use Rattle.std.proofs.lemmas.Bool.{and_parts as both_true, not-true as not_true}

pub not_both : {P : Type 0} (b : Bool) → b ≡ true → b ≡ false → P
not_both b t f = absurd (true≢false (sym t ∙ f))

module _ {X : Type 0} where
  pub all_among : (p : X → Bool) (xs : List X) → list_all p xs ≡ true → (x : X) → Among xs x → p x ≡ true
  all_among p [] e x a = absurd a
  all_among p (y ∷ ys) e x a = let both = and_parts (p y) (list_all p ys) e in
      elim a [ inl same ↦ ap p same ∙ both.0 | inr rest ↦ all_among p ys both.1 x rest ]

  pub among_all : (p : X → Bool) (xs : List X) → ((x : X) → Among xs x → p x ≡ true) → list_all p xs ≡ true
  among_all p [] h = refl
  among_all p (y ∷ ys) h = and_from (p y) (list_all p ys) (h y (inl refl)) (among_all p ys (λ x a. h x (inr a)))

  pub any_among : (p : X → Bool) (xs : List X) → list_any p xs ≡ true → (x : X) × Among xs x × (p x ≡ true)
  any_among p [] e = cc
  any_among p (y ∷ ys) e =
      elim (or_cases (p y) (list_any p ys) e) [
        | inl here ↦ (y, inl refl, here)
        | inr rest ↦ let found = any_among p ys rest in (found.0, inr found.1, found.2)
      ]

  pub among_any : (p : X → Bool) (xs : List X) (x : X) → Among xs x → p x ≡ true → list_any p xs ≡ true
  among_any p [] x a e = absurd a
  among_any p (y ∷ ys) x a e =
      elim a [
        | inl same ↦ or_left (p y) (list_any p ys) (sym (ap p same) ∙ e)
        | inr rest ↦ or_right (p y) (list_any p ys) (among_any p ys x rest e)
      ]

  pub none_among : (p : X → Bool) (xs : List X) → list_any p xs ≡ false → (x : X) → Among xs x → p x ≡ false
  none_among p xs e x a = grind (arith, among_any)

  kept : (b : Bool) (y x : X) (ys : List X) → Among ys x → Among (cond b (y ∷ ys) ys) x
  kept true y x ys a = inr a
  kept false y x ys a = a

  kept_here : (b : Bool) (y x : X) (ys : List X) → x ≡ y → b ≡ true → Among (cond b (y ∷ ys) ys) x
  kept_here true y x ys same e = inl same
  kept_here false y x ys same e = cc

  was_kept : (b : Bool) (y x : X) (ys : List X) → Among (cond b (y ∷ ys) ys) x → ((x ≡ y) × (b ≡ true)) ⊎ Among ys x
  was_kept true y x ys (inl same) = inl (same, refl)
  was_kept true y x ys (inr a) = inr a
  was_kept false y x ys a = inr a

  pub filter_among : (p : X → Bool) (xs : List X) (x : X) → Among xs x → p x ≡ true → Among (filter p xs) x
  filter_among p [] x a e = absurd a
  filter_among p (y ∷ ys) x a e =
      elim a [
        | inl same ↦ kept_here (p y) y x (filter p ys) same (sym (ap p same) ∙ e)
        | inr rest ↦ kept (p y) y x (filter p ys) (filter_among p ys x rest e)
      ]

  pub among_filter : (p : X → Bool) (xs : List X) (x : X) → Among (filter p xs) x → Among xs x × (p x ≡ true)
  among_filter p [] x a = absurd a
  among_filter p (y ∷ ys) x a =
      elim (was_kept (p y) y x (filter p ys) a) [
        | inl here ↦ (inl here.0, ap p here.0 ∙ here.1)
        | inr rest ↦ let found = among_filter p ys x rest in (inr found.0, found.1)
      ]

  pub map_among : (f : X → X) (xs : List X) (x : X) → Among xs x → Among (map f xs) (f x)
  map_among f [] x a = absurd a
  map_among f (y ∷ ys) x a = elim a [ inl same ↦ inl (ap f same) | inr rest ↦ inr (map_among f ys x rest) ]

  pub among_map : (f : X → X) (xs : List X) (x : X) → Among (map f xs) x → (y : X) × Among xs y × (x ≡ f y)
  among_map f [] x a = absurd a
  among_map f (y ∷ ys) x a =
      elim a [ inl same ↦ (y, inl refl, same) | inr rest ↦ let found = among_map f ys x rest in (found.0, inr found.1, found.2) ]

  pub among_prefix : (xs : List X) (y x : X) → Among xs x → Among (xs ++ y ∷ []) x
  among_prefix [] y x a = absurd a
  among_prefix (z ∷ zs) y x a = elim a [ inl same ↦ inl same | inr rest ↦ inr (among_prefix zs y x rest) ]

  pub among_last : (xs : List X) (y : X) → Among (xs ++ y ∷ []) y
  among_last [] y = inl refl
  among_last (z ∷ zs) y = inr (among_last zs y)

  pub among_push : (xs : List X) (y x : X) → Among (xs ++ y ∷ []) x → Among xs x ⊎ (x ≡ y)
  among_push [] y x (inl same) = inr same
  among_push [] y x (inr a) = absurd a
  among_push (z ∷ zs) y x (inl same) = inl (inl same)
  among_push (z ∷ zs) y x (inr rest) = elim (among_push zs y x rest) [ inl before ↦ inl (inr before) | inr last ↦ inr last ]
