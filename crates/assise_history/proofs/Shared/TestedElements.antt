-- Where an element stands that passes a test, and histories from their ends.
use Rattle.assise_history.proofs.Common.{◌≡◌, Bool, true, false, ◌&&◌, ◌||◌, ◌⊎◌, List, [], ◌∷◌, ◌++◌, map, refl, ap, sym, subst, inl, inr, append_assoc}
use Rattle.assise_history.proofs.Common.{append-nil, list_any, list_all, or_cases, or_left, or_right, arith}

-- parts of a test
pub two : (a b : Bool) → (a && b) ≡ true → (a ≡ true) × (b ≡ true)
two true true h = (refl, refl)
two true false h = cc
two false b h = cc

pub three : (a b c : Bool) → (a && b && c) ≡ true → (a ≡ true) × (b ≡ true) × (c ≡ true)
three true true true h = (refl, refl, refl)
three true true false h = cc
three true false c h = cc
three false b c h = cc

pub four : (a b c d : Bool) → (a && b && c && d) ≡ true → (a ≡ true) × (b ≡ true) × (c ≡ true) × (d ≡ true)
four true true true true h = (refl, refl, refl, refl)
four true true true false h = cc
four true true false d h = cc
four true false c d h = cc
four false b c d h = cc

pub two_from : (a b : Bool) → a ≡ true → b ≡ true → (a && b) ≡ true
two_from a b h k = rw (h, k) refl

pub four_from : (a b c d : Bool) → a ≡ true → b ≡ true → c ≡ true → d ≡ true → (a && b && c && d) ≡ true
four_from a b c d h i j k = rw (h, i, j, k) refl

-- an element that passes
pub record Passes {X : Type 0} (p : X → Bool) (xs : List X) : Type 0 where
  pub item : X
  pub before : List X
  pub behind : List X
  pub split : xs ≡ before ++ item ∷ behind
  pub holds : p item ≡ true

pub passes_from : {X : Type 0} (p : X → Bool) (xs : List X) → list_any p xs ≡ true → Passes p xs
passes_from p [] h = cc
passes_from p (x ∷ xs) h =
    elim (or_cases (p x) (list_any p xs) h) [
      | inl here ↦ record { item = x; before = []; behind = xs; split = refl; holds = here }
      | inr there ↦ let q = passes_from p xs there in
          record { item = q.item; before = x ∷ q.before; behind = q.behind; split = ap (λ ys. x ∷ ys) q.split; holds = q.holds }
    ]

pub passes_at : {X : Type 0} (p : X → Bool) (before behind : List X) (x : X) → p x ≡ true → list_any p (before ++ x ∷ behind) ≡ true
passes_at p [] behind x h = or_left (p x) (list_any p behind) h
passes_at p (y ∷ ys) behind x h = or_right (p y) (list_any p (ys ++ x ∷ behind)) (passes_at p ys behind x h)

pub all_at : {X : Type 0} (p : X → Bool) (before behind : List X) (x : X) → list_all p (before ++ x ∷ behind) ≡ true → p x ≡ true
all_at p [] behind x h = (two (p x) _ h).0
all_at p (y ∷ ys) behind x h = all_at p ys behind x (two (p y) _ h).1

pub all_from : {X : Type 0} (p : X → Bool) (xs : List X) → ((before behind : List X) (x : X) → xs ≡ before ++ x ∷ behind → p x ≡ true) → list_all p xs ≡ true
all_from p [] each = refl
all_from p (x ∷ xs) each =
    let here : p x ≡ true = each [] xs x refl in
    rw here (all_from p xs (λ before behind y same. each (x ∷ before) behind y (ap (λ ys. x ∷ ys) same)))

pub list_any-map : {X Y : Type 0} (p : Y → Bool) (f : X → Y) (xs : List X) → list_any p (map f xs) ≡ list_any (λ x. p (f x)) xs
list_any-map p f [] = refl
list_any-map p f (x ∷ xs) = ap (λ b. p (f x) || b) (list_any-map p f xs)

-- lists from their ends
from_end : {X : Type 0} (P : List X → Type 0) → ((h : List X) (e : X) → P h → P (h ++ e ∷ [])) → (prefix h : List X) → P prefix → P (prefix ++ h)
from_end P step prefix [] p = subst P (sym (append-nil prefix)) p
from_end P step prefix (e ∷ es) p = subst P (append_assoc prefix (e ∷ []) es) (from_end P step (prefix ++ e ∷ []) es (step prefix e p))

pub by_ends : {X : Type 0} (P : List X → Type 0) → P [] → ((h : List X) (e : X) → P h → P (h ++ e ∷ [])) → (h : List X) → P h
by_ends P none step h = from_end P step [] h none

-- where an entry stands in a list and one more
pub not_nil : {X : Type 0} (prefix more : List X) (x : X) → [] ≡ prefix ++ x ∷ more → ⊥
not_nil [] more x h = cc
not_nil (y ∷ ys) more x h = cc

pub record Earlier {X : Type 0} (h : List X) (e : X) (prefix : List X) (x : X) (more : List X) : Type 0 where
  pub rest : List X
  pub split : h ≡ prefix ++ x ∷ rest
  pub more_is : more ≡ rest ++ e ∷ []

pub record Last {X : Type 0} (h : List X) (e : X) (prefix : List X) (x : X) (more : List X) : Type 0 where
  pub prefix_is : h ≡ prefix
  pub last_is : e ≡ x
  pub more_is : more ≡ []

pub cut_end : {X : Type 0} (h : List X) (e : X) (prefix : List X) (x : X) (more : List X) → h ++ e ∷ [] ≡ prefix ++ x ∷ more →
    Last h e prefix x more ⊎ Earlier h e prefix x more
cut_end [] e [] x more same = inl record { prefix_is = refl; last_is = cc; more_is = cc }
cut_end [] e (f ∷ prefix) x more same = let tail : [] ≡ prefix ++ x ∷ more = cc in absurd (not_nil prefix more x tail)
cut_end (y ∷ ys) e [] x more same = grind arith
cut_end (y ∷ ys) e (f ∷ prefix) x more same =
    let here : y ≡ f = cc in
    let tails : ys ++ e ∷ [] ≡ prefix ++ x ∷ more = cc in
    elim (cut_end ys e prefix x more tails) [
      | inl p ↦ let q = p.prefix_is in inl record { prefix_is = cc; last_is = p.last_is; more_is = p.more_is }
      | inr r ↦ let q = r.split in inr record { rest = r.rest; split = cc; more_is = r.more_is }
    ]
