-- What a pass that adds only what it may leaves to the others.
use Rattle.assise_keeper.proofs.Common.{◌≡◌, ℕ, ◌+◌, ◌<◌, ◌⊎◌, List, [], ◌∷◌, ◌++◌, length, drop, sym, refl, ap, ◌∙◌, inl, inr, ⊎_elim, Option, Some, arith}
use Rattle.assise_keeper.proofs.Common.{append_assoc, append-nil, length-append, EntryValue, opens, calls, crashes, fails, returns, is_opening_of, Opens, Never}
use Rattle.assise_keeper.proofs.Common.{openings, openings_of, calls_by, Extends, client_after, MayAddAll, ExtendsByOne}
use Rattle.std.specs.Prelude.{filter}
use Rattle.std.proofs.lemmas.List.Elements.{filter-append}
use Rattle.assise_history.specs.Legal.{is_call_of, is_opening}
use Rattle.assise_history.specs.declared.call.Call.{Call}

module _ (o : Opens) where
  pub client_stays : (d : ℕ) (xs : List EntryValue) → MayAddAll (Some d) o xs → client_after (Some d) xs ≡ Some d
  client_stays d [] own = refl
  client_stays d (opens e n u ∷ xs) own = absurd (let none = own.0.0 in (cc))
  client_stays d (calls x ∷ xs) own = client_stays d xs own.1
  client_stays d (crashes e ∷ xs) own = client_stays d xs own.1
  client_stays d (fails e ls ∷ xs) own = client_stays d xs own.1
  client_stays d (returns e ∷ xs) own = client_stays d xs own.1

  -- who isn't the client afterwards has no call among what was added
  pub no_calls : (d : ℕ) (c : Option ℕ) (xs : List EntryValue) → MayAddAll c o xs → ¬ (client_after c xs ≡ Some d) → calls_by d xs ≡ []
  no_calls d c [] own other = refl
  no_calls d c (opens e n u ∷ xs) own other = no_calls d (Some e) xs own.1 other
  no_calls d c (calls x ∷ xs) own other = grind (arith, no_calls d c xs own.1 other, client_stays)
  no_calls d c (crashes e ∷ xs) own other = no_calls d c xs own.1 other
  no_calls d c (fails e ls ∷ xs) own other = no_calls d c xs own.1 other
  no_calls d c (returns e ∷ xs) own other = no_calls d c xs own.1 other

  -- the client afterwards is the client before, or was opened
  pub was_or_opened : (d : ℕ) (c : Option ℕ) (xs : List EntryValue) → MayAddAll c o xs → client_after c xs ≡ Some d → (c ≡ Some d) ⊎ (0 < openings d xs)
  was_or_opened d c [] own is = inl is
  was_or_opened d c (opens e n u ∷ xs) own is = grind (arith, client_stays)
  was_or_opened d c (calls x ∷ xs) own is = ⊎_elim (λ a. inl a) (λ b. inr (omega arith)) (was_or_opened d c xs own.1 is)
  was_or_opened d c (crashes e ∷ xs) own is = ⊎_elim (λ a. inl a) (λ b. inr (omega arith)) (was_or_opened d c xs own.1 is)
  was_or_opened d c (fails e ls ∷ xs) own is = ⊎_elim (λ a. inl a) (λ b. inr (omega arith)) (was_or_opened d c xs own.1 is)
  was_or_opened d c (returns e ∷ xs) own is = ⊎_elim (λ a. inl a) (λ b. inr (omega arith)) (was_or_opened d c xs own.1 is)

-- who may open none adds no opening
pub no_openings : (c : Option ℕ) (xs : List EntryValue) → MayAddAll c Never xs → openings_of xs ≡ []
no_openings c [] own = refl
no_openings c (opens e n u ∷ xs) own = absurd own.0.1
no_openings c (calls x ∷ xs) own = no_openings c xs own.1
no_openings c (crashes e ∷ xs) own = no_openings c xs own.1
no_openings c (fails e ls ∷ xs) own = no_openings c xs own.1
no_openings c (returns e ∷ xs) own = no_openings c xs own.1

pub all-openings-append : (h xs : List EntryValue) → openings_of (h ++ xs) ≡ openings_of h ++ openings_of xs
all-openings-append h xs = filter-append is_opening h xs

pub calls-append : (d : ℕ) (h xs : List EntryValue) → calls_by d (h ++ xs) ≡ calls_by d h ++ calls_by d xs
calls-append d h xs = filter-append (is_call_of d) h xs

pub openings-append : (d : ℕ) (h xs : List EntryValue) → openings d (h ++ xs) ≡ openings d h + openings d xs
openings-append d h xs = ap length (filter-append (is_opening_of d) h xs) ∙ length-append (filter (is_opening_of d) h) (filter (is_opening_of d) xs)

-- what was opened in a prefix was opened
pub opened-in : (d : ℕ) (h prefix : List EntryValue) → Extends h prefix → 0 < openings d prefix → 0 < openings d h
opened-in d h prefix s some_opening = grind (arith, openings-append d prefix s.0)

pub extends-further : (h prefix xs : List EntryValue) → Extends h prefix → Extends (h ++ xs) prefix
extends-further h prefix xs s = (s.0 ++ xs, ap (λ z. z ++ xs) s.1 ∙ append_assoc prefix s.0 xs)

pub extends-same : (h : List EntryValue) → Extends h h
extends-same h = ([], sym (append-nil h))

pub drop-prefix : (h xs : List EntryValue) → drop (length h) (h ++ xs) ≡ xs
drop-prefix [] xs = refl
drop-prefix (e ∷ h) xs = drop-prefix h xs

nothing_more : (xs ys : List EntryValue) → xs ++ ys ≡ xs → ys ≡ []
nothing_more [] ys e = e
nothing_more (x ∷ xs) ys e = nothing_more xs ys (cc)

-- a call that is added to what was taken extends by one what was seen
pub extends_by_one : (c : ℕ) (x : Call) (old taken : List EntryValue) → x.client ≡ c → Extends taken old → calls_by c taken ≡ calls_by c old →
    ExtendsByOne c old (taken ++ calls x ∷ []) (calls x)
extends_by_one c x old taken own extends same = grind (
  arith,
  nothing_more (calls_by c old) (calls_by c extends.0) (sym (calls-append c old extends.0) ∙ (ap (calls_by c) (sym extends.1) ∙ same)),
  calls-append c taken (calls x ∷ []),
)
