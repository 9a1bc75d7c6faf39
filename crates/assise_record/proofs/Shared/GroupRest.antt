-- What is left of a group of records.
use Rattle.assise_record.proofs.Common.{◌≡◌, ℕ, ◌<◌, ◌≤◌, true, List, [], ◌∷◌, ◌++◌, length, refl, ap, ◌∙◌, arith, false≢true, Effect, AllHaveEffects, left_of}
use Rattle.assise_record.proofs.Common.{left_in, begun_by, coalesced_group, LogRecord, all_effects, has_some, call_of, Ascending}
use Rattle.assise_record.specs.Coalesced.{coalesced}

left_of-append : (es later : List Effect) → coalesced (es ++ later) ≡ left_of es later ++ coalesced later
left_of-append [] later = refl
left_of-append (e ∷ es) later = grind (arith, left_of-append es later)

left_in-effects : (rs : List LogRecord) → all_effects (left_in rs) ≡ coalesced (all_effects rs)
left_in-effects [] = refl
left_in-effects (r ∷ rs) = grind (arith, left_in-effects rs, left_of-append)

begun_by-effects : (call : ℕ) (rs : List LogRecord) → all_effects (begun_by call rs) ≡ all_effects rs
begun_by-effects call [] = refl
begun_by-effects call (r ∷ rs) = refl

pub group-effects : (rs : List LogRecord) → all_effects (coalesced_group rs) ≡ coalesced (all_effects rs)
group-effects rs = begun_by-effects (call_of rs 0 0) (left_in rs) ∙ left_in-effects rs

-- ---- how many records

length-begun : (call : ℕ) (rs : List LogRecord) → length (begun_by call rs) ≡ length rs
length-begun call [] = refl
length-begun call (r ∷ rs) = refl

length-left : (rs : List LogRecord) → length (left_in rs) ≤ length rs
length-left [] = omega arith
length-left (r ∷ rs) = grind (arith, length-left rs)

pub group-shorter : (rs : List LogRecord) → length (coalesced_group rs) ≤ length rs
group-shorter rs = omega (arith, length-begun (call_of rs 0 0) (left_in rs), length-left rs)

-- ---- calls

-- something is left of what has effects
some-left : (es : List Effect) → has_some es ≡ true → has_some (coalesced es) ≡ true
some-left [] h = h
some-left (e ∷ []) h = refl
some-left (e ∷ (f ∷ fs)) h = grind (arith, some-left (f ∷ fs) refl)

effects_some : (r : LogRecord) (rs : List LogRecord) → has_some r.effects ≡ true → has_some (all_effects (r ∷ rs)) ≡ true
effects_some r rs h = grind arith

first_called : (call next : ℕ) (rs : List LogRecord) → has_some (all_effects rs) ≡ true → call_of (begun_by call rs) 0 next ≡ call
first_called call next [] h = absurd (false≢true h)
first_called call next (r ∷ rs) h = refl

-- the first record that is left stands for the call that the group begins with
pub group-begins : (rs : List LogRecord) (next : ℕ) → AllHaveEffects rs → call_of (coalesced_group rs) 0 next ≡ call_of rs 0 next
group-begins [] next h = refl
group-begins (r ∷ rs) next h =
    first_called r.call next (left_in (r ∷ rs)) (ap has_some (left_in-effects (r ∷ rs)) ∙ some-left (all_effects (r ∷ rs)) (effects_some r rs h.0))

-- the first of what is left comes no earlier than the first of the group
left-later : (rs : List LogRecord) (next : ℕ) → Ascending rs next → call_of rs 0 next ≤ call_of (left_in rs) 0 next
left-later [] next h = omega arith
left-later (r ∷ rs) next h = grind (arith, left-later rs next h.1)

left-ascending : (rs : List LogRecord) (next : ℕ) → Ascending rs next → Ascending (left_in rs) next
left-ascending [] next h = tt
left-ascending (r ∷ rs) next h = grind (arith, left-ascending rs next h.1, left-later)

begun-ascending : (call next : ℕ) (rs : List LogRecord) → call ≤ call_of rs 0 next → Ascending rs next → Ascending (begun_by call rs) next
begun-ascending call next [] low h = tt
begun-ascending call next (r ∷ rs) low h = (omega (arith, low, h.0), h.1)

pub group-ascending : (rs : List LogRecord) (next : ℕ) → Ascending rs next → Ascending (coalesced_group rs) next
group-ascending [] next h = tt
group-ascending (r ∷ rs) next h = begun-ascending r.call next (left_in (r ∷ rs)) (left-later (r ∷ rs) next h) (left-ascending (r ∷ rs) next h)

-- a group that has records keeps some
pub group-some : (rs : List LogRecord) → 0 < length rs → AllHaveEffects rs → 0 < length (coalesced_group rs)
group-some [] some h = absurd (omega (arith, some))
group-some (r ∷ rs) some h = stays (coalesced_group (r ∷ rs)) (ap has_some (group-effects (r ∷ rs)) ∙ some-left (all_effects (r ∷ rs)) (effects_some r rs h.0))
  where
    stays : (qs : List LogRecord) → has_some (all_effects qs) ≡ true → 0 < length qs
    stays [] h = absurd (false≢true h)
    stays (q ∷ qs) h = omega arith
