-- A log goes on with some records.
use Rattle.assise_machine.proofs.Common.{◌≡◌, ℕ, zero, suc, ◌+◌, ◌-◌, ◌≤◌, List, [], ◌∷◌, length, take, drop, slice_get, Some, None, refl, ap, sym, ◌∙◌, arith}
use Rattle.assise_machine.proofs.Common.{cases_Bool, ltb-true, length-drop, take_all, drop-cons, LogRecord, AreWhole, NumberedLog, record_at, records_from}
use Rattle.std.proofs.lemmas.Option.{get_or_from_slice_get, slice_get_within}

drop_here : (xs : List LogRecord) (i : ℕ) (x : LogRecord) → slice_get xs i ≡ Some x → drop i xs ≡ x ∷ drop (suc i) xs
drop_here xs i x is = drop-cons xs i x (slice_get_within xs i x is) ∙ ap (λ y. y ∷ drop (suc i) xs) (get_or_from_slice_get xs i x x is)

place_at : (l : NumberedLog) (from : ℕ) → l.first ≤ from → record_at l from ≡ slice_get l.records (from - l.first)
place_at l from begun = grind (arith, cases_Bool, ltb-true)

pub goes_on : (l : NumberedLog) (from : ℕ) (r : LogRecord) → l.first ≤ from → Some r ≡ record_at l from → records_from l from ≡ r ∷ records_from l (from + 1)
goes_on l from r begun is =
    let next : suc (from - l.first) ≡ (from + 1) - l.first = omega (arith, begun) in
    drop_here l.records (from - l.first) r (sym (place_at l from begun) ∙ sym is) ∙ ap (λ k. r ∷ drop k l.records) next

none_there : (xs : List LogRecord) (i : ℕ) → slice_get xs i ≡ None → drop i xs ≡ []
none_there [] zero is = refl
none_there [] (suc i) is = refl
none_there (y ∷ ys) zero is = cc
none_there (y ∷ ys) (suc i) is = none_there ys i is

pub nothing_there : (l : NumberedLog) (from : ℕ) → l.first ≤ from → None ≡ record_at l from → records_from l from ≡ []
nothing_there l from begun is = none_there l.records (from - l.first) (sym (place_at l from begun) ∙ sym is)

-- one record more

pub more_agrees : (xs ys rs : List LogRecord) (q r : LogRecord) → xs ≡ q ∷ ys → q ≡ r → take (length rs) ys ≡ rs → take (length (r ∷ rs)) xs ≡ r ∷ rs
more_agrees xs ys rs q r is same rest = ap (take (suc (length rs))) is ∙ (λ i. same i ∷ rest i)

pub first_agrees : (xs ys rs : List LogRecord) (q r : LogRecord) → xs ≡ q ∷ ys → take (length (r ∷ rs)) xs ≡ r ∷ rs → q ≡ r
first_agrees xs ys rs q r is all = cc

pub rest_agrees : (xs ys rs : List LogRecord) (q r : LogRecord) → xs ≡ q ∷ ys → take (length (r ∷ rs)) xs ≡ r ∷ rs → take (length rs) ys ≡ rs
rest_agrees xs ys rs q r is all = cc

pub nothing_agrees : (xs rs : List LogRecord) (r : LogRecord) → xs ≡ [] → take (length (r ∷ rs)) xs ≡ r ∷ rs → ⊥
nothing_agrees xs rs r is all = (let none : [] ≡ r ∷ rs = sym (ap (take (suc (length rs))) is) ∙ all in cc)

-- parts of what can be made whole

whole_behind : (xs : List LogRecord) (i : ℕ) → AreWhole xs → AreWhole (drop i xs)
whole_behind [] zero whole = whole
whole_behind [] (suc i) whole = whole
whole_behind (x ∷ xs) zero whole = whole
whole_behind (x ∷ xs) (suc i) whole = whole_behind xs i whole.1

whole_prefix : (xs : List LogRecord) (i : ℕ) → AreWhole xs → AreWhole (take i xs)
whole_prefix [] zero whole = whole
whole_prefix [] (suc i) whole = whole
whole_prefix (x ∷ xs) zero whole = tt
whole_prefix (x ∷ xs) (suc i) whole = (whole.0, whole_prefix xs i whole.1)

pub whole_part : (l : NumberedLog) (from count : ℕ) → AreWhole l.records → AreWhole (take count (records_from l from))
whole_part l from count whole = whole_prefix (records_from l from) count (whole_behind l.records (from - l.first) whole)

-- ---- what can be made whole

-- what a log goes on with can be made whole, as what it has can
pub whole_new : (l : NumberedLog) (from skipped : ℕ) (rs : List LogRecord) → AreWhole l.records →
    take (length (take (length rs - skipped) (drop skipped rs))) (records_from l from) ≡ take (length rs - skipped) (drop skipped rs) →
    AreWhole (drop skipped rs)
whole_new l from skipped rs whole all = grind (arith, length-drop, take_all, whole_part)
