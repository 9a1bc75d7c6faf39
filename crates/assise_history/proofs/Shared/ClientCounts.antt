-- How many clients are opened in a legal history, and how many calls are made.
use Rattle.assise_history.proofs.Common.{◌≡◌, ℕ, ◌+◌, ◌<◌, ◌≤◌, false, if◌then◌else◌, ◌==◌, List, [], ◌∷◌, ◌++◌, filter, length, refl, ap, ◌∙◌, inl, inr, arith}
use Rattle.assise_history.proofs.Common.{eqb-true, eq-eqb, ne_eqb, cases_Bool, length-append, filter-append, Durability, Call, EntryValue, opens, calls}
use Rattle.assise_history.proofs.Common.{IsLegal, Fits, IsNextCall, MayOpen, is_opening, is_call_of, clients_opened, calls_made, durability_of, opened_as}
use Rattle.assise_names.specs.declared.durability.Durability.TheVariants.{Pessimistic}
use Rattle.assise_history.specs.Opened.{is_opening_of, OpensOnce}
use Rattle.assise_history.proofs.Shared.Legality.{along, fits_in}

-- counts
pub opened_append : (g h : List EntryValue) → clients_opened (g ++ h) ≡ clients_opened g + clients_opened h
opened_append g h = ap length (filter-append is_opening g h) ∙ length-append (filter is_opening g) (filter is_opening h)

pub made_append : (c : ℕ) (g h : List EntryValue) → calls_made c (g ++ h) ≡ calls_made c g + calls_made c h
made_append c g h = ap length (filter-append (is_call_of c) g h) ∙ length-append (filter (is_call_of c) g) (filter (is_call_of c) h)

times : ℕ → List EntryValue → ℕ
times c h = length (filter (is_opening_of c) h)

times_append : (c : ℕ) (g h : List EntryValue) → times c (g ++ h) ≡ times c g + times c h
unfolding times
times_append c g h = ap length (filter-append (is_opening_of c) g h) ∙ length-append (filter (is_opening_of c) g) (filter (is_opening_of c) h)

-- the clients are opened in the order of their numbers
pub next_opened : (h : List EntryValue) (c n : ℕ) (u : Durability) → Fits h (opens c n u) → c ≡ clients_opened h + 1
next_opened h c n u fits = let may : MayOpen h c n = fits.follows in may.next

pub opened_within : (h before since : List EntryValue) (c n : ℕ) (u : Durability) → IsLegal h → h ≡ before ++ opens c n u ∷ since → c ≤ clients_opened h
opened_within h before since c n u legal split =
    let e = next_opened before c n u (fits_in h before since (opens c n u) legal split) in
    let all = ap clients_opened split ∙ opened_append before (opens c n u ∷ since) in
    omega arith

-- a client that isn't opened yet has no calls
early_more : (h : List EntryValue) (e : EntryValue) → IsLegal h → Fits h e → ((c : ℕ) → clients_opened h < c → calls_made c h ≡ 0) → (c : ℕ) →
    clients_opened (h ++ e ∷ []) < c → calls_made c (h ++ e ∷ []) ≡ 0
early_more h (calls x) legal fits before c late =
    let all = opened_append h (calls x ∷ []) in
    let made = made_append c h (calls x ∷ []) in
    let none = before c (omega arith) in
    elim (cases_Bool (c == x.client)) [
      | inl own ↦
          grind (arith, opened_within)
      | inr other ↦ let still = rw other at made in omega arith
    ]
early_more h e legal fits before c late = search (opened_append, made_append, arith) parts 3

pub early : (h : List EntryValue) → IsLegal h → (c : ℕ) → clients_opened h < c → calls_made c h ≡ 0
early = along (λ h. (c : ℕ) → clients_opened h < c → calls_made c h ≡ 0) (λ c late. refl) early_more

pub made_before : (h before later : List EntryValue) (x : Call) (c : ℕ) → h ≡ before ++ calls x ∷ later → x.client ≡ c →
    calls_made c before + 1 ≤ calls_made c h
made_before h before later x c split client = grind (arith, made_append c before (calls x ∷ later))

-- a call's number is the count of its client's calls before it, and less than the count of all of them
pub number_in : (h before later : List EntryValue) (x : Call) → IsLegal h → h ≡ before ++ calls x ∷ later → x.number ≡ calls_made x.client before
number_in h before later x legal split = let next : IsNextCall before x = (fits_in h before later (calls x) legal split).follows in next.number

pub number_below : (h before later : List EntryValue) (x : Call) → IsLegal h → h ≡ before ++ calls x ∷ later → x.number < calls_made x.client h
number_below h before later x legal split = grind (arith, number_in h before later x legal split, made_before h before later x x.client split refl)

-- no client is opened twice
unopened_more : (h : List EntryValue) (e : EntryValue) → IsLegal h → Fits h e → ((c : ℕ) → clients_opened h < c → times c h ≡ 0) → (c : ℕ) →
    clients_opened (h ++ e ∷ []) < c → times c (h ++ e ∷ []) ≡ 0
unfolding times
unopened_more h (opens d n u) legal fits before c late =
    let all = opened_append h (opens d n u ∷ []) in
    let grown = times_append c h (opens d n u ∷ []) in
    let none = before c (omega arith) in
    let is = next_opened h d n u fits in
    let other : (d == c) ≡ false = ne_eqb d c (λ same. omega arith) in
    let still = rw other at grown in
    omega arith
unopened_more h e legal fits before c late = search (opened_append, times_append, arith) parts 3

unopened : (h : List EntryValue) → IsLegal h → (c : ℕ) → clients_opened h < c → times c h ≡ 0
unfolding times
unopened = along (λ h. (c : ℕ) → clients_opened h < c → times c h ≡ 0) (λ c late. refl) unopened_more

once_more : (h : List EntryValue) (e : EntryValue) → IsLegal h → Fits h e → ((c : ℕ) → times c h ≤ 1) → (c : ℕ) → times c (h ++ e ∷ []) ≤ 1
unfolding times
once_more h (opens d n u) legal fits before c =
    let grown = times_append c h (opens d n u ∷ []) in
    let is = next_opened h d n u fits in
    elim (cases_Bool (d == c)) [
      | inl own ↦
          let same = eqb-true d c own in
          let none = unopened h legal c (omega arith) in
          let one = rw own at grown in
          omega arith
      | inr other ↦ let still = rw other at grown in let few = before c in omega arith
    ]
once_more h e legal fits before c = let grown = times_append c h (e ∷ []) in let few = before c in omega arith

once : (h : List EntryValue) → IsLegal h → (c : ℕ) → times c h ≤ 1
unfolding times
once = along (λ h. (c : ℕ) → times c h ≤ 1) (λ c. omega arith) once_more

pub opens_once : (h : List EntryValue) → IsLegal h → OpensOnce h
unfolding times
opens_once h legal = λ c. once h legal c

-- ---- how a client was opened

opened_as-append : (c : ℕ) (u : Durability) (g h : List EntryValue) → opened_as c u (g ++ h) ≡ opened_as c (opened_as c u g) h
opened_as-append c u [] h = refl
opened_as-append c u (opens d n v ∷ g) h = opened_as-append c (if d == c then v else u) g h
opened_as-append c u (_ ∷ g) h = opened_as-append c u g h

-- it isn't opened any more
opened_as-still : (c : ℕ) (u : Durability) (h : List EntryValue) → times c h ≡ 0 → opened_as c u h ≡ u
unfolding times
opened_as-still c u [] none = refl
opened_as-still c u (opens d n v ∷ h) none =
    elim (cases_Bool (d == c)) [
      | inl own ↦ let some = rw own at none in absurd (omega arith)
      | inr other ↦ let rest : times c h ≡ 0 = rw other at none in rw other (opened_as-still c u h rest)
    ]
opened_as-still c u (_ ∷ h) none = opened_as-still c u h none

-- an entry more: it is the client's opening, another's, or none
pub durability-opened : (h : List EntryValue) (c n : ℕ) (u : Durability) → durability_of c (h ++ opens c n u ∷ []) ≡ u
durability-opened h c n u = opened_as-append c Pessimistic h (opens c n u ∷ []) ∙ rw (eq-eqb c c refl) refl

pub durability-other : (h : List EntryValue) (c d n : ℕ) (u : Durability) → (d == c) ≡ false → durability_of c (h ++ opens d n u ∷ []) ≡ durability_of c h
durability-other h c d n u other = opened_as-append c Pessimistic h (opens d n u ∷ []) ∙ rw other refl

pub durability-still : (h : List EntryValue) (e : EntryValue) (c : ℕ) → is_opening e ≡ false → durability_of c (h ++ e ∷ []) ≡ durability_of c h
durability-still h (opens d n u) c quiet = cc
durability-still h e c quiet = opened_as-append c Pessimistic h (e ∷ [])

-- a client of a legal history was opened as its one opening says
pub durability_in : (h before since : List EntryValue) (c n : ℕ) (u : Durability) → IsLegal h → h ≡ before ++ opens c n u ∷ since → durability_of c h ≡ u
unfolding times
durability_in h before since c n u legal split = grind
    (arith, once h legal c, times_append c before (opens c n u ∷ since), opened_as-append c Pessimistic before (opens c n u ∷ since), opened_as-still)
