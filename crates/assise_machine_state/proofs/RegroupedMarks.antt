-- A log whose last records became groups marks its own borders.
use Rattle.assise_machine_state.proofs.Common.{◌≡◌, ℕ, suc, ◌+◌, ◌-◌, ◌<◌, Bool, true, List, [], ◌∷◌, ◌++◌, length, get_or, take, refl, ap, ◌∙◌, arith}
use Rattle.assise_machine_state.proofs.Common.{cases_eq, length-append, length-map, length-take, all_marks, all_records, marks_of, LogRecord, NumberedLog}
use Rattle.assise_machine_state.proofs.Common.{is_border, without_tail, border_first, border_marked, regrouped_all, with_all, border_marks, IsMarked}
use Rattle.assise_private_log.specs.Groups.{groups_from, regrouped}
use Rattle.assise_machine_state.proofs.Shared.Marks.{so_many_marks}

marks_at : (f : ℕ → Bool) (k : ℕ) (ms : List Bool) (rs : List LogRecord) → length ms ≡ length rs → ((i : ℕ) → i < length rs → get_or ms i true ≡ f (k + i)) →
    ms ≡ border_marks f k rs
marks_at f k [] [] same at = refl
marks_at f k [] (r ∷ rs) same at = absurd (omega (arith, same))
marks_at f k (m ∷ ms) [] same at = absurd (omega (arith, same))
marks_at f k (m ∷ ms) (r ∷ rs) same at =
    let here : k + 0 ≡ k = omega arith in
    let next : (i : ℕ) → k + suc i ≡ suc k + i = λ i. omega arith in
    let first : m ≡ f k = at 0 (omega arith) ∙ ap f here in
    let rest : ms ≡ border_marks f (suc k) rs = marks_at f (suc k) ms rs (omega (arith, same)) (λ i low. at (suc i) (omega (arith, low)) ∙ ap f (next i)) in
    λ i. first i ∷ rest i

-- a log whose first record begins a group marks its borders
marks_own : (l : NumberedLog) → length l.begins ≡ length l.records → get_or l.begins 0 true ≡ true → IsMarked (is_border l) l
marks_own l so_many first = grind (arith, marks_at, cases_eq, border_first, border_marked)

first_mark : (f : ℕ → Bool) (k : ℕ) (rs : List LogRecord) → f k ≡ true → get_or (border_marks f k rs) 0 true ≡ true
first_mark f k [] is = refl
first_mark f k (r ∷ rs) is = is

first_begins : (gs : List (List LogRecord)) → get_or (all_marks gs) 0 true ≡ true
first_begins [] = refl
first_begins ([] ∷ gs) = first_begins gs
first_begins ((r ∷ rs) ∷ gs) = refl

first_of_both : (n : ℕ) (ms more : List Bool) → get_or ms 0 true ≡ true → get_or more 0 true ≡ true → get_or (take n ms ++ more) 0 true ≡ true
first_of_both n ms more h1 h2 = grind arith

group_marks : (rs : List LogRecord) → length (marks_of rs) ≡ length rs
group_marks rs = grind (arith, length-map)

groups_marks : (gs : List (List LogRecord)) → length (all_marks gs) ≡ length (all_records gs)
groups_marks [] = refl
groups_marks (g ∷ gs) = omega (arith, length-append (marks_of g) (all_marks gs), length-append g (all_records gs), group_marks g, groups_marks gs)

module _ (l : NumberedLog) (from : ℕ) (marked : IsMarked (is_border l) l) where
  abbrev now : NumberedLog
  now = with_all (without_tail l from) (groups_from l from)

  so_many : length now.begins ≡ length now.records
  so_many = grind (arith, length-append, length-take, so_many_marks, groups_marks)

  begins_first : get_or l.begins 0 true ≡ true
  begins_first = ap (λ ms. get_or ms 0 true) marked ∙ first_mark (is_border l) l.first l.records (border_first l l.first (omega arith))

  pub regrouped_marked : IsMarked (is_border (regrouped l from)) (regrouped l from)
  regrouped_marked = grind (arith, regrouped_all, marks_own, so_many, first_of_both, begins_first, first_begins)
