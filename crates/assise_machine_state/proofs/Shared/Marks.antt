-- Logs whose marks are the borders of a client's groups, and where they stay so.
use Rattle.assise_machine_state.proofs.Common.{◌≡◌, ℕ, zero, suc, ◌+◌, ◌-◌, ◌<◌, ◌≤◌, Bool, true, List, [], ◌∷◌, ◌++◌, length, get_or, take, drop, inl, inr}
use Rattle.assise_machine_state.proofs.Common.{refl, ap, sym, ◌∙◌, arith, cases_Bool, cases_eq, cases_lt, get_or-drop, Effect, LogRecord, has_some, record_of}
use Rattle.assise_machine_state.proofs.Common.{NumberedLog, end, is_border, without_prefix, without_tail, border_end, border_first, border_grouped}
use Rattle.assise_machine_state.proofs.Common.{border_marked, ReceivedLog, border_marks, with_records, IsMarked}
use Rattle.assise_machine_state.proofs.Shared.LogChanges.{none_more}

-- ---- marks

pub marks-same : (f g : ℕ → Bool) (k : ℕ) (rs : List LogRecord) → ((j : ℕ) → k ≤ j → j < k + length rs → f j ≡ g j) → border_marks f k rs ≡ border_marks g k rs
marks-same f g k [] same = refl
marks-same f g k (r ∷ rs) same =
    let here : f k ≡ g k = same k (omega arith) (omega arith) in
    let rest : border_marks f (suc k) rs ≡ border_marks g (suc k) rs = marks-same f g (suc k) rs
    (λ j low high. same j (omega (arith, low)) (omega (arith, high))) in
    λ i. here i ∷ rest i

pub marks-append : (f : ℕ → Bool) (k : ℕ) (rs more : List LogRecord) → border_marks f k (rs ++ more) ≡ border_marks f k rs ++ border_marks f (k + length rs)
    more
marks-append f k [] more = (let here : k ≡ k + 0 = omega arith in ap (λ j. border_marks f j more) here)
marks-append f k (r ∷ rs) more =
    let next : suc k + length rs ≡ k + suc (length rs) = omega arith in
    ap (λ ms. f k ∷ ms) (marks-append f (suc k) rs more ∙ ap (λ j. border_marks f (suc k) rs ++ border_marks f j more) next)

marks-drop : (f : ℕ → Bool) (k n : ℕ) (rs : List LogRecord) → drop n (border_marks f k rs) ≡ border_marks f (k + n) (drop n rs)
marks-drop f k zero rs = (let here : k ≡ k + 0 = omega arith in ap (λ j. border_marks f j rs) here)
marks-drop f k (suc n) [] = refl
marks-drop f k (suc n) (r ∷ rs) = (let next : suc k + n ≡ k + suc n = omega arith in marks-drop f (suc k) n rs ∙ ap (λ j. border_marks f j (drop n rs)) next)

marks-take : (f : ℕ → Bool) (k n : ℕ) (rs : List LogRecord) → take n (border_marks f k rs) ≡ border_marks f k (take n rs)
marks-take f k zero rs = refl
marks-take f k (suc n) [] = refl
marks-take f k (suc n) (r ∷ rs) = ap (λ ms. f k ∷ ms) (marks-take f (suc k) n rs)

pub marks-count : (f : ℕ → Bool) (k : ℕ) (rs : List LogRecord) → length (border_marks f k rs) ≡ length rs
marks-count f k [] = refl
marks-count f k (r ∷ rs) = ap suc (marks-count f (suc k) rs)

mark-at : (f : ℕ → Bool) (k : ℕ) (rs : List LogRecord) (i : ℕ) → i < length rs → get_or (border_marks f k rs) i true ≡ f (k + i)
mark-at f k [] i low = absurd (omega (arith, low))
mark-at f k (r ∷ rs) zero low = (let here : k ≡ k + 0 = omega arith in ap f here)
mark-at f k (r ∷ rs) (suc i) low = (let next : suc k + i ≡ k + suc i = omega arith in mark-at f (suc k) rs i (omega (arith, low)) ∙ ap f next)

-- ---- the borders of a log that has such marks

-- as many marks as records
pub so_many_marks : (f : ℕ → Bool) (l : NumberedLog) → IsMarked f l → length l.begins ≡ length l.records
so_many_marks f l marked = ap length marked ∙ marks-count f l.first l.records

-- inside it has these
pub border_inside : (f : ℕ → Bool) (l : NumberedLog) (k : ℕ) → IsMarked f l → l.first < k → k < end l → is_border l k ≡ f k
border_inside f l k marked low high = grind (arith, border_marked, mark-at)

-- so where two logs have the same extent they have the same borders
pub borders_same : (own l : NumberedLog) (k : ℕ) → length own.begins ≡ length own.records → IsMarked (is_border own) l → l.first ≡ own.first → end l ≡ end own →
    is_border l k ≡ is_border own k
borders_same own l k own_marks marked first ends = grind (arith, cases_lt, border_inside, border_end, so_many_marks, border_first)

-- ---- where a record or more come in

pub marked_more : (f : ℕ → Bool) (l : ReceivedLog) (more : List LogRecord) → IsMarked f l.log → IsMarked f (with_records f l more).log
marked_more f l more marked = ap (λ ms. ms ++ border_marks f (end l.log) more) marked ∙ sym (marks-append f l.log.first l.log.records more)

-- the records of a call, which are groups by themselves
abbrev pub called : ℕ → List Effect → ReceivedLog → ReceivedLog
called call es l = with_records (λ k. true) l (record_of call es)

pub called_border : (l : ReceivedLog) (call : ℕ) (es : List Effect) (k : ℕ) → length l.log.begins ≡ length l.log.records → is_border (called call es l).log k
    ≡ is_border l.log k
called_border l call es k marks =
    elim (cases_Bool (has_some es)) [
      | inl some ↦ rw some (border_grouped l.log (record { call = call; effects = es }) true k marks (λ e. refl))
      | inr none ↦ rw none (ap (λ x. is_border x.log k) (none_more (λ j. true) l))
    ]

-- the client's own log has its own borders, and so it has then
pub marked_called : (l : ReceivedLog) (call : ℕ) (es : List Effect) → IsMarked (is_border l.log) l.log →
    IsMarked (is_border (called call es l).log) (called call es l).log
marked_called l call es marked = grind (arith, so_many_marks, called_border, marks-same, border_end, marks-append)

-- ---- where records go from the front or from the end

-- a log that begins at a border has the borders from there on that it had
pub prefix_border : (l : NumberedLog) (to k : ℕ) → l.first ≤ to → is_border l to ≡ true → to ≤ k → is_border (without_prefix l to) k ≡ is_border l k
prefix_border l to k from_first at_border low = grind (arith, cases_eq, border_first, border_marked, get_or-drop)

pub marked_prefix : (own l : NumberedLog) (to : ℕ) → own.first ≤ to → is_border own to ≡ true → l.first ≤ to → IsMarked (is_border own) l →
    IsMarked (is_border (without_prefix own to)) (without_prefix l to)
marked_prefix own l to own_first at_border low marked = grind (arith, marks-drop, marks-same, prefix_border)

-- a log that ends at a place has the borders before it
taken_mark : (ms : List Bool) (n i : ℕ) → i < n → get_or (take n ms) i true ≡ get_or ms i true
taken_mark ms zero i low = absurd (omega (arith, low))
taken_mark [] (suc n) i low = refl
taken_mark (m ∷ ms) (suc n) zero low = refl
taken_mark (m ∷ ms) (suc n) (suc i) low = taken_mark ms n i (omega (arith, low))

pub tail_border : (l : NumberedLog) (from k : ℕ) → k < from → is_border (without_tail l from) k ≡ is_border l k
tail_border l from k before = grind (arith, cases_lt, border_marked, taken_mark, border_first)

pub marked_tail : (f : ℕ → Bool) (l : NumberedLog) (from : ℕ) → IsMarked f l → IsMarked f (without_tail l from)
marked_tail f l from marked = ap (take (from - l.first)) marked ∙ marks-take f l.first (from - l.first) l.records

-- another log's borders are those of a log as far as it has records
pub marked_as : (f g : ℕ → Bool) (l : NumberedLog) → ((k : ℕ) → l.first ≤ k → k < end l → f k ≡ g k) → IsMarked f l → IsMarked g l
marked_as f g l same marked = marked ∙ marks-same f g l.first l.records same
