-- Prefixes of records: what is sent, and what was read of an iterator.
use Rattle.assise_chain.proofs.Common.{◌≡◌, ℕ, zero, suc, ◌+◌, ◌-◌, ◌<◌, ◌≤◌, min, max, Bool, false, List, [], ◌∷◌, ◌++◌, get_or, length, take, None, Some, ap}
use Rattle.assise_chain.proofs.Common.{◌∙◌, refl, arith, true, length-drop, length-take, length-take-le, LogRecord, LogFrame, IsNumberedLog, NumberedLog, end}
use Rattle.assise_chain.proofs.Common.{is_border, records_from, count_sent, first_sent, frame_of, last_marks, log_records_between, sent}
use Rattle.assise_private_log.specs.Borders.{whole_count}
use Rattle.assise_private_log.proofs.Shared.Borders.{is_whole, some_whole}

-- the first item of a prefix
pub taken_first : {X : Type 0} (n m : ℕ) (xs ys : List X) (x : X) → m + 1 ≡ n → xs ≡ x ∷ ys → take n xs ≡ x ∷ take m ys
taken_first n m xs ys x next is = grind arith

-- a prefix of a prefix
take-take : {X : Type 0} (m n : ℕ) (xs : List X) → take m (take n xs) ≡ take (min m n) xs
take-take zero n xs = let none : min zero n ≡ zero = omega arith in rw none refl
take-take (suc m) zero xs = let none : min (suc m) zero ≡ zero = omega arith in rw none refl
take-take (suc m) (suc n) [] = let some : min (suc m) (suc n) ≡ suc (min m n) = omega arith in rw some refl
take-take (suc m) (suc n) (x ∷ xs) = let some : min (suc m) (suc n) ≡ suc (min m n) = omega arith in rw some (ap (λ l. x ∷ l) (take-take m n xs))

-- how many records lie between two numbers
pub length_between : (l : NumberedLog) (from to : ℕ) → length (log_records_between l from to) ≡ min to (end l) - max from l.first
length_between l from to = grind (arith, length-drop, length-take)

-- `count` records are counted of those from a number on and below another
pub record IsCounted (l : NumberedLog) (from to first most count : ℕ) : Type 0 where
  pub first_is : first ≡ first_sent l from
  pub most_is : most ≡ min 64 (min to (end l) - first)
  pub count_is : count ≡ whole_count l first most

counted : (l : NumberedLog) (from to first most count : ℕ) → IsCounted l from to first most count → count_sent l from to ≡ count
counted l from to first most count is = grind (arith, length_between)

counted_within : (l : NumberedLog) (from to first most count : ℕ) → IsCounted l from to first most count → count ≤ min to (end l) - first_sent l from
counted_within l from to first most count is = omega (arith, is.first_is, is.most_is, is.count_is, (is_whole l first most).within)

-- what is sent is the first `count` of the records from a number on
pub sent_first : (l : NumberedLog) (from to first most count : ℕ) → IsCounted l from to first most count → sent l from to ≡ take count (records_from l from)
sent_first l from to first most count is = grind (arith, counted_within, counted, take-take)

-- and there are `count`
pub sent_length : (l : NumberedLog) (from to first most count : ℕ) → IsCounted l from to first most count → length (sent l from to) ≡ count
sent_length l from to first most count is = grind (arith, length_between, counted_within, length-take-le)

-- as many are sent as are counted
length_sent : (l : NumberedLog) (from to : ℕ) → length (sent l from to) ≡ count_sent l from to
length_sent l from to = grind (arith, is_whole, length-take-le)

-- whole groups of them
pub sent_border : (l : NumberedLog) (from to : ℕ) → 0 < length (sent l from to) → is_border l (first_sent l from + length (sent l from to)) ≡ true
sent_border l from to some = grind (arith, length_sent, is_whole)

-- and some, up to a border
pub some_sent : (l : NumberedLog) (from to : ℕ) → IsNumberedLog l → first_sent l from < to → to ≤ end l → is_border l to ≡ true → 0 < length (sent l from to)
some_sent l from to law low high is = grind (arith, length_between, length_sent, is_whole, some_whole)

-- there is a frame of some records
pub plain_some : (epoch client first : ℕ) (rs : List LogRecord) (last : List Bool) → 0 < length rs →
    Some (record { version = 1; epoch = epoch; client = client; first = first; records = rs; last = [] }) ≡ frame_of false epoch client first rs last
plain_some epoch client first [] last some = absurd (omega arith)
plain_some epoch client first (r ∷ rs) last some = refl

pub marked_some : (epoch client first : ℕ) (rs : List LogRecord) (last : List Bool) → 0 < length rs →
    Some (record { version = 2; epoch = epoch; client = client; first = first; records = rs; last = last }) ≡ frame_of true epoch client first rs last
marked_some epoch client first [] last some = absurd (omega arith)
marked_some epoch client first (r ∷ rs) last some = refl

-- and there is none of none
pub frame_of_none : (marked : Bool) (epoch client first : ℕ) (rs : List LogRecord) (last : List Bool) → length rs ≡ 0 →
    None ≡ frame_of marked epoch client first rs last
frame_of_none marked epoch client first [] last none = refl
frame_of_none marked epoch client first (r ∷ rs) last none = absurd (omega arith)

-- what a frame that is sent has
pub parts_of_frame : (marked : Bool) (epoch client first : ℕ) (rs : List LogRecord) (last : List Bool) (f : LogFrame) →
    frame_of marked epoch client first rs last ≡ Some f → (f.epoch ≡ epoch) × (f.first ≡ first) × (f.records ≡ rs)
parts_of_frame marked epoch client first [] last f is = cc
parts_of_frame marked epoch client first (r ∷ rs) last f is = grind arith

-- ---- marks

-- one more
pub marks_more : (l : NumberedLog) (first count : ℕ) → last_marks l first (suc count) ≡ last_marks l first count ++ is_border l (first + suc count) ∷ []
marks_more l first zero = ap (λ k. is_border l k ∷ []) (omega arith)
marks_more l first (suc count) = grind (arith, marks_more l (suc first) count)

-- what was read of them, and the next
pub marks_next : (l : NumberedLog) (first count : ℕ) (read : List Bool) (next : Bool) → read ≡ last_marks l first count →
    next ≡ is_border l (first + count + 1) → read ++ next ∷ [] ≡ last_marks l first (count + 1)
marks_next l first count read next is last = grind (arith, marks_more)

pub marks_length : (l : NumberedLog) (first count : ℕ) → length (last_marks l first count) ≡ count
marks_length l first zero = refl
marks_length l first (suc count) = ap suc (marks_length l (suc first) count)

-- the last record's mark is whether the place behind it is a border
mark_behind : (l : NumberedLog) (first count : ℕ) → get_or (last_marks l first (suc count)) count true ≡ is_border l (first + suc count)
mark_behind l first zero = ap (is_border l) (omega arith)
mark_behind l first (suc count) = mark_behind l (suc first) count ∙ ap (is_border l) (omega arith)

pub marks_last : (l : NumberedLog) (first count long : ℕ) → long ≡ count → 0 < count → get_or (last_marks l first count) (long - 1) true
    ≡ is_border l (first + count)
marks_last l first zero long is some = absurd (omega arith)
marks_last l first (suc count) long is some =
    let one : long - 1 ≡ count = omega arith in ap (λ k. get_or (last_marks l first (suc count)) k true) one ∙ mark_behind l first count
