-- Where the borders of a log lie, and where they stay.
use Rattle.assise_private_log.proofs.Common.{◌≡◌, ℕ, zero, suc, ◌+◌, ◌-◌, ◌<◌, ◌≤◌, ◌||◌, ◌⊎◌, Bool, true, false, not, None, List, [], ◌∷◌, ◌++◌, length, take}
use Rattle.assise_private_log.proofs.Common.{drop, get_or, ap, sym, ◌∙◌, refl, arith, inl, inr, cond, subst, length-take, length-drop, ◌^◌, prefix_len}
use Rattle.assise_private_log.proofs.Common.{slice_get, both_ways, cases_eq, cases_lt, cases_order, le-leb, lt-leb, not-true, get_or-drop, get_or_past}
use Rattle.assise_private_log.proofs.Common.{length_push, LogRecord, IsNextBorder, IsWholeCount, group_end, whole_count, Covers, HasOpenGroup, IsNumberedLog}
use Rattle.assise_private_log.proofs.Common.{NumberedLog, end, is_border, with_grouped, without_prefix, without_tail}
use Rattle.std.proofs.lemmas.List.Sums.{prefix_len_passes}
use Rattle.circular_buffer.specs.Buffer.{Buffer, buffer, keep_last}

-- ---- where they lie

-- nothing is before the first number
pub border_first : (l : NumberedLog) (k : ℕ) → k ≤ l.first → is_border l k ≡ true
border_first l k low = ap (λ b. b || get_or l.begins (k - l.first) true) (le-leb k l.first low)

-- behind it the marks say it
pub border_marked : (l : NumberedLog) (k : ℕ) → l.first < k → is_border l k ≡ get_or l.begins (k - l.first) true
border_marked l k high = ap (λ b. b || get_or l.begins (k - l.first) true) (lt-leb k l.first high)

-- either way
pub by_place : (l : NumberedLog) (k : ℕ) (P : Bool → Type 0) → (k ≤ l.first → P true) → (l.first < k → P (get_or l.begins (k - l.first) true))
    → P (is_border l k)
by_place l k P first marked = grind (arith, cases_lt, border_marked, border_first)

-- nothing is behind the last record
pub border_end : (l : NumberedLog) (k : ℕ) → length l.begins ≡ length l.records → end l ≤ k → is_border l k ≡ true
border_end l k marks high = by_place l k (λ b. b ≡ true) (λ _. refl) (λ later. get_or_past l.begins (k - l.first) true (omega arith))

no_mark : (ms : List Bool) (i : ℕ) → slice_get ms i ≡ None → get_or ms i true ≡ true
no_mark [] i none = refl
no_mark (m ∷ ms) zero none = absurd cc
no_mark (m ∷ ms) (suc i) none = no_mark ms i none

-- nor where there is no mark
pub border_unmarked : (l : NumberedLog) (k : ℕ) → l.first < k → slice_get l.begins (k - l.first) ≡ None → true ≡ is_border l k
border_unmarked l k high none = sym (border_marked l k high ∙ no_mark l.begins (k - l.first) none)

-- ---- with one more record

pushed : (ms : List Bool) (m : Bool) (i : ℕ) → (i ≡ length ms → m ≡ true) → get_or (ms ++ m ∷ []) i true ≡ get_or ms i true
pushed [] m zero same = same refl
pushed [] m (suc i) same = refl
pushed (x ∷ ms) m zero same = refl
pushed (x ∷ ms) m (suc i) same = pushed ms m i (λ e. same (ap suc e))

pub border_grouped : (l : NumberedLog) (r : LogRecord) (begins : Bool) (k : ℕ) → length l.begins ≡ length l.records → (k ≡ end l → begins ≡ true) →
    is_border (with_grouped l r begins) k ≡ is_border l k
border_grouped l r begins k marks same = grind (arith, by_place, border_first, pushed, border_marked)

-- ---- without those in front, or behind

pub border_prefix : (l : NumberedLog) (to k : ℕ) → l.first ≤ to → is_border l k ≡ true → is_border (without_prefix l to) k ≡ true
border_prefix l to k from_first is = grind (arith, by_place, get_or-drop, border_marked)

taken : (ms : List Bool) (n i : ℕ) → get_or ms i true ≡ true → get_or (take n ms) i true ≡ true
taken ms zero i is = refl
taken [] (suc n) i is = refl
taken (m ∷ ms) (suc n) zero is = is
taken (m ∷ ms) (suc n) (suc i) is = taken ms n i is

pub border_tail : (l : NumberedLog) (from k : ℕ) → is_border l k ≡ true → is_border (without_tail l from) k ≡ true
border_tail l from k is = grind (arith, by_place, taken, border_marked)

-- ---- groups have at most 64 records

abbrev pub Near : NumberedLog → ℕ → Type 0
Near l number = (border : ℕ) × (number < border) × (border ≤ number + 64) × (is_border l border ≡ true)

-- where borders stay
pub near_kept : (l new : NumberedLog) → ((k : ℕ) → is_border l k ≡ true → is_border new k ≡ true) → ((number : ℕ) → Near l number) → (number : ℕ) →
    Near new number
near_kept l new kept near number = let b = near number in (b.0, b.1, b.2, kept b.0 b.3)

near_end : (l : NumberedLog) (r : LogRecord) (number k : ℕ) → length l.begins ≡ length l.records → number < end l → end l ≤ number + 64
    → k < end l → end l < k + 64 → is_border l k ≡ true → Near (with_grouped l r false) number
near_end l r number k marks low high before short is =
    elim (cases_lt (number + 64) (end l + 1)) [
      | inl full ↦ (k, omega arith, omega arith, border_grouped l r false k marks (λ e. absurd (omega arith)) ∙ is)
      | inr fits ↦
          let new : NumberedLog = with_grouped l r false in
          let long : length new.begins ≡ length new.records = omega (arith, length_push l.begins false, length_push l.records r) in
          (end l + 1, omega arith, omega arith, border_end new (end l + 1) long (omega (arith, length_push l.records r)))
    ]

near_grouped : (l : NumberedLog) (r : LogRecord) (begins : Bool) → length l.begins ≡ length l.records → (begins ≡ false → HasOpenGroup l)
    → ((number : ℕ) → Near l number) → (number : ℕ) → Near (with_grouped l r begins) number
near_grouped l r true marks joins near number = near_kept l (with_grouped l r true) (λ k is. border_grouped l r true k marks (λ e. refl) ∙ is) near number
near_grouped l r false marks joins near number =
    let b = near number in
    let o = joins refl in
    elim (cases_eq b.0 (end l)) [
      | inl here ↦ near_end l r number o.0 marks (omega (arith, b.1)) (omega (arith, b.2)) o.1 o.2 o.3
      | inr other ↦ (b.0, b.1, b.2, border_grouped l r false b.0 marks (λ e. absurd (other e)) ∙ b.3)
    ]

-- ---- what holds of a log goes on

pub lawful_grouped : (l : NumberedLog) (r : LogRecord) (begins : Bool) → IsNumberedLog l → (begins ≡ false → HasOpenGroup l) → end l + 1 < 2 ^ 64 →
    length l.records < l.limit
    → IsNumberedLog (with_grouped l r begins)
lawful_grouped l r begins law room_in_group fits room = grind
    (arith, length_push l.records r, length_push l.begins begins, near_grouped l r begins law.marks room_in_group law.groups)

pub lawful_prefix : (l : NumberedLog) (to : ℕ) → IsNumberedLog l → l.first ≤ to → to ≤ end l → IsNumberedLog (without_prefix l to)
lawful_prefix l to law from_first to_end = record {
  numbers = omega (arith, law.numbers, length-drop (to - l.first) l.records);
  room = omega (arith, law.room, length-drop (to - l.first) l.records);
  least = law.least;
  most = law.most;
  marks = omega (arith, law.marks, length-drop (to - l.first) l.records, length-drop (to - l.first) l.begins);
  groups = near_kept l (without_prefix l to) (λ k. border_prefix l to k from_first) law.groups;
}

pub lawful_tail : (l : NumberedLog) (from : ℕ) → IsNumberedLog l → IsNumberedLog (without_tail l from)
lawful_tail l from law = record {
  numbers = omega (arith, law.numbers, length-take (from - l.first) l.records);
  room = omega (arith, law.room, length-take (from - l.first) l.records);
  least = law.least;
  most = law.most;
  marks = omega (arith, law.marks, length-take (from - l.first) l.records, length-take (from - l.first) l.begins);
  groups = near_kept l (without_tail l from) (λ k. border_tail l from k) law.groups;
}

-- ---- the next border

run_at : (ms : List Bool) (i : ℕ) → i < prefix_len not ms → get_or ms i true ≡ false
run_at ms i low = not-true (get_or ms i true) (prefix_len_passes not ms i true low)

run_end : (ms : List Bool) → get_or ms (prefix_len not ms) true ≡ true
run_end [] = refl
run_end (true ∷ ms) = refl
run_end (false ∷ ms) = let one : 1 + prefix_len not ms ≡ suc (prefix_len not ms) = omega arith in ap (λ i. get_or (false ∷ ms) i true) one ∙ run_end ms

-- the marks behind a number, from it on
marks_from : (l : NumberedLog) (number i : ℕ) → l.first < number → is_border l (number + i) ≡ get_or (drop (number - l.first) l.begins) i true
marks_from l number i high = grind (arith, border_marked, get_or-drop)

next_behind : (l : NumberedLog) (number : ℕ) → l.first < number → IsNextBorder l number (number + prefix_len not (drop (number - l.first) l.begins))
next_behind l number high =
    let rest : List Bool = drop (number - l.first) l.begins in
    record {
      behind = omega arith;
      border = marks_from l number (prefix_len not rest) high ∙ run_end rest;
      least = λ k from below.
          let back : k ≡ number + (k - number) = omega arith in
          ap (is_border l) back ∙ marks_from l number (k - number) high ∙ run_at rest (k - number) (omega arith);
    }

pub next_border : (l : NumberedLog) (number : ℕ) → IsNextBorder l number (group_end l number)
next_border l number = grind (arith, cases_lt, lt-leb, next_behind, le-leb, border_first)

-- there is one
pub next_is_one : (l : NumberedLog) (number a b : ℕ) → IsNextBorder l number a → IsNextBorder l number b → a ≡ b
next_is_one l number a b one other = grind (arith, cases_order, both_ways)

-- what is the next border is what `group_end` says
pub next_is_group_end : (l : NumberedLog) (number next : ℕ) → number ≤ next → is_border l next ≡ true →
    ((k : ℕ) → number ≤ k → k < next → is_border l k ≡ false) → next ≡ group_end l number
next_is_group_end l number next behind border least = grind (arith, next_is_one, next_border)

-- ---- how many records end with a group

pub whole_none : (l : NumberedLog) (from : ℕ) → whole_count l from 0 ≡ 0
unfolding whole_count
whole_none l from = refl

whole_suc : (l : NumberedLog) (from n : ℕ) (b : Bool) → is_border l (from + suc n) ≡ b → whole_count l from (suc n) ≡ cond b (suc n) (whole_count l from n)
unfolding whole_count
whole_suc l from n b is = ap (λ t. cond t (suc n) (whole_count l from n)) is

pub whole_here : (l : NumberedLog) (from n : ℕ) → is_border l (from + n) ≡ true → whole_count l from n ≡ n
whole_here l from zero is = whole_none l from
whole_here l from (suc n) is = whole_suc l from n true is

pub whole_passed : (l : NumberedLog) (from n : ℕ) → 0 < n → is_border l (from + n) ≡ false → whole_count l from n ≡ whole_count l from (n - 1)
whole_passed l from zero some is = absurd (omega arith)
whole_passed l from (suc n) some is = let less : suc n - 1 ≡ n = omega arith in whole_suc l from n false is ∙ ap (whole_count l from) (sym less)

whole_step : (l : NumberedLog) (from n : ℕ) (b : Bool) → is_border l (from + suc n) ≡ b → IsWholeCount l from n (whole_count l from n) →
    IsWholeCount l from (suc n) (cond b (suc n) (whole_count l from n))
whole_step l from n b h1 h2 = grind (arith, cases_eq)

pub is_whole : (l : NumberedLog) (from most : ℕ) → IsWholeCount l from most (whole_count l from most)
is_whole l from zero = grind (arith, whole_none)
is_whole l from (suc n) =
    let b : Bool = is_border l (from + suc n) in
    subst (IsWholeCount l from (suc n)) (sym (whole_suc l from n b refl)) (whole_step l from n b refl (is_whole l from n))

less_unless : (a b : ℕ) → (b ≤ a → ⊥) → a < b
less_unless a b not_so = elim (cases_lt a b) [ inl less ↦ less | inr more ↦ absurd (not_so more) ]

-- some of at least 64 records are whole groups, and so are some of all that there are
pub some_whole : (l : NumberedLog) (from most : ℕ) → IsNumberedLog l → 0 < most → (64 ≤ most) ⊎ (end l ≤ from + most) → 0 < whole_count l from most
some_whole l from most law some enough =
    let whole : IsWholeCount l from most (whole_count l from most) = is_whole l from most in
    let next = law.groups from in
    less_unless 0 (whole_count l from most) (λ none.
    let reached : (k : ℕ) → 0 < k → k ≤ most → is_border l (from + k) ≡ true → ⊥
    = λ k low high is. both_ways (is_border l (from + k)) (whole.greatest k (omega arith) high) is in
    elim enough [
      | inl long ↦
          let back : from + (next.0 - from) ≡ next.0 = omega (arith, next.1) in
          reached (next.0 - from) (omega (arith, next.1)) (omega (arith, next.2)) (ap (is_border l) back ∙ next.3)
      | inr all ↦ reached most some (omega arith) (border_end l (from + most) law.marks all)
    ])

-- ---- what a log takes in of another, in the other's groups

-- the last border before a number
pub record IsLastBorder (l : NumberedLog) (number last : ℕ) : Type 0 where
  pub before : last ≤ number
  pub is : is_border l last ≡ true
  pub none : (k : ℕ) → last < k → k ≤ number → is_border l k ≡ false

last_step : (l : NumberedLog) (n : ℕ) (b : Bool) → is_border l (suc n) ≡ b → (last : ℕ) × IsLastBorder l n last → (last : ℕ) × IsLastBorder l (suc n) last
last_step l n true is before = (suc n, record { before = omega arith; is = is; none = λ k low high. absurd (omega arith) })
last_step l n false is before = grind (arith, cases_eq)

last_border : (l : NumberedLog) (n : ℕ) → (last : ℕ) × IsLastBorder l n last
last_border l zero = (0, record { before = omega arith; is = border_first l 0 (omega arith); none = λ k low high. absurd (omega arith) })
last_border l (suc n) = last_step l n (is_border l (suc n)) refl (last_border l n)

-- where a group of the other has records on both sides of the log's end, the log's last group can take one more
pub open_group : (own l : NumberedLog) → IsNumberedLog own → is_border own (end l) ≡ false →
    ((k : ℕ) → k < end l → is_border own k ≡ true → is_border l k ≡ true) → HasOpenGroup l
open_group own l law inside same =
    let found = last_border own (end l) in
    let b : IsLastBorder own (end l) found.0 = found.1 in
    let next = law.groups found.0 in
    let before : found.0 < end l = grind arith in
    let past : end l < next.0 = less_unless (end l) next.0 (λ less. both_ways (is_border own next.0) (b.none next.0 next.1 less) next.3) in
    (found.0, before, omega (arith, next.2), same found.0 before b.is)

-- ---- a cut at the end of a group

pub covers_group : (l : NumberedLog) (inode cut : ℕ) → IsNumberedLog l → Covers l inode cut → Covers l inode (group_end l cut)
covers_group l inode cut law covers = grind (arith, next_border, cases_lt, both_ways, border_end)

-- ---- the two rings of a log

-- a log whose records and marks are these
abbrev pub of_rings : ℕ → Buffer LogRecord → Buffer Bool → NumberedLog
of_rings first records begins = record { first = first; limit = records.capacity; records = records.items; begins = begins.items }

pub rings_grouped : (first : ℕ) (records : Buffer LogRecord) (begins : Buffer Bool) (r : LogRecord) (b : Bool) (records' : Buffer LogRecord)
    (begins' : Buffer Bool)
    → IsNumberedLog (of_rings first records begins) × (begins.capacity ≡ records.capacity) → (b ≡ false → HasOpenGroup (of_rings first records begins))
    → first + length records.items + 1 < 2 ^ 64 → length records.items < records.capacity
    → records' ≡ buffer (records.items ++ r ∷ []) records.capacity → begins' ≡ buffer (begins.items ++ b ∷ []) begins.capacity
    → IsNumberedLog (of_rings first records' begins') × (begins'.capacity ≡ records'.capacity)
rings_grouped first records begins r b records' begins' law room_in_group fits room more marked =
    rw (more, marked) (lawful_grouped (of_rings first records begins) r b law.0 room_in_group fits room, law.1)

pub rings_prefix : (first to kept : ℕ) (records : Buffer LogRecord) (begins : Buffer Bool) (records' : Buffer LogRecord) (begins' : Buffer Bool)
    → IsNumberedLog (of_rings first records begins) × (begins.capacity ≡ records.capacity) → first ≤ to → to ≤ first + length records.items
    → kept ≡ length records.items - (to - first)
    → records' ≡ buffer (keep_last kept records.items) records.capacity → begins' ≡ buffer (keep_last kept begins.items) begins.capacity
    → IsNumberedLog (of_rings to records' begins') × (begins'.capacity ≡ records'.capacity)
rings_prefix first to kept records begins records' begins' law from_first to_end keeps less marked = grind
    (arith, lawful_prefix (of_rings first records begins) to law.0 from_first to_end)

pub rings_tail : (first from kept : ℕ) (records : Buffer LogRecord) (begins : Buffer Bool) (records' : Buffer LogRecord) (begins' : Buffer Bool)
    → IsNumberedLog (of_rings first records begins) × (begins.capacity ≡ records.capacity) → kept ≡ from - first
    → records' ≡ buffer (take kept records.items) records.capacity → begins' ≡ buffer (take kept begins.items) begins.capacity
    → IsNumberedLog (of_rings first records' begins') × (begins'.capacity ≡ records'.capacity)
rings_tail first from kept records begins records' begins' law keeps less marked = grind (arith, lawful_tail (of_rings first records begins) from law.0)
