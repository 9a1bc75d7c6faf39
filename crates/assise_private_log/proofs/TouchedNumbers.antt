-- Which numbers of a log are those of records that touch an inode.
use Rattle.assise_private_log.proofs.Common.{◌≡◌, ℕ, zero, suc, ◌+◌, ◌-◌, ◌<◌, ◌≤◌, ◌||◌, ◌↔◌, nat_lt, Bool, true, false, Option, Some, None, List, [], ◌∷◌}
use Rattle.assise_private_log.proofs.Common.{length, drop, ap, sym, ◌∙◌, refl, arith, list_any, slice_get, slice_index_or, cases_lt, or_parts, LogRecord}
use Rattle.assise_private_log.proofs.Common.{NumberedLog, record_at, IsLastTouch, UntouchedFrom, found_touches, record_touches, touches, touches_after}
use Rattle.std.proofs.lemmas.Option.{get_or_from_slice_get, slice_get_cases, slice_get_within}
use Rattle.circular_buffer.proofs.Places.{slice_get-some}

-- ---- places

-- no element from a place on passes the test
any_from_reads : {X : Type 0} (p : X → Bool) (xs : List X) (j : ℕ) → ((k : ℕ) (x : X) → j ≤ k → slice_get xs k ≡ Some x → p x ≡ false) →
    list_any p (drop j xs) ≡ false
any_from_reads p [] zero none = refl
any_from_reads p [] (suc j) none = refl
any_from_reads p (y ∷ ys) zero none =
    ap (λ b. b || list_any p ys) (none zero y (omega arith) refl) ∙ any_from_reads p ys zero (λ k x from s. none (suc k) x (omega arith) s)
any_from_reads p (y ∷ ys) (suc j) none = any_from_reads p ys j (λ k x from s. none (suc k) x (omega arith) s)

reads_from_any : {X : Type 0} (p : X → Bool) (xs : List X) (j : ℕ) → list_any p (drop j xs) ≡ false → (k : ℕ) (x : X) → j ≤ k → slice_get xs k ≡ Some x →
    p x ≡ false
reads_from_any p [] j none k x from s = cc
reads_from_any p (y ∷ ys) zero none zero x from s = let first : p y ≡ false = (or_parts (p y) (list_any p ys) none).0 in cc
reads_from_any p (y ∷ ys) zero none (suc k) x from s = reads_from_any p ys zero (or_parts (p y) (list_any p ys) none).1 k x (omega arith) s
reads_from_any p (y ∷ ys) (suc j) none zero x from s = absurd (omega arith)
reads_from_any p (y ∷ ys) (suc j) none (suc k) x from s = reads_from_any p ys j none k x (omega arith) s

-- ---- numbers

-- a number before the first is no record's
before : (l : NumberedLog) (number inode : ℕ) → number < l.first → touches l number inode ≡ false
before l number inode low = let is_low : nat_lt number l.first ≡ true = search arith in rw is_low refl

-- from the first number on, a number is that of a place
at_place : (l : NumberedLog) (number : ℕ) → l.first ≤ number → record_at l number ≡ slice_get l.records (number - l.first)
at_place l number high = let is_high : nat_lt number l.first ≡ false = search arith in rw is_high refl

none_at : (l : NumberedLog) (inode k : ℕ) → ((r : LogRecord) → slice_get l.records k ≡ Some r → record_touches r inode ≡ false)
    → found_touches (slice_get l.records k) inode ≡ false
none_at l inode k none = grind (arith, slice_get_cases)

-- where no record touches the inode at a place from that of the number on, none of a number from it on does
untouched : (l : NumberedLog) (inode from : ℕ) →
    ((k : ℕ) (r : LogRecord) → from ≤ l.first + k → slice_get l.records k ≡ Some r → record_touches r inode ≡ false) → UntouchedFrom l inode from
untouched l inode from none number high = grind (arith, cases_lt, before, at_place, none_at)

-- and where none does, none touches it at such a place
untouched_places : (l : NumberedLog) (inode from : ℕ) → UntouchedFrom l inode from → (k : ℕ) (r : LogRecord) → from ≤ l.first + k →
    slice_get l.records k ≡ Some r → record_touches r inode ≡ false
untouched_places l inode from none k r high s = grind (arith, at_place l (l.first + k) (omega arith))

-- what `touches_after` answers says which it is
pub untouched_exactly : (l : NumberedLog) (inode from : ℕ) (answer : Bool) → answer ≡ touches_after l inode from → (answer ≡ false) ↔ UntouchedFrom l inode from
untouched_exactly l inode from answer exact = grind (arith, untouched, reads_from_any, any_from_reads, untouched_places)

-- ---- the last record that touches an inode

-- what is read at a place with a default is the record there
read_there : (rs : List LogRecord) (k inode : ℕ) (r : LogRecord) (b : Bool) → slice_get rs k ≡ Some r → record_touches (slice_index_or rs k r) inode ≡ b →
    record_touches r inode ≡ b
read_there rs k inode r b there read = ap (λ x. record_touches x inode) (sym (get_or_from_slice_get rs k r r there)) ∙ read

-- the record at the place touches the inode
touched : (l : NumberedLog) (inode place number : ℕ) → number ≡ l.first + place → place < length l.records
    → ((d : LogRecord) → record_touches (slice_index_or l.records place d) inode ≡ true) → touches l number inode ≡ true
touched l inode place number is_at inside here =
    let back : number - l.first ≡ place = omega arith in
    let some : (r : LogRecord) × (slice_get l.records place ≡ Some r) = slice_get-some l.records place inside in
    ap (λ o. found_touches o inode) (at_place l number (omega arith) ∙ ap (slice_get l.records) back ∙ some.1)
    ∙ read_there l.records place inode some.0 true some.1 (here some.0)

-- the record at the place touches the inode, and none behind it
pub last_of_place : (l : NumberedLog) (inode place number : ℕ) → number ≡ l.first + place → place < length l.records
    → ((d : LogRecord) → record_touches (slice_index_or l.records place d) inode ≡ true)
    → ((k : ℕ) (d : LogRecord) → place < k → k < length l.records → record_touches (slice_index_or l.records k d) inode ≡ false)
    → IsLastTouch l inode (Some number)
last_of_place l inode place number is_at inside here later = (
  touched l inode place number is_at inside here,
  untouched l inode (number + 1) (grind (arith, read_there, slice_get_within)),
)

-- no record does
pub no_last : (l : NumberedLog) (inode : ℕ) (found : Option ℕ) → found ≡ None
    → ((k : ℕ) (d : LogRecord) → k < length l.records → record_touches (slice_index_or l.records k d) inode ≡ false)
    → IsLastTouch l inode found
no_last l inode found is_none none = grind (arith, untouched, read_there, slice_get_within)
