-- Records that agree, number by number, with a log: each of them that the log hasn't let go is the log's record of its number.
use Rattle.assise_chain.proofs.Common.{◌≡◌, ℕ, zero, suc, ◌+◌, ◌-◌, ◌≤◌, Some, None, List, [], ◌∷◌, length, take, drop, ap, sym, ◌∙◌, refl, arith, inl, inr}
use Rattle.assise_chain.proofs.Common.{slice_get, length-take, cases_lt, LogRecord, LogFrame, NumberedLog, end, records_from, with_record, without_prefix}
use Rattle.assise_chain.proofs.Common.{accepted, records_past, first_sent, sent, IsPrefixOf}
use Rattle.std.proofs.lemmas.Option.{slice_get_within}
use Rattle.circular_buffer.proofs.Places.{slice_get-append_left, slice_get-append_right, slice_get-drop, slice_get-take}

-- ---- places

of_take : {X : Type 0} (n : ℕ) (xs : List X) (k : ℕ) (x : X) → slice_get (take n xs) k ≡ Some x → slice_get xs k ≡ Some x
of_take n xs k x is = grind (arith, slice_get_within, length-take, slice_get-take)

of_drop : {X : Type 0} (n : ℕ) (xs : List X) (k : ℕ) (x : X) → slice_get (drop n xs) k ≡ Some x → slice_get xs (n + k) ≡ Some x
of_drop n xs k x is = sym (slice_get-drop n xs k (n + k) refl) ∙ is

-- what has the items of another at its places is its prefix
prefix_of : {X : Type 0} (xs ys : List X) → ((k : ℕ) (x : X) → slice_get xs k ≡ Some x → slice_get ys k ≡ Some x) → xs ≡ take (length xs) ys
prefix_of [] ys same = refl
prefix_of (x ∷ xs) [] same = let none : None ≡ Some x = same zero x refl in cc
prefix_of (x ∷ xs) (y ∷ ys) same =
    let first : Some y ≡ Some x = same zero x refl in
    let is : x ≡ y = cc in
    ap (λ z. z ∷ xs) is ∙ ap (λ l. y ∷ l) (prefix_of xs ys (λ k z s. same (suc k) z s))

-- ---- numbers

-- records from a number on agree with a log
pub record IsPart (first : ℕ) (rs : List LogRecord) (whole : NumberedLog) : Type 0 where
  pub agrees : (k : ℕ) (r : LogRecord) → slice_get rs k ≡ Some r → whole.first ≤ first + k → slice_get whole.records (first + k - whole.first) ≡ Some r

-- a log agrees with itself
pub whole_part : (l : NumberedLog) → IsPart l.first l.records l
whole_part l = record { agrees = λ k r is from. let place : l.first + k - l.first ≡ k = omega arith in ap (slice_get l.records) place ∙ is }

-- a prefix agrees
pub prefix_part : (l whole : NumberedLog) → IsPrefixOf l whole → IsPart l.first l.records whole
prefix_part l whole prefix = grind (arith, of_take)

-- and what agrees and begins with the log is a prefix
pub part_prefix : (l whole : NumberedLog) → l.first ≡ whole.first → IsPart l.first l.records whole → IsPrefixOf l whole
part_prefix l whole first part = grind (arith, prefix_of)

-- with one record more in the log
pub part_longer : (first : ℕ) (rs : List LogRecord) (whole : NumberedLog) (added : LogRecord) → IsPart first rs whole →
    IsPart first rs (with_record whole added)
part_longer first rs whole added part = grind (arith, slice_get-append_left, slice_get_within)

-- without the log's first records
pub part_shorter : (first to : ℕ) (rs : List LogRecord) (whole : NumberedLog) → whole.first ≤ to → IsPart first rs whole →
    IsPart first rs (without_prefix whole to)
part_shorter first to rs whole reached part = grind (arith, slice_get-drop)

-- without the first of the records themselves
pub part_behind : (l : NumberedLog) (to : ℕ) (whole : NumberedLog) → l.first ≤ to → IsPart l.first l.records whole → IsPart to (records_from l to) whole
part_behind l to whole reached part = grind (arith, of_drop)

-- what is sent agrees
pub part_sent : (l : NumberedLog) (from to : ℕ) (whole : NumberedLog) → IsPart l.first l.records whole → IsPart (first_sent l from) (sent l from to) whole
part_sent l from to whole part = grind (arith, of_take, of_drop)

-- what is taken in agrees
pub part_accepted : (l : NumberedLog) (f : LogFrame) (whole : NumberedLog) → f.first ≤ end l → IsPart l.first l.records whole → IsPart f.first f.records whole
    → IsPart l.first (accepted l f).records whole
part_accepted l f whole no_gap had came = record {
  agrees = λ k r is from. elim (cases_lt k (length l.records)) [
    | inl old ↦ had.agrees k r (sym (slice_get-append_left l.records (records_past l f) k old) ∙ is) from
    | inr past ↦
        let j : k ≡ length l.records + (k - length l.records) = omega arith in
        let one = of_drop (end l - f.first) f.records (k - length l.records) r
        (sym (slice_get-append_right l.records (records_past l f) k (k - length l.records) j) ∙ is) in
        let number : f.first + ((end l - f.first) + (k - length l.records)) ≡ l.first + k = omega arith in
        let there = came.agrees ((end l - f.first) + (k - length l.records)) r one (omega arith) in
        ap (λ n. slice_get whole.records (n - whole.first)) (sym number) ∙ there
  ];
}
