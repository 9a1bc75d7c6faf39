-- Vectors that grow within the room that they have.
use Rattle.assise_record.proofs.Common.{◌≡◌, ℕ, zero, suc, ◌+◌, ◌≤◌, ◌<◌, Bool, List, [], ◌∷◌, ◌++◌, length, get_or, take, Option, Some, None, ltb, refl, sym}
use Rattle.assise_record.proofs.Common.{ap, subst, ◌∙◌, append_assoc, append-nil, arith, length-append, Bor, IfSome, is_some, slice_get, slice_index_or}
use Rattle.assise_record.proofs.Common.{option_copied, ltb-false, ltb-true, flat_map, AllByRecursion, big_bytes, LogRecord, LogFrame, Appends, IsLogRecord}
use Rattle.assise_record.proofs.Common.{record_spelling, body_of, header_of}
use Rattle.std.proofs.lemmas.Option.{slice_get_past, slice_get_read}
use Rattle.std.specs.Global.{Vec}
use Rattle.std.proofs.lemmas.List.Folds.{length-flat_map-take}

pub Appends-then : (a b c : Vec ℕ) (x y : List ℕ) → Appends a b x → Appends b c y → Appends a c (x ++ y)
Appends-then a b c x y p q = grind (arith, append_assoc, length-append)

-- an item has no more bytes than what is left
pub item_fits : {A : Type 0} (spell : A → List ℕ) (xs : List A) (i : ℕ) (x : A) → i < length xs → x ≡ get_or xs i x
    → length (flat_map spell (take i xs)) + length (spell x) ≤ length (flat_map spell xs)
item_fits {A} spell xs i x lt is = grind (arith, length-flat_map-take)

-- the header of a frame, from the numbers that the frame gave
pub header_is : (f : LogFrame) (epoch client first count size : ℕ) → epoch ≡ f.epoch → client ≡ f.client → first ≡ f.first → count ≡ length f.records
    → big_bytes 8 epoch ++ (big_bytes 4 client ++ (big_bytes 8 first ++ (big_bytes 2 count ++ big_bytes 4 size))) ≡ header_of f size
header_is f epoch client first count size a b c d = cc

-- ---- records with their marks

take_none : (n : ℕ) → take {A = Bool} n [] ≡ []
take_none zero = refl
take_none (suc n) = refl

-- one more record
pub body_then : (records : List LogRecord) (last : List Bool) (i : ℕ) (r : LogRecord) → i < length records → r ≡ get_or records i r
    → body_of (take (suc i) records) (take (suc i) last) ≡ body_of (take i records) (take i last) ++ record_spelling (slice_get last i) r
body_then [] last i r lt is = absurd (omega (arith, lt))
body_then (s ∷ rs) [] zero r lt is = rw (sym is) (append-nil (record_spelling None r))
body_then (s ∷ rs) (m ∷ last) zero r lt is = rw (sym is) (append-nil (record_spelling (Some m) r))
body_then (s ∷ rs) [] (suc i) r lt is =
    let others : body_of (take (suc i) rs) [] ≡ body_of (take i rs) [] ++ record_spelling None r =
    subst (λ (t : List Bool). body_of (take (suc i) rs) [] ≡ body_of (take i rs) t ++ record_spelling None r) (take_none i)
    (body_then rs [] i r (omega (arith, lt)) is) in
    ap (λ (t : List ℕ). record_spelling None s ++ t) others ∙ sym (append_assoc (record_spelling None s) (body_of (take i rs) []) (record_spelling None r))
body_then (s ∷ rs) (m ∷ last) (suc i) r lt is = grind (arith, body_then rs last i r (omega (arith, lt)) is, append_assoc)

-- no more bytes than the whole
pub prefix_fits : (records : List LogRecord) (last : List Bool) (i : ℕ) → length (body_of (take i records) (take i last)) ≤ length (body_of records last)
prefix_fits [] last zero = omega arith
prefix_fits [] last (suc i) = omega arith
prefix_fits (s ∷ rs) [] zero = omega arith
prefix_fits (s ∷ rs) (m ∷ last) zero = omega arith
prefix_fits (s ∷ rs) [] (suc i) = grind (
  arith,
  prefix_fits rs,
  take_none i,
  length-append (record_spelling None s) (body_of (take i rs) []),
  length-append (record_spelling None s)
      (body_of rs []),
)
prefix_fits (s ∷ rs) (m ∷ last) (suc i) = grind (arith, prefix_fits rs last i, length-append)

-- a record has no more bytes than what is left
pub record_fits : (records : List LogRecord) (last : List Bool) (i : ℕ) (r : LogRecord) → i < length records → r ≡ get_or records i r
    → length (body_of (take i records) (take i last)) + length (record_spelling (slice_get last i) r) ≤ length (body_of records last)
record_fits records last i r lt is = grind (
  arith,
  prefix_fits records last (suc i),
  body_then records last i r lt is,
  length-append (body_of (take i records) (take i last))
      (record_spelling (slice_get last i) r),
)

-- all records
pub body_all : (records : List LogRecord) (last : List Bool) (i : ℕ) → length records ≤ i → body_of (take i records) (take i last) ≡ body_of records last
body_all [] last zero le = refl
body_all [] last (suc i) le = refl
body_all (r ∷ rs) last zero le = absurd (omega (arith, le))
body_all (r ∷ rs) [] (suc i) le = grind (arith, body_all rs, take_none i)
body_all (r ∷ rs) (m ∷ last) (suc i) le = ap (λ (t : List ℕ). record_spelling (Some m) r ++ t) (body_all rs last i (omega (arith, le)))

pub lawful_then : (records : List LogRecord) (i : ℕ) (r : LogRecord) → i < length records → r ≡ get_or records i r
    → AllByRecursion IsLogRecord (take i records) → IsLogRecord r → AllByRecursion IsLogRecord (take (suc i) records)
lawful_then [] i r lt is before one = absurd (omega (arith, lt))
lawful_then (s ∷ rs) zero r lt is before one = (subst IsLogRecord is one, tt)
lawful_then (s ∷ rs) (suc i) r lt is before one = (before.0, lawful_then rs i r (omega (arith, lt)) is before.1 one)

-- the mark that is looked up
pub mark_is : (last : List Bool) (i : ℕ) (found : Option (Bor Bool)) → is_some found ≡ ltb i (length last) →
    IfSome found (λ x. x.now ≡ slice_index_or last i x.now)
    → option_copied found ≡ slice_get last i
mark_is last i None there at = sym (slice_get_past last i (ltb-false i (length last) (sym there)))
mark_is last i (Some x) there at = sym (slice_get_read last (length last) i x.now refl (ltb-true i (length last) (sym there)) at)
