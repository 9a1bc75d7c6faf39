-- Records that are read are the records that were spelled, and what is spelled is read again.
use Rattle.assise_record.proofs.Common.{◌≡◌, ℕ, zero, suc, Bool, true, false, ◌&&◌, ◌==◌, nat_lt, nat_le, List, [], ◌∷◌, ◌++◌, length, Option, Result, Ok, refl}
use Rattle.assise_record.proofs.Common.{sym, ap, subst, ◌∙◌, append_assoc, arith, option_to_list, flat_map, AllByRecursion, ltb-true, leb-true, eqb-true}
use Rattle.assise_record.proofs.Common.{and_parts, nil_from_length, flat_map-cons, big_bytes, Effect, FrameFault, BadLength, BadValue, LogRecord, HasMarks}
use Rattle.assise_record.proofs.Common.{IsLogRecord, effect_spelling, mark_spelling, record_spelling, body_of, ◌>>=◌, guard, Read, byte_at, many_at, effect_at}
use Rattle.assise_record.proofs.Common.{mark_at, read_record, records_at, body_at}
use Rattle.std.proofs.lemmas.List.{append-nil}
use Rattle.assise_record.proofs.Loop.{bind_ok, ok_is}
use Rattle.assise_record.proofs.FieldLaws.{IsBytes, Takes, Takes-then, Reads, seq_takes, guard_ok, byte_reads, u64_reads}
use Rattle.assise_record.proofs.Marks.{IsMark, mark_is, mark_reads, marks_more, body_more, parts_of}
use Rattle.assise_record.proofs.EffectLaws.{effect_reads}

-- ---- several readings, one behind the other

abbrev pub TakesMany : {A : Type 0} → (A → List ℕ) → (A → Type 0) → ℕ → List ℕ → List A × List ℕ → Type 0
TakesMany spell Fits n bytes x = Takes bytes (flat_map spell x.0) x.1 × (length x.0 ≡ n) × AllByRecursion Fits x.0

pub many_take : {A : Type 0} {read : List ℕ → Read A} {spell : A → List ℕ} {Fits : A → Type 0} (reads : Reads read spell Fits) (n : ℕ) (bytes : List ℕ)
    (x : List A × List ℕ)
    → IsBytes bytes → many_at read n bytes ≡ Ok x → TakesMany spell Fits n bytes x
unfolding many_at
many_take {A} {read} {spell} {Fits} reads zero bytes x fits e = grind arith
many_take {A} {read} {spell} {Fits} reads (suc n) bytes x fits e =
    let a = seq_takes reads (λ first. many_at read n first.1 >>= λ others. Ok (first.0 ∷ others.0, others.1)) x bytes fits e in
    let b = bind_ok (many_at read n a.0.1) (λ others. Ok (a.0.0 ∷ others.0, others.1)) x a.3 in
    let second = many_take reads n a.0.1 b.0 a.1.rest_fits b.1 in
    let both = Takes-then bytes (spell a.0.0) a.0.1 (flat_map spell b.0.0) b.0.1 a.1 second.0 in
    let made : List A × List ℕ = (a.0.0 ∷ b.0.0, b.0.1) in
    subst (TakesMany spell Fits (suc n) bytes) (ok_is made x b.2) (rw flat_map-cons both, ap suc second.1, (a.2, second.2))

pub many_again : {A : Type 0} {read : List ℕ → Read A} {spell : A → List ℕ} {Fits : A → Type 0} (reads : Reads read spell Fits) (xs : List A) (rest : List ℕ)
    → AllByRecursion Fits xs → many_at read (length xs) (flat_map spell xs ++ rest) ≡ Ok (xs, rest)
unfolding many_at
many_again reads [] rest fits = refl
many_again {A} {read} {spell} reads (x ∷ xs) rest fits = grind (arith, many_again reads xs rest fits.1, append_assoc)

-- ---- one record

abbrev pub Marked : Type 0
Marked = LogRecord × Option Bool

abbrev pub marked_spelling : Marked → List ℕ
marked_spelling x = record_spelling x.1 x.0

abbrev pub IsMarked : Bool → ℕ → Marked → Type 0
IsMarked marked left x = IsLogRecord x.0 × IsMark marked left x.1

record_takes : (marked : Bool) (left : ℕ) (bytes : List ℕ) (x : Marked × List ℕ) → IsBytes bytes → read_record marked left bytes ≡ Ok x →
    Takes bytes (marked_spelling x.0) x.1 × IsMarked marked left x.0
unfolding read_record
record_takes marked left bytes x fits e =
    let last = λ (call : ℕ) (mark : Option Bool) (p : List Effect × List ℕ). let made : Result (Marked × List ℕ) FrameFault =
    Ok ((record { call = call; effects = p.0 }, mark), p.1) in made in
    let behind = λ (call : ℕ) (mark : Option Bool) (count : ℕ × List ℕ). guard (nat_lt 0 count.0 && nat_le count.0 4) BadValue >>= λ _. many_at effect_at
    count.0 count.1 >>= last call mark in
    let a = seq_takes (u64_reads BadLength) (λ call. mark_at marked left call.1 >>= λ mark. byte_at BadLength mark.1 >>= behind call.0 mark.0) x bytes fits e in
    let m = seq_takes (mark_reads marked left) (λ mark. byte_at BadLength mark.1 >>= behind a.0.0 mark.0) x a.0.1 a.1.rest_fits a.3 in
    let b = seq_takes (byte_reads BadLength) (behind a.0.0 m.0.0) x m.0.1 m.1.rest_fits m.3 in
    let g = guard_ok (nat_lt 0 b.0.0 && nat_le b.0.0 4) BadValue (λ _. many_at effect_at b.0.0 b.0.1 >>= last a.0.0 m.0.0) x b.3 in
    let d = bind_ok (many_at effect_at b.0.0 b.0.1) (last a.0.0 m.0.0) x g.1 in
    let t = many_take effect_reads b.0.0 b.0.1 d.0 b.1.rest_fits d.1 in
    let range = and_parts (nat_lt 0 b.0.0) (nat_le b.0.0 4) g.0 in
    let some = ltb-true 0 b.0.0 range.0 in
    let few = leb-true b.0.0 4 range.1 in
    let count : Takes m.0.1 (length d.0.0 ∷ []) b.0.1 = subst (λ (n : ℕ). Takes m.0.1 (n ∷ []) b.0.1) (sym t.1) b.1 in
    let third = Takes-then m.0.1 (length d.0.0 ∷ []) b.0.1 (flat_map effect_spelling d.0.0) d.0.1 count t.0 in
    let second = Takes-then a.0.1 (mark_spelling m.0.0) m.0.1 (length d.0.0 ∷ flat_map effect_spelling d.0.0) d.0.1 m.1 third in
    let whole = Takes-then bytes (big_bytes 8 a.0.0) a.0.1 (mark_spelling m.0.0 ++ (length d.0.0 ∷ flat_map effect_spelling d.0.0)) d.0.1 a.1 second in
    subst (λ (y : Marked × List ℕ). Takes bytes (marked_spelling y.0) y.1 × IsMarked marked left y.0)
    (ok_is ((record { call = a.0.0; effects = d.0.0 }, m.0.0), d.0.1) x d.2)
    (whole, (record { call = a.2; some = omega (arith, some, t.1); few = omega (arith, few, t.1); effects = t.2 }, m.2))

record_again : (marked : Bool) (left : ℕ) (x : Marked) (rest : List ℕ) → IsMarked marked left x → read_record marked left (marked_spelling x ++ rest)
    ≡ Ok (x, rest)
unfolding read_record
record_again marked left x rest h = grind (arith, append_assoc, mark_reads, many_again, effect_reads)

pub record_reads : (marked : Bool) (left : ℕ) → Reads (read_record marked left) marked_spelling (IsMarked marked left)
record_reads marked left = record { takes = record_takes marked left; again = record_again marked left }

-- ---- records and their marks

abbrev pub Records : Type 0
Records = List LogRecord × List Bool

-- what was taken of the bytes, and what is known of it
pub record TakesRecords (marked : Bool) (n : ℕ) (bytes : List ℕ) (x : Records × List ℕ) : Type 0 where
  pub taken : Takes bytes (body_of x.0.0 x.0.1) x.1
  pub counted : length x.0.0 ≡ n
  pub marks : HasMarks marked x.0.0 x.0.1
  pub lawful : AllByRecursion IsLogRecord x.0.0

records_take : (marked : Bool) (n : ℕ) (bytes : List ℕ) (x : Records × List ℕ) → IsBytes bytes → records_at marked n bytes ≡ Ok x →
    TakesRecords marked n bytes x
unfolding records_at
records_take marked zero bytes x fits e = grind arith
records_take marked (suc n) bytes x fits e =
    let last = λ (first : Marked) (others : Records × List ℕ). let made : Result (Records × List ℕ) FrameFault =
    Ok ((first.0 ∷ others.0.0, option_to_list first.1 ++ others.0.1), others.1) in made in
    let a = seq_takes (record_reads marked n) (λ first. records_at marked n first.1 >>= last first.0) x bytes fits e in
    let b = bind_ok (records_at marked n a.0.1) (last a.0.0) x a.3 in
    let t = records_take marked n a.0.1 b.0 a.1.rest_fits b.1 in
    let mark : IsMark marked (length b.0.0.0) a.0.0.1 = subst (λ (k : ℕ). IsMark marked k a.0.0.1) (sym t.counted) a.2.1 in
    let both = Takes-then bytes (marked_spelling a.0.0) a.0.1 (body_of b.0.0.0 b.0.0.1) b.0.1 a.1 t.taken in
    let spelled = sym (body_more marked a.0.0.0 b.0.0.0 a.0.0.1 b.0.0.1 mark t.marks) in
    let made : Records × List ℕ = ((a.0.0.0 ∷ b.0.0.0, option_to_list a.0.0.1 ++ b.0.0.1), b.0.1) in
    subst (TakesRecords marked (suc n) bytes) (ok_is made x b.2)
    (grind arith)

records_again : (marked : Bool) (rs : List LogRecord) (last : List Bool) (rest : List ℕ) → HasMarks marked rs last → AllByRecursion IsLogRecord rs
    → records_at marked (length rs) (body_of rs last ++ rest) ≡ Ok ((rs, last), rest)
unfolding records_at
records_again false [] last rest h fits = rw h refl
records_again true [] [] rest h fits = refl
records_again true [] (m ∷ last) rest h fits = absurd (omega (arith, h.0))
records_again marked (r ∷ rs) last rest h fits =
    let p = parts_of marked r rs last h in
    let spelled : body_of (r ∷ rs) last ≡ record_spelling p.mark r ++ body_of rs p.others = grind arith in
    let regrouped : body_of (r ∷ rs) last ++ rest ≡ record_spelling p.mark r ++ (body_of rs p.others ++ rest) =
    grind (arith, append_assoc) in
    let first = (record_reads marked (length rs)).again (r, p.mark) (body_of rs p.others ++ rest) (fits.0, p.is) in
    let others = records_again marked rs p.others rest p.marks fits.1 in
    ap (records_at marked (suc (length rs))) regrouped ∙ rw (first, others) (ap (λ (t : List Bool). Ok ((r ∷ rs, t), rest)) p.parts)

-- whatever the bytes are
record_is : (marked : Bool) (left : ℕ) (bytes : List ℕ) (x : Marked × List ℕ) → read_record marked left bytes ≡ Ok x → IsMark marked left x.0.1
unfolding read_record
record_is marked left bytes x e = grind (arith, mark_is)

pub records_are : (marked : Bool) (n : ℕ) (bytes : List ℕ) (x : Records × List ℕ) → records_at marked n bytes ≡ Ok x →
    (length x.0.0 ≡ n) × HasMarks marked x.0.0 x.0.1
unfolding records_at
records_are marked zero bytes x e = grind arith
records_are marked (suc n) bytes x e =
    let last = λ (first : Marked) (others : Records × List ℕ). let made : Result (Records × List ℕ) FrameFault =
    Ok ((first.0 ∷ others.0.0, option_to_list first.1 ++ others.0.1), others.1) in made in
    let a = bind_ok (read_record marked n bytes) (λ first. records_at marked n first.1 >>= last first.0) x e in
    let b = bind_ok (records_at marked n a.0.1) (last a.0.0) x a.2 in
    let t = records_are marked n a.0.1 b.0 b.1 in
    let mark : IsMark marked (length b.0.0.0) a.0.0.1 = subst (λ (k : ℕ). IsMark marked k a.0.0.1) (sym t.0) (record_is marked n bytes a.0 a.1) in
    let made : Records × List ℕ = ((a.0.0.0 ∷ b.0.0.0, option_to_list a.0.0.1 ++ b.0.0.1), b.0.1) in
    subst (λ (y : Records × List ℕ). (length y.0.0 ≡ suc n) × HasMarks marked y.0.0 y.0.1) (ok_is made x b.2)
    (ap suc t.0, marks_more marked a.0.0.0 b.0.0.0 a.0.0.1 b.0.0.1 mark t.1)

-- ---- bodies

-- bytes are the records, and what is known of these
pub record IsBody (marked : Bool) (count : ℕ) (body : List ℕ) (x : Records) : Type 0 where
  pub spelled : body ≡ body_of x.0 x.1
  pub counted : length x.0 ≡ count
  pub marks : HasMarks marked x.0 x.1
  pub lawful : AllByRecursion IsLogRecord x.0

pub body_takes : (marked : Bool) (count : ℕ) (body : List ℕ) (records : Records) → IsBytes body → body_at marked count body ≡ Ok records →
    IsBody marked count body records
unfolding body_at
body_takes marked count body records fits e =
    let a = bind_ok (records_at marked count body) (λ x. guard (length x.1 == 0) BadLength >>= λ _. Ok x.0) records e in
    let g = guard_ok (length a.0.1 == 0) BadLength (λ _. Ok a.0.0) records a.2 in
    let t = records_take marked count body a.0 fits a.1 in
    let nothing : a.0.1 ≡ [] = nil_from_length a.0.1 (eqb-true _ _ g.0) in
    let text : List ℕ = body_of a.0.0.0 a.0.0.1 in
    let whole : body ≡ text = t.taken.parts ∙ ap (λ (rest : List ℕ). text ++ rest) nothing ∙ append-nil text in
    subst (IsBody marked count body) (ok_is a.0.0 records g.1) (record { spelled = whole; counted = t.counted; marks = t.marks; lawful = t.lawful })

pub body_again : (marked : Bool) (records : List LogRecord) (last : List Bool) → HasMarks marked records last → AllByRecursion IsLogRecord records
    → body_at marked (length records) (body_of records last) ≡ Ok (records, last)
unfolding body_at
body_again marked records last marks h = grind (arith, append-nil (body_of records last), records_again marked records last)
