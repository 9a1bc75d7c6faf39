-- The marks of records: a mark that is read is the one that was spelled, and what marks a frame's records have.
use Rattle.assise_record.proofs.Common.{◌≡◌, ℕ, ◌-◌, Bool, true, false, ◌==◌, List, [], ◌∷◌, ◌++◌, length, get_or, Option, Some, None, Result, Ok, refl, sym}
use Rattle.assise_record.proofs.Common.{ap, subst, ◌∙◌, arith, option_to_list, FrameFault, BadLength, BadValue, LogRecord, HasMarks, mark_spelling}
use Rattle.assise_record.proofs.Common.{record_spelling, body_of, ◌>>=◌, guard, is_mark, mark_at}
use Rattle.assise_record.proofs.Loop.{ok_is}
use Rattle.assise_record.proofs.FieldLaws.{IsBytes, Takes, Reads, seq_takes, guard_ok, byte_reads}

-- ---- one mark

-- the mark of a record with `left` records behind it
abbrev pub IsMark : Bool → ℕ → Option Bool → Type 0
IsMark false left mark = mark ≡ None
IsMark true left mark = (last : Bool) × (mark ≡ Some last) × (left ≡ 0 → last ≡ true)

last_ends : (left mark : ℕ) → is_mark left mark ≡ true → left ≡ 0 → (mark == 1) ≡ true
last_ends left mark e none = grind arith

spelled_as : (left mark : ℕ) → is_mark left mark ≡ true → mark_spelling (Some (mark == 1)) ≡ mark ∷ []
spelled_as left mark e = grind arith

mark_takes : (marked : Bool) (left : ℕ) (bytes : List ℕ) (x : Option Bool × List ℕ) → IsBytes bytes → mark_at marked left bytes ≡ Ok x →
    Takes bytes (mark_spelling x.0) x.1 × IsMark marked left x.0
unfolding mark_at
mark_takes false left bytes x fits e = grind arith
mark_takes true left bytes x fits e =
    let last = λ (mark : ℕ × List ℕ). let made : Result (Option Bool × List ℕ) FrameFault = Ok (Some (mark.0 == 1), mark.1) in made in
    let a = seq_takes (byte_reads BadLength) (λ mark. guard (is_mark left mark.0) BadValue >>= λ _. last mark) x bytes fits e in
    let g = guard_ok (is_mark left a.0.0) BadValue (λ _. last a.0) x a.3 in
    let spelled = subst (λ (t : List ℕ). Takes bytes t a.0.1) (sym (spelled_as left a.0.0 g.0)) a.1 in
    subst (λ (y : Option Bool × List ℕ). Takes bytes (mark_spelling y.0) y.1 × IsMark true left y.0) (ok_is (Some (a.0.0 == 1), a.0.1) x g.1)
    (spelled, (a.0.0 == 1, refl, last_ends left a.0.0 g.0))

mark_again : (marked : Bool) (left : ℕ) (mark : Option Bool) (rest : List ℕ) → IsMark marked left mark → mark_at marked left (mark_spelling mark ++ rest)
    ≡ Ok (mark, rest)
unfolding mark_at
mark_again false left None rest h = refl
mark_again false left (Some last) rest h = absurd cc
mark_again true left None rest h = let e = h.1 in absurd cc
mark_again true left (Some true) rest h = refl
mark_again true left (Some false) rest h = grind arith

pub mark_reads : (marked : Bool) (left : ℕ) → Reads (mark_at marked left) mark_spelling (IsMark marked left)
mark_reads marked left = record { takes = mark_takes marked left; again = mark_again marked left }

-- whatever the bytes are
pub mark_is : (marked : Bool) (left : ℕ) (bytes : List ℕ) (x : Option Bool × List ℕ) → mark_at marked left bytes ≡ Ok x → IsMark marked left x.0
unfolding mark_at
mark_is false left bytes x e = ap (λ (y : Option Bool × List ℕ). y.0) (sym (ok_is (None, bytes) x e))
mark_is true left bytes x e = grind arith

-- ---- the marks of records

pub no_marks : (marked : Bool) → HasMarks marked [] []
no_marks false = refl
no_marks true = (refl, refl)

last_of_more : (b : Bool) (rs : List LogRecord) (last : List Bool) → (length rs ≡ 0 → b ≡ true) → length last ≡ length rs → get_or last (length rs - 1) true
    ≡ true
    → get_or (b ∷ last) (length rs) true ≡ true
last_of_more b [] last one len h = one refl
last_of_more b (r ∷ rs) last one len h = ap (λ (n : ℕ). get_or last n true) (omega arith) ∙ h

-- one more in front
pub marks_more : (marked : Bool) (r : LogRecord) (rs : List LogRecord) (mark : Option Bool) (last : List Bool) → IsMark marked (length rs) mark →
    HasMarks marked rs last
    → HasMarks marked (r ∷ rs) (option_to_list mark ++ last)
marks_more false r rs mark last is h = rw (is, h) refl
marks_more true r rs mark last is h = grind arith

pub body_more : (marked : Bool) (r : LogRecord) (rs : List LogRecord) (mark : Option Bool) (last : List Bool) → IsMark marked (length rs) mark →
    HasMarks marked rs last
    → body_of (r ∷ rs) (option_to_list mark ++ last) ≡ record_spelling mark r ++ body_of rs last
body_more false r rs mark last is h = rw (is, h) refl
body_more true r rs mark last is h = rw is.1 refl

-- the first record's mark, and the others
pub record Parts (marked : Bool) (r : LogRecord) (rs : List LogRecord) (last : List Bool) : Type 0 where
  pub mark : Option Bool
  pub others : List Bool
  pub parts : option_to_list mark ++ others ≡ last
  pub is : IsMark marked (length rs) mark
  pub marks : HasMarks marked rs others

less_of_more : (b : Bool) (rs : List LogRecord) (last : List Bool) → length last ≡ length rs → get_or (b ∷ last) (length rs) true ≡ true →
    get_or last (length rs - 1) true ≡ true
less_of_more b [] [] len h = refl
less_of_more b [] (m ∷ last) len h = absurd (omega (arith, len))
less_of_more b (r ∷ rs) last len h = ap (λ (n : ℕ). get_or last n true) (omega arith) ∙ h

only_one : (b : Bool) (rs : List LogRecord) (last : List Bool) → get_or (b ∷ last) (length rs) true ≡ true → length rs ≡ 0 → b ≡ true
only_one b [] last h none = h
only_one b (r ∷ rs) last h none = absurd (omega (arith, none))

pub parts_of : (marked : Bool) (r : LogRecord) (rs : List LogRecord) (last : List Bool) → HasMarks marked (r ∷ rs) last → Parts marked r rs last
parts_of false r rs last h = record { mark = None; others = []; parts = sym h; is = refl; marks = refl }
parts_of true r rs [] h = absurd (omega (arith, h.0))
parts_of true r rs (b ∷ last) h =
    let len : length last ≡ length rs = omega (arith, h.0) in
    let at_end : get_or (b ∷ last) (length rs) true ≡ true = ap (λ (n : ℕ). get_or (b ∷ last) n true) (omega arith) ∙ h.1 in
    record { mark = Some b; others = last; parts = refl; is = (b, refl, only_one b rs last at_end); marks = (len, less_of_more b rs last len at_end) }
