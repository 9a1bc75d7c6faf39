-- What stands behind a reading is the end of the bytes, and the bytes of a write stand right before it.
use Rattle.assise_record.proofs.Common.{◌≡◌, ℕ, ◌+◌, ◌-◌, Bool, List, [], ◌∷◌, ◌++◌, length, drop, slice_range, Ok, refl, ap, ◌∙◌, append_assoc, arith, Err}
use Rattle.assise_record.proofs.Common.{Option, Result, take_at, drop_at, big_bytes, effect_spelling, mark_spelling, Header, Exactly, IsRest, byte_at}
use Rattle.assise_record.proofs.Common.{effect_at, fields_at, header_at, mark_at, number_at, EndsAt, effect_of, FrameFault, BadLength}
use Rattle.std.proofs.Common.{IfOk}
use Rattle.std.proofs.lemmas.List.{length-append}
use Rattle.assise_record.specs.declared.effects.EffectView.{EffectView}
use Rattle.assise_record.specs.declared.effects.EffectView.TheVariants.{NewFile, NewDir, Write, SetLen, Link, Unlink, Free}
use Rattle.assise_record.proofs.EffectLaws.{effect_reads}
use Rattle.assise_record.proofs.FieldLaws.{IsBytes, Takes-then, byte_reads, u64_reads}
use Rattle.assise_record.proofs.FrameLaws.{header_takes}
use Rattle.assise_record.proofs.Marks.{mark_reads}

pub behind : (bytes text rest : List ℕ) → bytes ≡ text ++ rest → IsRest bytes rest
behind bytes text rest is = grind (arith, length-append, drop_at)

pub behind_effect : (bytes rest : List ℕ) (view : EffectView) → IsBytes bytes → effect_at bytes ≡ Ok (effect_of view, rest) → IsRest bytes rest
behind_effect bytes rest view fits read =
    behind bytes (effect_spelling (effect_of view)) rest (effect_reads.takes bytes (effect_of view, rest) fits read).0.parts

-- behind the call, the mark and the count of effects of a record
pub behind_head : (marked : Bool) (left : ℕ) (bytes first second rest : List ℕ) (call count : ℕ) (mark : Option Bool) → IsBytes bytes →
    number_at 8 BadLength bytes ≡ Ok (call, first)
    → mark_at marked left first ≡ Ok (mark, second) → byte_at BadLength second ≡ Ok (count, rest) → IsRest bytes rest
behind_head marked left bytes first second rest call count mark fits read_call read_mark read_count =
    let a = ((u64_reads BadLength).takes bytes (call, first) fits read_call).0 in
    let b = ((mark_reads marked left).takes first (mark, second) a.rest_fits read_mark).0 in
    let c = ((byte_reads BadLength).takes second (count, rest) b.rest_fits read_count).0 in
    let last = Takes-then first (mark_spelling mark) second (count ∷ []) rest b c in
    let whole = Takes-then bytes (big_bytes 8 call) first (mark_spelling mark ++ (count ∷ [])) rest a last in
    behind bytes (big_bytes 8 call ++ (mark_spelling mark ++ (count ∷ []))) rest whole.parts

-- what stands in the middle
middle : (a b c : List ℕ) → slice_range (a ++ (b ++ c)) (length a) (length a + length b) ≡ b
middle a b c = grind (arith, drop_at, take_at)

-- the bytes of a write end where what stands behind it begins
pub ends_there : (bytes rest : List ℕ) (view : EffectView) → IsBytes bytes → effect_at bytes ≡ Ok (effect_of view, rest) →
    EndsAt view bytes (length bytes - length rest)
ends_there bytes rest (NewFile inode) fits read = tt
ends_there bytes rest (NewDir inode) fits read = tt
ends_there bytes rest (SetLen inode size) fits read = tt
ends_there bytes rest (Link directory name inode) fits read = tt
ends_there bytes rest (Unlink directory name) fits read = tt
ends_there bytes rest (Free inode) fits read = tt
ends_there bytes rest (Write inode offset payload) fits read =
    let took = (effect_reads.takes bytes (effect_of (Write inode offset payload), rest) fits read).0.parts in
    let a = big_bytes 8 inode in
    let b = big_bytes 4 offset in
    let c = big_bytes 4 (length payload.now) in
    let head : List ℕ = 3 ∷ (a ++ (b ++ c)) in
    let text : effect_spelling (effect_of (Write inode offset payload)) ≡ head ++ payload.now =
    grind arith in
    let whole : bytes ≡ head ++ (payload.now ++ rest) = took ∙ ap (λ (t : List ℕ). t ++ rest) text ∙ append_assoc head payload.now rest in
    let long : length bytes ≡ length head + (length payload.now + length rest) =
    grind (arith, length-append) in
    let begins : (length bytes - length rest) - length payload.now ≡ length head = omega (arith, long) in
    let ends : length bytes - length rest ≡ length head + length payload.now = omega (arith, long) in (
    grind (arith, middle head payload.now rest)
    )

-- behind a header
pub behind_header : (newest : ℕ) (bytes : List ℕ) (h : Header) (rest : List ℕ) → IsBytes bytes → header_at newest bytes ≡ Ok (h, rest) → drop 29 bytes ≡ rest
behind_header newest bytes h rest fits read = grind (arith, header_takes newest bytes (h, rest) fits read)

-- ---- as the reader of effects answers

abbrev Views : Type 0 → Type 0
Views S = Result (EffectView × S) FrameFault

pub effect_is : (bytes rest : List ℕ) (tag : ℕ) → byte_at BadLength bytes ≡ Ok (tag, rest) → effect_at bytes ≡ fields_at tag rest
unfolding effect_at
effect_is bytes rest tag read = rw read refl

module _ {S : Type 0} (now : S → List ℕ) (bytes : List ℕ) (fits : IsBytes bytes) where
  pub rest_behind : (r : Views S) → Exactly (λ x. (effect_of x.0, now x.1)) r (effect_at bytes) → IfOk r (λ x. IsRest bytes (now x.1))
  rest_behind (Ok x) read = behind_effect bytes (now x.1) x.0 fits read
  rest_behind (Err fault) read = tt

  pub ends_behind : (r : Views S) → Exactly (λ x. (effect_of x.0, now x.1)) r (effect_at bytes) →
      IfOk r (λ x. EndsAt x.0 bytes (length bytes - length (now x.1)))
  ends_behind (Ok x) read = ends_there bytes (now x.1) x.0 fits read
  ends_behind (Err fault) read = tt
