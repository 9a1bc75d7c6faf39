-- More bytes change nothing but what is Short.
use Rattle.assise_record.proofs.Common.{◌≡◌, ℕ, ◌+◌, Bool, true, false, nat_lt, List, [], ◌∷◌, ◌++◌, length, Result, Ok, Err, refl, sym, ap, ◌∙◌, arith, take}
use Rattle.assise_record.proofs.Common.{drop, if◌then◌else◌, big_number, take-append-le, drop-append-le, Header, FrameFault, Short, BadValue, LogFrame}
use Rattle.assise_record.proofs.Common.{is_marked, ◌>>=◌, guard, Read, has_count, byte_at, bytes_at, number_at, body_at, version_at, numbers_at, header_at}
use Rattle.assise_record.proofs.Common.{read_frame, frame_at}
use Rattle.std.proofs.lemmas.List.{length-append}

abbrev short : (A : Type 0) → Result A FrameFault
short A = Err Short

abbrev done : {A : Type 0} → A → Result A FrameFault
done x = Ok x

-- the same value, with more bytes behind it
abbrev and_more : {A : Type 0} → Read A → List ℕ → Read A
and_more read more = read >>= λ x. Ok (x.0, x.1 ++ more)

-- what isn't Short is the same with more bytes
abbrev Stays : {A : Type 0} → (List ℕ → Read A) → Type 0
Stays {A} read = (bytes more : List ℕ) → ¬ (read bytes ≡ short (A × List ℕ)) → read (bytes ++ more) ≡ and_more (read bytes) more

byte_stays : Stays (byte_at Short)
byte_stays [] more h = absurd (h refl)
byte_stays (b ∷ bytes) more h = refl

-- a field of `n` bytes
field_stays : {A : Type 0} (n : ℕ) (value : List ℕ → A)
    → Stays (λ bytes. if nat_lt (length bytes) n then short (A × List ℕ) else done (value (take n bytes), drop n bytes))
field_stays n value bytes more h = grind (arith, length-append, take-append-le, drop-append-le)

bytes_stay : (n : ℕ) → Stays (bytes_at n Short)
bytes_stay n = field_stays n (λ taken. taken)

number_stays : (n : ℕ) → Stays (number_at n Short)
number_stays n = field_stays n (big_number n)

-- one reading behind the other
then_stays : {A B : Type 0} (read : List ℕ → Read A) (next : A → List ℕ → Read B) → Stays read → ((a : A) → Stays (next a)) →
    Stays (λ bytes. read bytes >>= λ x. next x.0 x.1)
then_stays {A} {B} read next first second bytes more h = by_outcome (read bytes) refl where
  by_outcome : (r : Read A) → read bytes ≡ r → (read (bytes ++ more) >>= λ x. next x.0 x.1) ≡ and_more (read bytes >>= λ x. next x.0 x.1) more
  by_outcome (Ok x) e =
      let shorter : ¬ (read bytes ≡ short (A × List ℕ)) = λ s. let bad : done x ≡ short (A × List ℕ) = sym e ∙ s in absurd cc in
      let longer : read (bytes ++ more) ≡ Ok (x.0, x.1 ++ more) = first bytes more shorter ∙ ap (λ r. and_more r more) e in
      let behind : ¬ (next x.0 x.1 ≡ short (B × List ℕ)) = λ s. h (ap (λ r. r >>= λ y. next y.0 y.1) e ∙ s) in
      ap (λ r. r >>= λ y. next y.0 y.1) longer ∙ second x.0 x.1 more behind ∙ ap (λ r. and_more (r >>= λ y. next y.0 y.1) more) (sym e)
  by_outcome (Err fault) e =
      let shorter : ¬ (read bytes ≡ short (A × List ℕ)) = λ s. h (ap (λ r. r >>= λ y. next y.0 y.1) s) in
      let longer : read (bytes ++ more) ≡ Err fault = first bytes more shorter ∙ ap (λ r. and_more r more) e in
      ap (λ r. r >>= λ y. next y.0 y.1) longer ∙ ap (λ r. and_more (r >>= λ y. next y.0 y.1) more) (sym e)

guard_stays : {A : Type 0} (b : Bool) (fault : FrameFault) (next : List ℕ → Read A) → Stays next → Stays (λ bytes. guard b fault >>= λ _. next bytes)
guard_stays true fault next h = h
guard_stays false fault next h = λ bytes more _. refl

value_stays : {A : Type 0} (x : A) → Stays (λ bytes. done (x, bytes))
value_stays x bytes more h = refl

version_stays : (newest : ℕ) → Stays (version_at newest)
unfolding version_at
version_stays newest = grind arith

numbers_stay : Stays numbers_at
unfolding numbers_at
numbers_stay =
    let count = λ (first n : ℕ). guard_stays (has_count first n) BadValue (λ bytes. done ((first, n), bytes)) (value_stays (first, n)) in
    then_stays (number_at 8 Short) _ (number_stays 8) (λ first. then_stays (number_at 2 Short) _ (number_stays 2) (count first))

header_stays : (newest : ℕ) → Stays (header_at newest)
unfolding header_at
header_stays newest =
    let size = λ (version epoch client : ℕ) (numbers : ℕ × ℕ) (n : ℕ).
    let made : Header = record { version = version; epoch = epoch; client = client; first = numbers.0; count = numbers.1; size = n } in value_stays made in
    let numbers = λ (version epoch client : ℕ). then_stays numbers_at _ numbers_stay
    (λ n. then_stays (number_at 4 Short) _ (number_stays 4) (size version epoch client n)) in
    let client = λ (version epoch n : ℕ). guard_stays (nat_lt 0 n) BadValue _ (numbers version epoch n) in
    let epoch = λ (version n : ℕ). then_stays (number_at 4 Short) _ (number_stays 4) (client version n) in
    then_stays (version_at newest) _ (version_stays newest) (λ version. then_stays (number_at 8 Short) _ (number_stays 8) (epoch version))

-- a value in front of the one that is read
abbrev both : {A B : Type 0} → A → Read B → Read (A × B)
both x read = read >>= λ y. Ok ((x, y.0), y.1)

-- the header and the body
abbrev parts_at : ℕ → List ℕ → Read (Header × List ℕ)
parts_at newest bytes = header_at newest bytes >>= λ head. both head.0 (bytes_at head.0.size Short head.1)

parts_stay : (newest : ℕ) → Stays (parts_at newest)
parts_stay newest = grind (arith, header_stays, bytes_stay)

abbrev finish : Header → List ℕ → Result (LogFrame × ℕ) FrameFault
finish h body = body_at (is_marked h.version) h.count body >>= λ records. Ok (read_frame h records, 29 + h.size)

one_step : {A B C : Type 0} (x : A) (s : Read B) (f : A → B → Result C FrameFault) → (both x s >>= λ z. f z.0.0 z.0.1) ≡ (s >>= λ y. f x y.0)
one_step x (Ok y) f = refl
one_step x (Err fault) f = refl

two_steps : {A B C : Type 0} (r : Read A) (s : A × List ℕ → Read B) (f : A → B → Result C FrameFault) → ((r >>= λ x. both x.0 (s x)) >>= λ z. f z.0.0 z.0.1)
    ≡ (r >>= λ x. s x >>= λ y. f x.0 y.0)
two_steps (Ok x) s f = one_step x.0 (s x) f
two_steps (Err fault) s f = refl

frame_is : (newest : ℕ) (bytes : List ℕ) → (parts_at newest bytes >>= λ z. finish z.0.0 z.0.1) ≡ frame_at newest bytes
unfolding frame_at
frame_is newest bytes = two_steps (header_at newest bytes) (λ head. bytes_at head.0.size Short head.1) finish

-- more bytes behind a frame, or behind a fault other than Short, change nothing
pub frame_stays : (newest : ℕ) (bytes more : List ℕ) → ¬ (frame_at newest bytes ≡ short (LogFrame × ℕ)) → frame_at newest (bytes ++ more)
    ≡ frame_at newest bytes
frame_stays newest bytes more h = sym (frame_is newest (bytes ++ more)) ∙ by_outcome (parts_at newest bytes) refl ∙ frame_is newest bytes where
  by_outcome : (r : Read (Header × List ℕ)) → parts_at newest bytes ≡ r → (parts_at newest (bytes ++ more) >>= λ z. finish z.0.0 z.0.1)
      ≡ (parts_at newest bytes >>= λ z. finish z.0.0 z.0.1)
  by_outcome (Ok x) e =
      let shorter : ¬ (parts_at newest bytes ≡ short ((Header × List ℕ) × List ℕ)) = grind arith in
      let longer : parts_at newest (bytes ++ more) ≡ Ok (x.0, x.1 ++ more) = parts_stay newest bytes more shorter ∙ ap (λ r. and_more r more) e in
      ap (λ r. r >>= λ z. finish z.0.0 z.0.1) longer ∙ ap (λ r. r >>= λ z. finish z.0.0 z.0.1) (sym e)
  by_outcome (Err fault) e =
      let shorter : ¬ (parts_at newest bytes ≡ short ((Header × List ℕ) × List ℕ)) =
      grind (arith, frame_is newest bytes) in
      let longer : parts_at newest (bytes ++ more) ≡ Err fault = parts_stay newest bytes more shorter ∙ ap (λ r. and_more r more) e in
      ap (λ r. r >>= λ z. finish z.0.0 z.0.1) longer ∙ ap (λ r. r >>= λ z. finish z.0.0 z.0.1) (sym e)
