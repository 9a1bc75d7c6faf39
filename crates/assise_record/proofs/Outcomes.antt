-- What the outcome of a reading says of the bytes.
use Rattle.assise_record.proofs.Common.{◌≡◌, ℕ, ◌≤◌, List, Result, Ok, Err, refl, sym, ap, ◌∙◌, inl, inr, ◌⊎◌, IfOk, IfErr, FrameFault, Short, BadMagic}
use Rattle.assise_record.proofs.Common.{BadVersion, BadTag, BadLength, BadValue, Memory, LogFrame, BeginsWith, FailsReading, GivesFrame, frame_at, arith}
use Rattle.assise_record.proofs.FieldLaws.{IsBytes}
use Rattle.assise_record.proofs.FrameLaws.{frame_takes, begins_again}
use Rattle.assise_record.proofs.Never.{frame_always}

abbrev Outcome : Type 0
Outcome = Result (LogFrame × ℕ) FrameFault

abbrev fails_with : FrameFault → Outcome
fails_with fault = Err fault

-- memory ran out, or this is the fault
memory_or : (fault : FrameFault) (read : Outcome) → FailsReading fault read → (fault ≡ Memory) ⊎ (read ≡ Err fault)
memory_or Memory read h = inl refl
memory_or Short read h = inr h
memory_or BadMagic read h = inr h
memory_or BadVersion read h = inr h
memory_or BadTag read h = inr h
memory_or BadLength read h = inr h
memory_or BadValue read h = inr h

pub is_found : (newest : ℕ) (bytes : List ℕ) (r : Outcome) → newest ≤ 2 → IsBytes bytes → GivesFrame (λ x. x) r (frame_at newest bytes) →
    IfOk r (λ x. BeginsWith newest bytes x.0 x.1)
is_found newest bytes (Ok x) known fits given = frame_takes newest bytes x known fits given
is_found newest bytes (Err fault) known fits given = tt

pub is_only : (newest : ℕ) (bytes : List ℕ) (r : Outcome) → GivesFrame (λ x. x) r (frame_at newest bytes) → (f : LogFrame) (n : ℕ) →
    BeginsWith newest bytes f n → (r ≡ Ok (f, n)) ⊎ (r ≡ Err Memory)
is_only newest bytes (Ok x) given f n h = inl (sym given ∙ begins_again newest bytes f n h)
is_only newest bytes (Err fault) given f n h = grind (arith, begins_again)

pub is_no_frame : (newest : ℕ) (bytes : List ℕ) (r : Outcome) → GivesFrame (λ x. x) r (frame_at newest bytes) →
    IfErr r (λ fault. (fault ≡ Memory) ⊎ ((f : LogFrame) (n : ℕ) → ¬ (BeginsWith newest bytes f n)))
is_no_frame newest bytes (Ok x) given = tt
is_no_frame newest bytes (Err fault) given = grind (arith, begins_again)

-- memory runs out only where there is a frame
pub is_there : (newest : ℕ) (bytes : List ℕ) (r : Outcome) → newest ≤ 2 → IsBytes bytes →
    ((fault : FrameFault) → frame_at newest bytes ≡ Err fault → r ≡ Err fault)
    → IfErr r (λ fault. fault ≡ Memory → (f : LogFrame) × ((n : ℕ) × BeginsWith newest bytes f n))
is_there newest bytes (Ok x) known fits faults = tt
is_there newest bytes (Err fault) known fits faults = λ memory. by_read (frame_at newest bytes) refl memory where
  by_read : (read : Outcome) → frame_at newest bytes ≡ read → fault ≡ Memory → (f : LogFrame) × ((n : ℕ) × BeginsWith newest bytes f n)
  by_read (Ok x) is memory = (x.0, (x.1, frame_takes newest bytes x known fits is))
  by_read (Err other) is memory =
      let same : fails_with fault ≡ fails_with other = faults other is in
      absurd (frame_always newest bytes (is ∙ sym same ∙ ap fails_with memory))
