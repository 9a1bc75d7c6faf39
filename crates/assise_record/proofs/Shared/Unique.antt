-- Frames and their spellings are one to one, and a cut frame is Short.
use Rattle.assise_record.proofs.Common.{◌≡◌, ℕ, ◌<◌, ◌≤◌, List, [], ◌++◌, length, Result, Ok, Err, refl, sym, ap, ◌∙◌, arith, inl, inr, ◌⊎◌, All, get_or_past}
use Rattle.assise_record.proofs.Common.{nil_from_length, FrameFault, Short, BadMagic, BadVersion, BadTag, BadLength, BadValue, Memory, LogFrame, frame_at}
use Rattle.assise_record.proofs.Common.{BeginsWith, SpellsFrame}
use Rattle.std.proofs.lemmas.List.{append-nil, length-append}
use Rattle.assise_record.proofs.FieldLaws.{IsBytes}
use Rattle.assise_record.proofs.FrameLaws.{frame_again, frame_takes}
use Rattle.assise_record.proofs.Stays.{frame_stays}

abbrev Outcome : Type 0
Outcome = Result (LogFrame × ℕ) FrameFault

abbrev frame_of_size : LogFrame → ℕ → Outcome
frame_of_size f n = Ok (f, n)

abbrev short : Outcome
short = Err Short

pub again : (newest : ℕ) (f : LogFrame) (text rest : List ℕ) → SpellsFrame newest text f → frame_at newest (text ++ rest) ≡ Ok (f, length text)
again newest f text rest h = grind (arith, frame_again newest f rest h.version h.lawful)

alone : (newest : ℕ) (f : LogFrame) (text : List ℕ) → SpellsFrame newest text f → frame_at newest text ≡ frame_of_size f (length text)
alone newest f text h = ap (frame_at newest) (sym (append-nil text)) ∙ again newest f text [] h

same : (f g : LogFrame) (n m : ℕ) → frame_of_size f n ≡ frame_of_size g m → (f ≡ g) × (n ≡ m)
same f g n m e = grind arith

pub one_text : (newest : ℕ) (f : LogFrame) (s t : List ℕ) → SpellsFrame newest s f → SpellsFrame newest t f → s ≡ t
one_text newest f s t p q = p.spelled ∙ sym q.spelled

pub one_frame : (newest : ℕ) (f g : LogFrame) (text : List ℕ) → SpellsFrame newest text f → SpellsFrame newest text g → f ≡ g
one_frame newest f g text p q = (same f g (length text) (length text) (sym (alone newest f text p) ∙ alone newest g text q)).0

pub no_more : (newest : ℕ) (f g : LogFrame) (text rest : List ℕ) → SpellsFrame newest text f → SpellsFrame newest (text ++ rest) g → rest ≡ []
no_more newest f g text rest p q =
    let sizes = (same f g (length text) (length (text ++ rest)) (sym (again newest f text rest p) ∙ alone newest g (text ++ rest) q)).1 in
    nil_from_length rest (omega (arith, sizes, length-append text rest))

pub all_bytes : (bytes : List ℕ) → All (λ b. b < 256) bytes → IsBytes bytes
all_bytes bytes h i = grind (arith, get_or_past)

pub spelled : (newest : ℕ) (bytes : List ℕ) (f : LogFrame) (n : ℕ) → newest ≤ 2 → All (λ b. b < 256) bytes → frame_at newest bytes ≡ Ok (f, n) →
    BeginsWith newest bytes f n
spelled newest bytes f n known fits e = frame_takes newest bytes (f, n) known (all_bytes bytes fits) e

is_short : (r : Outcome) → (r ≡ short) ⊎ ¬ (r ≡ short)
is_short (Ok x) = inr (λ e. absurd cc)
is_short (Err Short) = inl refl
is_short (Err BadMagic) = inr (λ e. absurd cc)
is_short (Err BadVersion) = inr (λ e. absurd cc)
is_short (Err BadTag) = inr (λ e. absurd cc)
is_short (Err BadLength) = inr (λ e. absurd cc)
is_short (Err BadValue) = inr (λ e. absurd cc)
is_short (Err Memory) = inr (λ e. absurd cc)

pub cut : (newest : ℕ) (f : LogFrame) (prefix rest : List ℕ) → newest ≤ 2 → All (λ b. b < 256) prefix → 0 < length rest →
    SpellsFrame newest (prefix ++ rest) f → frame_at newest prefix ≡ Err Short
cut newest f prefix rest known fits some h =
    elim (is_short (frame_at newest prefix)) [
      | inl is ↦ is
      | inr other ↦
          let whole : frame_at newest prefix ≡ frame_of_size f (length (prefix ++ rest)) = grind
          (arith, frame_stays newest prefix rest other, alone newest f (prefix ++ rest) h) in
          let begins = frame_takes newest prefix (f, length (prefix ++ rest)) known (all_bytes prefix fits) whole in
          let inside = begins.inside in
          absurd (omega (arith, inside, some, length-append prefix rest))
    ]
