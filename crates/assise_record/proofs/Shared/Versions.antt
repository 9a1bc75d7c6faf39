-- What the newest version changes, and what version 1 is.
use Rattle.assise_record.proofs.Common.{◌≡◌, ℕ, ◌<◌, ◌≤◌, ◌==◌, List, [], ◌∷◌, ◌++◌, length, None, Err, refl, sym, ap, subst, ◌∙◌, arith, inl, inr, ◌⊎◌}
use Rattle.assise_record.proofs.Common.{flat_map, cases_Bool, flat_map-cons, BadVersion, LogRecord, HasMarks, LogFrame, is_marked, SpellsFrame, body_of}
use Rattle.assise_record.proofs.Common.{header_of, record_spelling, version_at, header_at, frame_at}

-- ---- the newest version

pub above : (newest version : ℕ) (rest : List ℕ) → newest < version → frame_at newest (65 ∷ 83 ∷ version ∷ rest) ≡ Err BadVersion
unfolding frame_at header_at version_at
above newest version rest lt = grind arith

-- a version is refused, or read the same
version_stays : (newest later : ℕ) (bytes : List ℕ) → newest ≤ later → (version_at newest bytes ≡ Err BadVersion)
    ⊎ (version_at later bytes ≡ version_at newest bytes)
unfolding version_at
version_stays newest later [] le = inr refl
version_stays newest later (a ∷ []) le = elim (cases_Bool (a == 65)) [ inl is ↦ inr (rw is refl) | inr other ↦ inr (rw other refl) ]
version_stays newest later (a ∷ s ∷ []) le = grind arith
version_stays newest later (a ∷ s ∷ version ∷ rest) le = grind arith

pub later_reads : (newest later : ℕ) (bytes : List ℕ) → newest ≤ later → ¬ (frame_at newest bytes ≡ Err BadVersion) →
    frame_at later bytes ≡ frame_at newest bytes
unfolding frame_at header_at
later_reads newest later bytes le h = grind (arith, version_stays newest later bytes le)

pub later_spells : (newest later : ℕ) (f : LogFrame) (text : List ℕ) → newest ≤ later → SpellsFrame newest text f → SpellsFrame later text f
later_spells newest later f text le h = let known = h.version in record { lawful = h.lawful; version = omega (arith, le, known); spelled = h.spelled }

-- ---- version 1

is_1 : (f : LogFrame) (text : List ℕ) → SpellsFrame 1 text f → f.version ≡ 1
is_1 f text h = let some = h.lawful.ranges.some_version in let known = h.version in omega (arith, some, known)

pub no_marks_in_1 : (f : LogFrame) (text : List ℕ) → SpellsFrame 1 text f → f.last ≡ []
no_marks_in_1 f text h = subst (λ (version : ℕ). HasMarks (is_marked version) f.records f.last) (is_1 f text h) h.lawful.ranges.marks

plain : (records : List LogRecord) → body_of records [] ≡ flat_map (record_spelling None) records
plain [] = refl
plain (r ∷ rs) = ap (λ (t : List ℕ). record_spelling None r ++ t) (plain rs) ∙ sym (flat_map-cons (record_spelling None) r rs)

pub spelled_in_1 : (f : LogFrame) (text : List ℕ) → SpellsFrame 1 text f
    → text ≡ 65 ∷ 83 ∷ 1 ∷ (header_of f (length (flat_map (record_spelling None) f.records)) ++ flat_map (record_spelling None) f.records)
spelled_in_1 f text h = grind (arith, plain)
