-- How many bytes spellings have at most.
use Rattle.assise_record.proofs.Common.{◌≡◌, ℕ, suc, ◌+◌, ◌*◌, ◌≤◌, Bool, true, false, List, [], ◌∷◌, ◌++◌, length, Option, Some, None, refl, arith}
use Rattle.assise_record.proofs.Common.{length-append, IsTrue, flat_map, AllByRecursion, is_name, big_bytes, Effect, NewFile, NewDir, Write, SetLen, Link}
use Rattle.assise_record.proofs.Common.{Unlink, Free, LogRecord, HasMarks, IsEffect, IsLogRecord, effect_spelling, mark_spelling, record_spelling, body_of}

-- a name has at most 255 bytes
pub few_bytes : (name : List ℕ) → IsTrue (is_name name) → length name ≤ 255
few_bytes name h = grind arith

pub effect_bytes : (effect : Effect) → IsEffect effect → length (effect_spelling effect) ≤ 65553
effect_bytes (NewFile inode) h = omega arith
effect_bytes (NewDir inode) h = omega arith
effect_bytes (Write inode patch) h = grind arith
effect_bytes (SetLen inode size) h = omega arith
effect_bytes (Link directory name inode) h = grind (arith, length-append)
effect_bytes (Unlink directory name) h = grind arith
effect_bytes (Free inode) h = omega arith

-- a mark has one byte
a_mark : (m : Bool) → length (mark_spelling (Some m)) ≡ 1
a_mark true = refl
a_mark false = refl

one_mark : (mark : Option Bool) → length (mark_spelling mark) ≤ 1
one_mark None = omega arith
one_mark (Some m) = omega (arith, a_mark m)

all_bytes : {A : Type 0} (spell : A → List ℕ) (Fits : A → Type 0) (most : ℕ) → ((x : A) → Fits x → length (spell x) ≤ most)
    → (xs : List A) → AllByRecursion Fits xs → length (flat_map spell xs) ≤ length xs * most
all_bytes spell Fits most each [] h = omega arith
all_bytes spell Fits most each (x ∷ xs) h = grind (arith, all_bytes spell Fits most each xs h.1, length-append)

record_bytes : (mark : Option Bool) (r : LogRecord) → IsLogRecord r → length (record_spelling mark r) ≤ 262222
record_bytes mark r h =
    let effects = all_bytes effect_spelling IsEffect 65553 effect_bytes r.effects h.effects in
    let few = h.few in
    let counted : List ℕ = length r.effects ∷ flat_map effect_spelling r.effects in
    omega (arith, effects, few, one_mark mark, length-append (big_bytes 8 r.call) (mark_spelling mark ++ counted), length-append (mark_spelling mark) counted)

-- the length of a body fits 32 bits
body_bytes_many : (records : List LogRecord) (last : List Bool) → AllByRecursion IsLogRecord records → length (body_of records last) ≤ length records * 262222
body_bytes_many [] last h = omega arith
body_bytes_many (r ∷ rs) [] h = grind (arith, body_bytes_many rs, record_bytes None r h.0, length-append (record_spelling None r) (body_of rs []))
body_bytes_many (r ∷ rs) (m ∷ last) h = grind
    (arith, body_bytes_many rs last h.1, record_bytes (Some m) r h.0, length-append (record_spelling (Some m) r) (body_of rs last))

pub body_bytes : (records : List LogRecord) (last : List Bool) → length records ≤ 64 → AllByRecursion IsLogRecord records →
    length (body_of records last) ≤ 16782208
body_bytes records last few h = grind (arith, body_bytes_many)

-- ---- with a byte for each mark

marked_length : (m : Bool) (r : LogRecord) → length (record_spelling (Some m) r) ≡ suc (length (record_spelling None r))
marked_length m r = grind arith

pub body_length : (records : List LogRecord) (last : List Bool) → length last ≤ length records
    → length (body_of records last) ≡ length (flat_map (record_spelling None) records) + length last
body_length [] [] few = refl
body_length [] (m ∷ last) few = absurd (omega (arith, few))
body_length (r ∷ rs) [] few = grind (arith, body_length rs, length-append)
body_length (r ∷ rs) (m ∷ last) few = grind (arith, body_length rs last (omega (arith, few)), length-append)

pub marks_few : (marked : Bool) (records : List LogRecord) (last : List Bool) → HasMarks marked records last → length last ≤ length records
marks_few false records last h = rw h (omega arith)
marks_few true records last h = omega (arith, h.0)
