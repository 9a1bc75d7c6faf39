-- Which bytes are names.
use Rattle.assise_record.proofs.Common.{◌≡◌, ℕ, ◌<◌, List, length, Ok, Err, refl, arith, IsUtf8, is_utf8, false_from_ne_true, is_name, name_in, BadValue}
use Rattle.std.proofs.Common.{IsTrue}
use Rattle.std.proofs.lemmas.Str.{IsUtf8-from_is_utf8}

-- bytes that are no text are no name
pub no_text : (bytes : List ℕ) → ¬ (IsUtf8 bytes) → name_in bytes ≡ Err BadValue
no_text bytes h = rw (false_from_ne_true (is_utf8 bytes) (λ e. h (IsUtf8-from_is_utf8 bytes e))) refl

-- what is read as a name is the bytes, which are one
pub named : (bytes name : List ℕ) → name_in bytes ≡ Ok name → IsTrue (is_name bytes) × (bytes ≡ name)
named bytes name e = grind arith

-- a name has a byte
pub some_bytes : (name : List ℕ) → IsTrue (is_name name) → 0 < length name
some_bytes name h = grind arith
