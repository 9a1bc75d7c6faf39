-- One byte more of hexadecimal digits.
use Rattle.assise_fault_script.proofs.Common.{◌≡◌, ℕ, List, [], ◌∷◌, ◌++◌, length, Result, Ok, Err, refl, ap, sym, arith, append_assoc, ◌-◌, ◌≤◌, take, drop}
use Rattle.assise_fault_script.proofs.Common.{slice_index, append-nil, take_all, ScriptFault, byte_of_hex, hex_bytes, ◌>>=◌}

-- the bytes so far, and then those that are read
abbrev pub with_prefix : List ℕ → Result (List ℕ) ScriptFault → Result (List ℕ) ScriptFault
with_prefix prefix (Ok bytes) = Ok (prefix ++ bytes)
with_prefix prefix (Err e) = Err e

with_prefix-cons : (prefix : List ℕ) (b : ℕ) (r : Result (List ℕ) ScriptFault) → with_prefix prefix (r >>= λ bytes. Ok (b ∷ bytes))
    ≡ with_prefix (prefix ++ b ∷ []) r
with_prefix-cons prefix b (Ok bytes) = ap Ok (sym (append_assoc prefix (b ∷ []) bytes))
with_prefix-cons prefix b (Err e) = refl

pub with_prefix-nil : (r : Result (List ℕ) ScriptFault) → with_prefix [] r ≡ r
with_prefix-nil (Ok bytes) = refl
with_prefix-nil (Err e) = refl

pub one_more : (prefix : List ℕ) (high low b : ℕ) (digits : List ℕ) → byte_of_hex high low ≡ Ok b → with_prefix prefix (hex_bytes (high ∷ low ∷ digits))
    ≡ with_prefix (prefix ++ b ∷ []) (hex_bytes digits)
one_more prefix high low b digits h = grind (arith, with_prefix-cons)

pub one_fault : (prefix : List ℕ) (high low : ℕ) (e : ScriptFault) (digits : List ℕ) → byte_of_hex high low ≡ Err e →
    with_prefix prefix (hex_bytes (high ∷ low ∷ digits)) ≡ Err e
one_fault prefix high low e digits h = ap (λ r. with_prefix prefix (r >>= λ c. hex_bytes digits >>= λ bytes. Ok (c ∷ bytes))) h

-- the same of what a pattern takes apart
pub two_more : (prefix rest : List ℕ) (b : ℕ) → 2 ≤ length rest → byte_of_hex (slice_index rest 0) (slice_index rest 1) ≡ Ok b →
    with_prefix (prefix ++ b ∷ []) (hex_bytes (take (length rest - 2) (drop 2 rest))) ≡ with_prefix prefix (hex_bytes rest)
two_more prefix [] b l h = absurd (omega arith)
two_more prefix (d ∷ []) b l h = absurd (omega arith)
two_more prefix (high ∷ low ∷ digits) b l h = grind (arith, take_all, one_more)

pub none_left : (prefix rest : List ℕ) → length rest ≡ 0 → with_prefix prefix (hex_bytes rest) ≡ Ok prefix
none_left prefix [] h = ap Ok (append-nil prefix)
none_left prefix (b ∷ rest) h = absurd (omega arith)
