-- The bytes that a word of data writes.
use Rattle.std.specs.Prelude.{ℕ, ◌+◌, ◌-◌, ◌*◌, ◌&&◌, ◌==◌, nat_le, if◌then◌else◌, List, [], ◌∷◌, Result, Ok, Err, replicate}
use Rattle.assise_fault_script.specs.declared.fault.ScriptFault.{ScriptFault}
use Rattle.assise_fault_script.specs.declared.fault.ScriptFault.TheVariants.{BadData}
use Rattle.assise_fault_script.specs.Fault.{◌>>=◌}
use Rattle.assise_fault_script.specs.Number.{number_of}

-- `0` to `9`, `a` to `f`, or `A` to `F`
abbrev pub hex_value : ℕ → Result ℕ ScriptFault
hex_value b =
    if nat_le 48 b && nat_le b 57 then Ok (b - 48)
    else (if nat_le 97 b && nat_le b 102 then Ok (10 + (b - 97))
    else (if nat_le 65 b && nat_le b 70 then Ok (10 + (b - 65))
    else Err BadData))

-- the byte of two hexadecimal digits
abbrev pub byte_of_hex : ℕ → ℕ → Result ℕ ScriptFault
byte_of_hex high low = hex_value high >>= λ h. hex_value low >>= λ l. Ok (16 * h + l)

-- a byte for each pair of hexadecimal digits
abbrev pub hex_bytes : List ℕ → Result (List ℕ) ScriptFault
hex_bytes [] = Ok []
hex_bytes (digit ∷ []) = Err BadData
hex_bytes (high ∷ low ∷ digits) = byte_of_hex high low >>= λ b. hex_bytes digits >>= λ bs. Ok (b ∷ bs)

-- at most 1,048,576 zero bytes
abbrev pub zeros : Result ℕ ScriptFault → Result (List ℕ) ScriptFault
zeros (Ok n) = if nat_le n 1048576 then Ok (replicate n 0) else Err BadData
zeros (Err e) = Err BadData

-- `t` and a text, `x` and hexadecimal digits, or `z` and a count of zero bytes
abbrev pub data_of : List ℕ → Result (List ℕ) ScriptFault
data_of [] = Err BadData
data_of (letter ∷ rest) =
    if letter == 116 then Ok rest
    else (if letter == 120 then hex_bytes rest
    else (if letter == 122 then zeros (number_of rest)
    else Err BadData))
