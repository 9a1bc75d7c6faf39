-- Which words are numbers.
use Rattle.std.specs.Prelude.{ℕ, ◌+◌, ◌-◌, ◌*◌, ◌^◌, Bool, not, ◌&&◌, ◌||◌, ◌==◌, nat_le, nat_lt, if◌then◌else◌, List, [], ◌∷◌, length, Result, Ok, Err}
use Rattle.std.specs.List.{list_all}
use Rattle.assise_fault_script.specs.declared.fault.ScriptFault.{ScriptFault}
use Rattle.assise_fault_script.specs.declared.fault.ScriptFault.TheVariants.{BadNumber, BadLimit}
use Rattle.assise_fault_script.specs.Fault.{◌>>=◌}

-- `0` to `9`
abbrev pub is_digit : ℕ → Bool
is_digit b = nat_le 48 b && nat_le b 57

-- one decimal digit or more
abbrev pub is_digits : List ℕ → Bool
is_digits word = not (length word == 0) && list_all is_digit word

-- the value of the digits where they stand behind those of n
abbrev pub value_behind : ℕ → List ℕ → ℕ
value_behind n [] = n
value_behind n (digit ∷ digits) = value_behind (10 * n + (digit - 48)) digits

-- the value of the digits
abbrev pub decimal_value : List ℕ → ℕ
decimal_value digits = value_behind 0 digits

-- one decimal digit or more, with a value below 2^64
unfoldable pub number_of : List ℕ → Result ℕ ScriptFault
number_of word = if is_digits word && nat_lt (decimal_value word) (2 ^ 64) then Ok (decimal_value word) else Err BadNumber

abbrev pub in_limits : ℕ → ℕ → ℕ → Result ℕ ScriptFault
in_limits low high n = if nat_lt n low || nat_lt high n then Err BadLimit else Ok n

-- a number from the low limit to the high one
abbrev pub limited : ℕ → ℕ → List ℕ → Result ℕ ScriptFault
limited low high word = number_of word >>= in_limits low high
