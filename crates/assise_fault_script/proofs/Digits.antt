-- What `parse` reads, as the definition of numbers has it.
use Rattle.assise_fault_script.proofs.Common.{◌≡◌, ℕ, ◌^◌, ◌<◌, true, false, List, length, Result, Ok, Err, MatchResult, not, ◌==◌, arith, rules, and_parts}
use Rattle.assise_fault_script.proofs.Common.{nat_tests, list_all, BadNumber, is_digit, is_digits, value_behind, decimal_value, number_of}
use Rattle.std.proofs.lemmas.Str.Parse.{IsNumeralModel, numerals_by_fold, parse_digits}
use Rattle.std.specs.Str.Parse.{ParsesUnsigned}
use Rattle.std.specs.Result.{OkIff}

own : IsNumeralModel (λ ds. list_all is_digit ds ≡ true) decimal_value
own = numerals_by_fold _ (search rules) value_behind (search rules)

pub no_digits : (bs : List ℕ) → is_digits bs ≡ false → number_of bs ≡ Err BadNumber
unfolding number_of
no_digits bs h = rw h

-- the tests of `is_digits`, one by one
some_digits : (bs : List ℕ) → is_digits bs ≡ true → 0 < length bs
some_digits bs h = let some : not (length bs == 0) ≡ true = (and_parts _ _ h).0 in grind (arith, nat_tests)

from_parse : {E : Type 0} (bs : List ℕ) (r : Result ℕ E) → is_digits bs ≡ true → OkIff r ((0 < length bs) × (decimal_value bs < 2 ^ 64)) (decimal_value bs) →
    MatchResult r (λ v. number_of bs ≡ Ok v) (λ _. number_of bs ≡ Err BadNumber)
unfolding number_of
from_parse bs (Ok v) d h = grind arith
from_parse bs (Err e) d h = grind arith

pub parsed : {E : Type 0} (bs : List ℕ) (r : Result ℕ E) → is_digits bs ≡ true → ParsesUnsigned 64 10 bs r →
    MatchResult r (λ v. number_of bs ≡ Ok v) (λ _. number_of bs ≡ Err BadNumber)
parsed bs r d h = from_parse bs r d (parse_digits own 64 bs r h (and_parts _ _ d).1)
