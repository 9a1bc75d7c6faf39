-- The digits of bytes, as a table of sixteen has them.
use Rattle.assise_names.proofs.Common.{◌≡◌, ℕ, zero, suc, ◌/◌, ◌%◌, ◌<◌, ◌==◌, nat_lt, Bool, true, false, ◌&&◌, inl, inr, List, [], ◌∷◌, ◌++◌, refl, ap, ap₂}
use Rattle.assise_names.proofs.Common.{sym, ◌∙◌, arith, slice_index, list_all, digits, digit_glyph, and_parts, cases_lt, eqb-true, ltb-true, IsAscii, IsBytes}
use Rattle.assise_names.proofs.Common.{encode_lower, encode_with, lower_digits, hex, hex_byte}
use Rattle.std.proofs.lemmas.Fmt.{hex_one_digit}
use Rattle.std.proofs.lemmas.Str.Ascii.{IsAscii-nil, IsAscii-cons}
use Rattle.hex.proofs.HexLemmas.{IsAscii-encode_with}

-- the first n digits of the table are those that are printed
abbrev same_digits : ℕ → Bool
same_digits zero = true
same_digits (suc n) = (slice_index lower_digits n == digit_glyph false n) && same_digits n

same_digit : (n k : ℕ) → same_digits n ≡ true → k < n → slice_index lower_digits k ≡ digit_glyph false k
same_digit zero k h less = absurd (omega arith)
same_digit (suc n) k h less =
    let parts = and_parts (slice_index lower_digits n == digit_glyph false n) (same_digits n) h in
    elim (cases_lt k n) [
      | inl below ↦ same_digit n k parts.1 below
      | inr last ↦ let is : k ≡ n = omega arith in rw is (eqb-true _ _ parts.0)
    ]

digit : (k : ℕ) → k < 16 → digits 16 false k ≡ slice_index lower_digits k ∷ []
digit k less = hex_one_digit false k less ∙ ap (λ d. d ∷ []) (sym (same_digit 16 k refl less))

one_byte : (b : ℕ) → b < 256 → hex_byte b ≡ slice_index lower_digits (b / 16) ∷ slice_index lower_digits (b % 16) ∷ []
one_byte b less = ap₂ (λ x y. x ++ y) (digit (b / 16) (omega arith)) (digit (b % 16) (omega arith))

pub printed : (bytes : List ℕ) → IsBytes bytes → hex bytes ≡ encode_lower bytes
unfolding encode_with
printed [] h = refl
printed (b ∷ bytes) h = ap₂ (λ x y. x ++ y) (one_byte b (h 0)) (printed bytes (λ i. h (suc i)))

ascii : (text : List ℕ) → list_all (λ b. nat_lt b 128) text ≡ true → IsAscii text
ascii [] h = IsAscii-nil
ascii (b ∷ text) h = let parts =
    and_parts (nat_lt b 128) (list_all (λ b. nat_lt b 128) text) h in IsAscii-cons b text (ltb-true b 128 parts.0) (ascii text parts.1)

pub IsAscii-encoded : (bytes : List ℕ) → IsAscii (encode_lower bytes)
IsAscii-encoded bytes = IsAscii-encode_with lower_digits bytes (ascii lower_digits refl)
