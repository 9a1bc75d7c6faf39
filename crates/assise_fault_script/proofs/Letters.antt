-- A word of data by its first letter.
use Rattle.assise_fault_script.proofs.Common.{◌≡◌, ◌≢◌, ℕ, ◌==◌, true, false, List, [], ◌∷◌, Ok, Err, Option, Some, None, Bor, MatchOption, refl, ap, inl, inr}
use Rattle.assise_fault_script.proofs.Common.{arith, cases_Bool, nat_tests, BadData, data_of}
use Rattle.std.proofs.Common.{is_some}

-- the word begins with this letter, or it doesn't
abbrev pub Begins : ℕ → List ℕ → Option (Bor (List ℕ)) → Type 0
Begins letter word r = MatchOption r ((rest : List ℕ) → word ≢ letter ∷ rest) (λ x. word ≡ letter ∷ x.now)

pub does_not : (letter : ℕ) (word : List ℕ) (r : Option (Bor (List ℕ))) → Begins letter word r → r ≡ None → (rest : List ℕ) → word ≢ letter ∷ rest
does_not letter word None h e = h
does_not letter word (Some y) h e = cc

not_first : (letter b : ℕ) (rest : List ℕ) → ((more : List ℕ) → b ∷ rest ≢ letter ∷ more) → (b == letter) ≡ false
not_first letter b rest h =
    elim (cases_Bool (b == letter)) [
      | inl same ↦ let is : b ≡ letter = grind (arith, nat_tests) in absurd (h rest (ap (λ n. n ∷ rest) is))
      | inr other ↦ other
    ]

pub other_letter : (word : List ℕ) → ((rest : List ℕ) → word ≢ 116 ∷ rest) → ((rest : List ℕ) → word ≢ 120 ∷ rest) → ((rest : List ℕ) → word ≢ 122 ∷ rest) →
    data_of word ≡ Err BadData
other_letter [] t x z = refl
other_letter (b ∷ rest) t x z = rw (not_first 116 b rest t, not_first 120 b rest x, not_first 122 b rest z)

pub text_letter : (word rest : List ℕ) → word ≡ 116 ∷ rest → data_of word ≡ Ok rest
text_letter word rest h = ap data_of h

pub given_text : (word : List ℕ) (r : Option (Bor (List ℕ))) → Begins 116 word r → true ≡ is_some r → (bytes : List ℕ) × (data_of word ≡ Ok bytes)
given_text word (Some x) h is = (x.now, text_letter word x.now h)
given_text word None h is = cc

pub no_text : (word : List ℕ) (r : Option (Bor (List ℕ))) → Begins 116 word r → false ≡ is_some r → (rest : List ℕ) → word ≢ 116 ∷ rest
no_text word None h is = h
no_text word (Some x) h is = cc
