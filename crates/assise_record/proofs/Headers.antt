-- What the reader of headers says, by the places of their fields.
use Rattle.assise_record.proofs.Common.{◌≡◌, ◌≢◌, ℕ, zero, suc, ◌+◌, ◌-◌, ◌<◌, ◌≤◌, true, false, ◌==◌, nat_lt, ltb, List, [], ◌∷◌, get_or, length, take, drop}
use Rattle.assise_record.proofs.Common.{Ok, Err, refl, sym, ap, ap₂, subst, ◌∙◌, inl, inr, arith, true≢false, cases_Bool, cases_lt, eq-eqb, eqb-true, lt-ltb}
use Rattle.assise_record.proofs.Common.{le-ltb, ltb-true, drop-drop, length-drop, big_number, Header, FrameFault, Short, BadMagic, BadVersion, BadValue}
use Rattle.assise_record.proofs.Common.{HasCount, IsVersion, Read, has_count, is_version, version_at, numbers_at, header_at, HasLawfulFields, IsUnfinished}
use Rattle.assise_record.proofs.Common.{field, ◌>>=◌, number_at}
use Rattle.std.proofs.Common.{◌⊎◌}
use Rattle.assise_record.proofs.FrameLaws.{count_again, count_is, version_again, version_is}

abbrev Short_ : Read Header
Short_ = Err Short

-- ---- behind the magic bytes and a version that is known

module _ (newest v : ℕ) (known : is_version newest v ≡ true) (t : List ℕ) where
  abbrev bytes : List ℕ
  bytes = 65 ∷ 83 ∷ v ∷ t

  behind_8 : length (drop 8 t) ≡ length t - 8
  behind_8 = length-drop 8 t

  behind_12 : length (drop 4 (drop 8 t)) ≡ length t - 12
  behind_12 = omega (arith, length-drop 4 (drop 8 t), behind_8)

  behind_20 : length (drop 8 (drop 4 (drop 8 t))) ≡ length t - 20
  behind_20 = omega (arith, length-drop 8 (drop 4 (drop 8 t)), behind_12)

  behind_22 : length (drop 2 (drop 8 (drop 4 (drop 8 t)))) ≡ length t - 22
  behind_22 = omega (arith, length-drop 2 (drop 8 (drop 4 (drop 8 t))), behind_20)

  abbrev client : ℕ
  client = field 11 4 bytes

  abbrev first : ℕ
  first = field 15 8 bytes

  abbrev count : ℕ
  count = field 23 2 bytes

  abbrev size : ℕ
  size = field 25 4 bytes

  first_is : big_number 8 (take 8 (drop 4 (drop 8 t))) ≡ first
  first_is = ap (λ (r : List ℕ). big_number 8 (take 8 r)) (drop-drop 4 8 t)

  count_at : big_number 2 (take 2 (drop 8 (drop 4 (drop 8 t)))) ≡ count
  count_at = ap (λ (r : List ℕ). big_number 2 (take 2 r)) (ap (drop 8) (drop-drop 4 8 t) ∙ drop-drop 8 12 t)

  size_is : big_number 4 (take 4 (drop 2 (drop 8 (drop 4 (drop 8 t))))) ≡ size
  size_is = ap (λ (r : List ℕ). big_number 4 (take 4 r)) (ap (drop 2) (ap (drop 8) (drop-drop 4 8 t) ∙ drop-drop 8 12 t) ∙ drop-drop 2 20 t)

  -- the epoch, or the client, isn't whole
  no_client : length t < 12 → header_at newest bytes ≡ Short_
  unfolding header_at version_at
  no_client few = grind arith

  module _ (there : 12 ≤ length t) where
    epoch_there : ltb (length t) 8 ≡ false
    epoch_there = le-ltb (length t) 8 (omega arith)

    client_there : ltb (length (drop 8 t)) 4 ≡ false
    client_there = le-ltb (length (drop 8 t)) 4 (omega (arith, behind_8))

    -- the client is nobody
    nobody : nat_lt 0 client ≡ false → header_at newest bytes ≡ Err BadValue
    unfolding header_at version_at
    nobody none = rw (known, epoch_there, client_there, none) refl

    module _ (somebody : nat_lt 0 client ≡ true) where
      -- the first number, or the count, isn't whole
      no_count : length t < 22 → header_at newest bytes ≡ Short_
      unfolding header_at version_at numbers_at
      no_count few =
          elim (cases_lt (length t) 20) [
            | inl none ↦ rw (known, epoch_there, client_there, somebody, lt-ltb (length (drop 4 (drop 8 t))) 8 (omega (arith, behind_12))) refl
            | inr numbers ↦ rw (
              known,
              epoch_there,
              client_there,
              somebody,
              le-ltb (length (drop 4 (drop 8 t))) 8 (omega (arith, behind_12)),
              lt-ltb (length (drop 8 (drop 4 (drop 8 t)))) 2 (omega (arith, behind_20)),
            ) refl
          ]

      module _ (numbers : 22 ≤ length t) where
        first_there : ltb (length (drop 4 (drop 8 t))) 8 ≡ false
        first_there = le-ltb (length (drop 4 (drop 8 t))) 8 (omega (arith, behind_12))

        count_there : ltb (length (drop 8 (drop 4 (drop 8 t)))) 2 ≡ false
        count_there = le-ltb (length (drop 8 (drop 4 (drop 8 t)))) 2 (omega (arith, behind_20))

        counts : has_count (big_number 8 (take 8 (drop 4 (drop 8 t)))) (big_number 2 (take 2 (drop 8 (drop 4 (drop 8 t))))) ≡ has_count first count
        counts = ap₂ has_count first_is count_at

        no_number : has_count first count ≡ false → header_at newest bytes ≡ Err BadValue
        unfolding header_at version_at numbers_at
        no_number wrong = rw (known, epoch_there, client_there, somebody, first_there, count_there, counts, wrong) refl

        module _ (right : has_count first count ≡ true) where
          abbrev head : ℕ → Header
          head n = record {
            version = v;
            epoch = big_number 8 (take 8 t);
            client = client;
            first = big_number 8 (take 8 (drop 4 (drop 8 t)));
            count = big_number 2 (take 2 (drop 8 (drop 4 (drop 8 t))));
            size = n;
          }

          abbrev r : List ℕ
          r = drop 2 (drop 8 (drop 4 (drop 8 t)))

          -- the size is what is left to read
          behind_count : header_at newest bytes ≡ (number_at 4 Short r >>= λ n. Ok (head n.0, n.1))
          unfolding header_at version_at numbers_at
          behind_count = rw (known, epoch_there, client_there, somebody, first_there, count_there, counts, right) refl

          no_size : length t < 26 → header_at newest bytes ≡ Short_
          no_size few = behind_count ∙ rw (lt-ltb (length r) 4 (omega (arith, behind_22))) refl

          whole : 26 ≤ length t → (h : Header) × (rest : List ℕ) × (header_at newest bytes ≡ Ok (h, rest)) × (h.size ≡ size) × (length rest + 26 ≡ length t)
          whole all =
              let there = le-ltb (length r) 4 (omega (arith, behind_22)) in
              (head (big_number 4 (take 4 r)), drop 4 r, behind_count ∙ rw there refl, size_is, omega (arith, length-drop 4 r, behind_22))

-- ---- any bytes

take_nil : (n : ℕ) → take {A = ℕ} n [] ≡ []
take_nil zero = refl
take_nil (suc n) = refl

-- what the reader of headers says, and what the places of the fields say
data Class (newest : ℕ) (bytes : List ℕ) : Type 0 where
  early : header_at newest bytes ≡ Short_ → IsUnfinished newest bytes → Class newest bytes
  wrong : (fault : FrameFault) → header_at newest bytes ≡ Err fault → fault ≢ Short → (HasLawfulFields newest bytes → ⊥) → Class newest bytes
  entire : (h : Header) (rest : List ℕ) → header_at newest bytes ≡ Ok (h, rest) → HasLawfulFields newest bytes → h.size ≡ field 25 4 bytes →
      length rest + 29 ≡ length bytes → Class newest bytes

-- fewer bytes than an epoch and a client behind the version have
few_fields : (newest : ℕ) (bytes : List ℕ) → length bytes < 15 → take 2 bytes ≡ take (length bytes) (65 ∷ 83 ∷ []) →
    (3 ≤ length bytes → IsVersion newest (get_or bytes 2 0)) → IsUnfinished newest bytes
few_fields newest bytes few magic version = grind arith

not_value : BadValue ≢ Short
not_value e = cc

not_magic : BadMagic ≢ Short
not_magic e = cc

not_version : BadVersion ≢ Short
not_version e = cc

behind_version : (newest v : ℕ) → is_version newest v ≡ true → (t : List ℕ) → Class newest (65 ∷ 83 ∷ v ∷ t)
behind_version newest v known t =
    elim (cases_lt (length t) 12) [
      | inl few ↦ early (no_client newest v known t few) (few_fields newest (65 ∷ 83 ∷ v ∷ t) (omega (arith, few)) magic version)
      | inr there ↦ elim (cases_Bool (nat_lt 0 (client newest v known t))) [
        | inl somebody ↦ elim (cases_lt (length t) 22) [
          | inl few ↦ early (no_count newest v known t there somebody few)
              (record {
                lawful = with_client (ltb-true 0 (client newest v known t) somebody) (λ all. absurd (omega (arith, few, all)));
                short =
                    λ all. absurd (omega (arith, few, all));
              })
          | inr numbers ↦ elim (cases_Bool (has_count (first newest v known t) (count newest v known t))) [
            | inl right ↦
                let lawful = with_client (ltb-true 0 (client newest v known t) somebody) (λ _. count_is (first newest v known t) (count newest v known t) right)
                in
                elim (cases_lt (length t) 26) [
                  | inl few ↦ early (no_size newest v known t there somebody numbers right few)
                      (record { lawful = lawful; short = λ all. absurd (omega (arith, few, all)) })
                  | inr all ↦ let w = whole newest v known t there somebody numbers right all in entire w.0 w.1 w.2 lawful w.3 (omega (arith, w.4))
                ]
            | inr unlawful ↦ wrong BadValue (no_number newest v known t there somebody numbers unlawful) not_value
                (λ fields. true≢false (sym (count_again (first newest v known t) (count newest v known t) (fields.count (omega (arith, numbers)))) ∙ unlawful))
          ]
        ]
        | inr nobody_there ↦ wrong BadValue (nobody newest v known t there nobody_there) not_value
            (λ fields. true≢false (sym (lt-ltb 0 (client newest v known t) (fields.client (omega (arith, there)))) ∙ nobody_there))
      ]
    ] where
      magic : take 2 (65 ∷ 83 ∷ v ∷ t) ≡ take (length (65 ∷ 83 ∷ v ∷ t)) (65 ∷ 83 ∷ [])
      magic = ap (λ (r : List ℕ). 65 ∷ 83 ∷ r) (sym (take_nil (length (v ∷ t))))

      version : 3 ≤ length (65 ∷ 83 ∷ v ∷ t) → IsVersion newest v
      version _ = version_is newest v known

      with_client : 0 < client newest v known t → (25 ≤ length (65 ∷ 83 ∷ v ∷ t) → HasCount (first newest v known t) (count newest v known t)) →
          HasLawfulFields newest (65 ∷ 83 ∷ v ∷ t)
      with_client somebody counted = record { magic = magic; version = version; client = λ _. somebody; count = counted }

heads : (a b : ℕ) (xs ys : List ℕ) → a ∷ xs ≡ b ∷ ys → a ≡ b
heads a b xs ys e = cc

tails : (a b : ℕ) (xs ys : List ℕ) → a ∷ xs ≡ b ∷ ys → xs ≡ ys
tails a b xs ys e = cc

-- no version stands in fewer than three bytes
no_third : (newest : ℕ) (bytes : List ℕ) → length bytes < 3 → 3 ≤ length bytes → IsVersion newest (get_or bytes 2 0)
no_third newest bytes few all = absurd (omega (arith, few, all))

behind_second : (newest : ℕ) (t : List ℕ) → Class newest (65 ∷ 83 ∷ t)
unfolding header_at version_at
behind_second newest [] = early refl (few_fields newest (65 ∷ 83 ∷ []) (omega arith) refl (no_third newest (65 ∷ 83 ∷ []) (omega arith)))
behind_second newest (v ∷ t) =
    elim (cases_Bool (is_version newest v)) [
      | inl known ↦ behind_version newest v known t
      | inr other ↦ wrong BadVersion (rw other refl) not_version (λ fields. true≢false (sym (version_again newest v (fields.version (omega arith))) ∙ other))
    ]

behind_first : (newest : ℕ) (t : List ℕ) → Class newest (65 ∷ t)
unfolding header_at version_at
behind_first newest [] = early refl (few_fields newest (65 ∷ []) (omega arith) refl (no_third newest (65 ∷ []) (omega arith)))
behind_first newest (b ∷ t) =
    elim (cases_Bool (b == 83)) [
      | inl is ↦ subst (λ x. Class newest (65 ∷ x ∷ t)) (sym (eqb-true b 83 is)) (behind_second newest t)
      | inr other ↦ wrong BadMagic (rw other refl) not_magic
          (λ fields. true≢false (sym (eq-eqb b 83 (heads b 83 [] (take (length t) []) (tails 65 65 (b ∷ []) (83 ∷ take (length t) []) fields.magic))) ∙ other))
    ]

class_of : (newest : ℕ) (bytes : List ℕ) → Class newest bytes
unfolding header_at version_at
class_of newest [] = early refl (few_fields newest [] (omega arith) refl (no_third newest [] (omega arith)))
class_of newest (a ∷ t) =
    elim (cases_Bool (a == 65)) [
      | inl is ↦ subst (λ x. Class newest (x ∷ t)) (sym (eqb-true a 65 is)) (behind_first newest t)
      | inr other ↦ wrong BadMagic (rw other refl) not_magic
          (λ fields. true≢false (sym (eq-eqb a 65 (heads a 65 (take 1 t) (take (length t) (83 ∷ [])) fields.magic)) ∙ other))
    ]

-- ---- what follows

abbrev ok_header : Header → List ℕ → Read Header
ok_header h rest = Ok (h, rest)

pub ends_inside : (newest : ℕ) (bytes : List ℕ) → header_at newest bytes ≡ Err Short → IsUnfinished newest bytes
ends_inside newest bytes is = grind (arith, class_of)

entire_of : (newest : ℕ) (bytes : List ℕ) (h : Header) (rest : List ℕ) → header_at newest bytes ≡ Ok (h, rest)
    → HasLawfulFields newest bytes × (h.size ≡ field 25 4 bytes) × (length rest + 29 ≡ length bytes)
entire_of newest bytes h rest is = grind (arith, class_of)

pub header_then : (newest : ℕ) (bytes : List ℕ) (h : Header) (rest : List ℕ) → header_at newest bytes ≡ Ok (h, rest) → length rest < h.size
    → IsUnfinished newest bytes
header_then newest bytes h rest is few = let e = entire_of newest bytes h rest is in record { lawful = e.0; short = λ _. omega (arith, few, e.1, e.2) }

pub header_says : (newest : ℕ) (bytes : List ℕ) → IsUnfinished newest bytes → (header_at newest bytes ≡ Err Short)
    ⊎ ((h : Header) × (rest : List ℕ) × (header_at newest bytes ≡ Ok (h, rest)) × (length rest < h.size))
header_says newest bytes u = grind (arith, class_of)

-- a header has 29 bytes
pub header_long : (newest : ℕ) (bytes : List ℕ) (h : Header) (rest : List ℕ) → header_at newest bytes ≡ Ok (h, rest) → length rest + 29 ≡ length bytes
header_long newest bytes h rest is = (entire_of newest bytes h rest is).2
