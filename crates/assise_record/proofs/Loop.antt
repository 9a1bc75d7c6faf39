-- Readings one behind the other, as a loop makes them.
use Rattle.assise_record.proofs.Common.{◌≡◌, ℕ, zero, suc, ◌-◌, ◌+◌, ◌≤◌, ◌<◌, Bool, List, [], ◌∷◌, ◌++◌, length, Option, Result, Ok, Err, refl, sym, ap, ◌∙◌}
use Rattle.assise_record.proofs.Common.{arith, option_to_list, LogRecord, ◌>>=◌, Read, FailsReading, many_at, effect_at, read_record, records_at, rest_of}
use Rattle.assise_record.proofs.Common.{FrameFault, Short, BadMagic, BadVersion, BadTag, BadLength, BadValue, Memory}

-- many readings, each told how many follow it, and what is put together of what they give
pub record IsMany {A C : Type 0} (read : ℕ → List ℕ → Read A) (add : A → C → C) (none : C) (many : ℕ → List ℕ → Read C) : Type 0 where
  pub start : (bytes : List ℕ) → many 0 bytes ≡ Ok (none, bytes)
  pub step : (left : ℕ) (bytes : List ℕ) → many (suc left) bytes ≡ (read left bytes >>= λ x. many left x.1 >>= λ y. Ok (add x.0 y.0, y.1))

-- what is still read, put behind what was read before
abbrev pub through : {C : Type 0} → (C → C) → Read C → Read C
through prefix read = read >>= λ x. Ok (prefix x.0, x.1)

-- a fault other than out of memory
fails_as : {A B : Type 0} (fault : FrameFault) (one : Result A FrameFault) (total : Result B FrameFault) → FailsReading fault one →
    (one ≡ Err fault → total ≡ Err fault) → FailsReading fault total
fails_as Memory one total h f = tt
fails_as Short one total h f = f h
fails_as BadMagic one total h f = f h
fails_as BadVersion one total h f = f h
fails_as BadTag one total h f = f h
fails_as BadLength one total h f = f h
fails_as BadValue one total h f = f h

-- the value of a step that did not fail
pub bind_ok : {A B : Type 0} (r : Result A FrameFault) (f : A → Result B FrameFault) (y : B) → (r >>= f) ≡ Ok y → (x : A) × (r ≡ Ok x) × (f x ≡ Ok y)
bind_ok (Ok x) f y e = (x, refl, e)
bind_ok (Err d) f y e = absurd cc

abbrev done : {A : Type 0} → A → Result A FrameFault
done x = Ok x

pub ok_is : {A : Type 0} (x y : A) → done x ≡ done y → x ≡ y
ok_is x y e = cc

module _ {A C : Type 0} (read : ℕ → List ℕ → Read A) (add : A → C → C) (none : C) (many : ℕ → List ℕ → Read C) (m : IsMany read add none many) where
  regroup : (prefix next : C → C) (x : A) → ((y : C) → prefix (add x y) ≡ next y) → (others : Read C) → through prefix (others >>= λ y. Ok (add x y.0, y.1))
      ≡ through next others
  regroup prefix next x same (Ok y) = ap (λ (c : C). Ok (c, y.1)) (same y.0)
  regroup prefix next x same (Err f) = refl

  pub goes_on : (prefix next : C → C) (count i : ℕ) (bytes : List ℕ) (x : A) (after : List ℕ) (total : Read C) → ((y : C) → prefix (add x y) ≡ next y) →
      i < count
      → read (count - (i + 1)) bytes ≡ Ok (x, after) → through prefix (many (count - i) bytes) ≡ total → through next (many (count - (i + 1)) after) ≡ total
  goes_on prefix next count i bytes x after total same lt h so_far = grind arith

  stops : (fault : FrameFault) (prefix : C → C) (count i : ℕ) (bytes : List ℕ) (total : Read C) → i < count
      → through prefix (many (count - i) bytes) ≡ total → read (count - (i + 1)) bytes ≡ Err fault → total ≡ Err fault
  stops fault prefix count i bytes total lt so_far h = grind arith

  pub ends : (fault : FrameFault) (prefix : C → C) (count i : ℕ) (bytes : List ℕ) (total : Read C) → i < count →
      FailsReading fault (read (count - (i + 1)) bytes)
      → through prefix (many (count - i) bytes) ≡ total → FailsReading fault total
  ends fault prefix count i bytes total lt h so_far = fails_as fault (read (count - (i + 1)) bytes) total h (stops fault prefix count i bytes total lt so_far)

  pub is_done : (prefix : C → C) (count i : ℕ) (bytes : List ℕ) (whole : C) (total : Read C) → prefix none ≡ whole → count ≤ i →
      through prefix (many (count - i) bytes) ≡ total → total ≡ Ok (whole, bytes)
  is_done prefix count i bytes whole total same le so_far = grind arith

  -- ---- the same where what is read is passed over

  one_passed : (x : A) (others : Read C) → rest_of (others >>= λ y. Ok (add x y.0, y.1)) ≡ rest_of others
  one_passed x (Ok y) = refl
  one_passed x (Err fault) = refl

  passed : (n : ℕ) (first : Read A) (after : List ℕ) → rest_of first ≡ Ok after
      → rest_of (first >>= λ x. many n x.1 >>= λ y. Ok (add x.0 y.0, y.1)) ≡ rest_of (many n after)
  passed n (Ok x) after e = one_passed x.0 (many n x.1) ∙ ap (λ bytes. rest_of (many n bytes)) (ok_is x.1 after e)
  passed n (Err fault) after e = absurd cc

  failed : (n : ℕ) (first : Read A) (fault : FrameFault) → rest_of first ≡ Err fault → rest_of (first >>= λ x. many n x.1 >>= λ y. Ok (add x.0 y.0, y.1))
      ≡ Err fault
  failed n (Ok x) fault e = absurd cc
  failed n (Err other) fault e = e

  pub skip_goes_on : (count i : ℕ) (bytes after : List ℕ) (total : Result (List ℕ) FrameFault) → i < count → rest_of (read (count - (i + 1)) bytes) ≡ Ok after
      → rest_of (many (count - i) bytes) ≡ total → rest_of (many (count - (i + 1)) after) ≡ total
  skip_goes_on count i bytes after total lt h so_far = grind arith

  pub skip_stops : (fault : FrameFault) (count i : ℕ) (bytes : List ℕ) (total : Result (List ℕ) FrameFault) → i < count → rest_of (read (count - (i + 1)) bytes)
      ≡ Err fault
      → rest_of (many (count - i) bytes) ≡ total → total ≡ Err fault
  skip_stops fault count i bytes total lt h so_far = search arith parts 3

  pub skip_is_done : (count i : ℕ) (bytes : List ℕ) (total : Result (List ℕ) FrameFault) → count ≤ i → rest_of (many (count - i) bytes) ≡ total →
      total ≡ Ok bytes
  skip_is_done count i bytes total le so_far = grind arith

-- ---- effects and records

pub effects_are_many : IsMany (λ _. effect_at) ◌∷◌ [] (many_at effect_at)
unfolding many_at
effects_are_many = record { start = λ bytes. refl; step = λ left bytes. refl }

abbrev pub add_record : LogRecord × Option Bool → List LogRecord × List Bool → List LogRecord × List Bool
add_record x others = (x.0 ∷ others.0, option_to_list x.1 ++ others.1)

pub records_are_many : (marked : Bool) → IsMany (read_record marked) add_record ([], []) (records_at marked)
unfolding records_at
records_are_many marked = record { start = λ bytes. refl; step = λ left bytes. refl }

-- there are as many values as readings
pub many_counted : {A : Type 0} (read : List ℕ → Read A) (n : ℕ) (bytes : List ℕ) (xs : List A) (rest : List ℕ) → many_at read n bytes ≡ Ok (xs, rest) →
    length xs ≡ n
unfolding many_at
many_counted {A} read zero bytes xs rest e = ap (λ (y : List A × List ℕ). length y.0) (sym (ok_is ([], bytes) (xs, rest) e))
many_counted {A} read (suc n) bytes xs rest e =
    let a = bind_ok (read bytes) (λ first. many_at read n first.1 >>= λ others. Ok (first.0 ∷ others.0, others.1)) (xs, rest) e in
    let b = bind_ok (many_at read n a.0.1) (λ others. Ok (a.0.0 ∷ others.0, others.1)) (xs, rest) a.2 in
    let made : List A × List ℕ = (a.0.0 ∷ b.0.0, b.0.1) in
    ap (λ (y : List A × List ℕ). length y.0) (sym (ok_is made (xs, rest) b.2)) ∙ ap suc (many_counted read n a.0.1 b.0.0 b.0.1 b.1)
