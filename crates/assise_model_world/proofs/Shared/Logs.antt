-- Lists of log records, and windows of calls.
use Rattle.assise_model_world.proofs.Common.{◌≡◌, ℕ, zero, suc, ◌+◌, ◌<◌, ◌≤◌, inl, inr, Bool, true, false, List, [], ◌∷◌, ◌++◌, refl, ap, ◌∙◌, ◌&&◌, ◌||◌}
use Rattle.assise_model_world.proofs.Common.{nat_lt, arith, take, drop, length, eqb-true, ltb-true, leb-true, and_parts, or_right, or_left, or_cases, nat_tests}
use Rattle.assise_model_world.proofs.Common.{Effect, LogRecord, all_effects, record_of, call_of, Ascending, all_effects-one, touched, contains, NumberedCall}
use Rattle.assise_model_world.proofs.Common.{below, window, contains-both}

-- what it is to pass a window
pub in_window : (c a b : ℕ) (x : NumberedCall) → window c a b x ≡ true → (x.client ≡ c) × (a ≤ x.number) × (x.number < b)
in_window c a b x h = grind (arith, and_parts, eqb-true, leb-true, ltb-true)

pub in_window_from : (c a b : ℕ) (x : NumberedCall) → x.client ≡ c → a ≤ x.number → x.number < b → window c a b x ≡ true
in_window_from c a b x e f g = grind (arith, nat_tests)

-- two windows that pass the same calls of the client
pub windows_agree : (c a b d e : ℕ) (x : NumberedCall) →
    (x.client ≡ c → a ≤ x.number → x.number < b → (d ≤ x.number) × (x.number < e)) →
    (x.client ≡ c → d ≤ x.number → x.number < e → (a ≤ x.number) × (x.number < b)) →
    window c a b x ≡ window c d e x
windows_agree c a b d e x f g = grind (arith, nat_tests, f, g)

pub at-drop : (rs : List LogRecord) (j m b : ℕ) → call_of (drop j rs) m b ≡ call_of rs (j + m) b
at-drop [] j m b = elim j as (λ j. call_of (drop {A = LogRecord} j []) m b ≡ b) [ zero ↦ refl | suc j ↦ refl ]
at-drop (r ∷ rs) j m b =
    elim j as (λ j. call_of (drop j (r ∷ rs)) m b ≡ call_of (r ∷ rs) (j + m) b) [
      | zero ↦ (let e : 0 + m ≡ m = omega arith in rw e)
      | suc j ↦ (let e : suc j + m ≡ suc (j + m) = omega arith in rw e (at-drop rs j m b))
    ]

pub at_top : (rs : List LogRecord) (k d : ℕ) → Ascending rs d → call_of rs k d ≤ d
at_top [] k d h = omega arith
at_top (r ∷ rs) k d h =
    elim k as (λ j. call_of (r ∷ rs) j d ≤ d) [
      | zero ↦ (let t : call_of rs 0 d ≤ d = at_top rs 0 d h.1 in omega (arith, h.0, t))
      | suc j ↦ at_top rs j d h.1
    ]

pub at_low : (r : LogRecord) (rs : List LogRecord) (k d : ℕ) → Ascending (r ∷ rs) d → r.call < call_of rs k d
at_low r [] k d h = h.0
at_low r (q ∷ rs) k d h =
    elim k as (λ j. r.call < call_of (q ∷ rs) j d) [
      | zero ↦ h.0
      | suc j ↦ (let t : q.call < call_of rs j d = at_low q rs j d h.1 in omega (arith, h.0, t))
    ]

-- call numbers ascend along a log
pub at_mono : (rs : List LogRecord) (j k d : ℕ) → Ascending rs d → j ≤ k → call_of rs j d ≤ call_of rs k d
at_mono [] j k d h le = omega arith
at_mono (r ∷ rs) zero zero d h le = omega arith
at_mono (r ∷ rs) zero (suc k) d h le = (let t : r.call < call_of rs k d = at_low r rs k d h in omega (arith, t))
at_mono (r ∷ rs) (suc j) zero d h le = absurd (omega arith)
at_mono (r ∷ rs) (suc j) (suc k) d h le = at_mono rs j k d h.1 (omega arith)

pub ascending-drop : (rs : List LogRecord) (k d : ℕ) → Ascending rs d → Ascending (drop k rs) d
ascending-drop [] k d h = elim k as (λ j. Ascending (drop {A = LogRecord} j []) d) [ zero ↦ tt | suc j ↦ tt ]
ascending-drop (r ∷ rs) k d h = elim k as (λ j. Ascending (drop j (r ∷ rs)) d) [ zero ↦ h | suc j ↦ ascending-drop rs j d h.1 ]

pub ascending-take : (rs : List LogRecord) (k d : ℕ) → Ascending rs d → Ascending (take k rs) d
ascending-take [] k d h = elim k as (λ j. Ascending (take {A = LogRecord} j []) d) [ zero ↦ tt | suc j ↦ tt ]
ascending-take (r ∷ rs) k d h =
    elim k as (λ j. Ascending (take j (r ∷ rs)) d) [
      | zero ↦ tt
      | suc j ↦ (first_of_rest j rs h, ascending-take rs j d h.1)
    ]
  where
    first_of_rest : (j : ℕ) (qs : List LogRecord) → Ascending (r ∷ qs) d → r.call < call_of (take j qs) 0 d
    first_of_rest j [] h = elim j as (λ j. r.call < call_of (take {A = LogRecord} j []) 0 d) [ zero ↦ h.0 | suc j ↦ h.0 ]
    first_of_rest j (q ∷ qs) h =
        (let t : q.call ≤ d = at_top (q ∷ qs) 0 d h.1 in
        elim j as (λ j. r.call < call_of (take j (q ∷ qs)) 0 d) [ zero ↦ omega (arith, h.0, t) | suc j ↦ h.0 ])

-- ---- parts of lists

pub take-of_take : (rs : List LogRecord) (j m n : ℕ) → j + m ≤ n → take m (drop j (take n rs)) ≡ take m (drop j rs)
take-of_take [] j m zero h = refl
take-of_take [] j m (suc n) h = refl
take-of_take (r ∷ rs) zero zero n h = refl
take-of_take (r ∷ rs) zero (suc m) zero h = absurd (omega arith)
take-of_take (r ∷ rs) zero (suc m) (suc n) h = ap (λ l. r ∷ l) (take-of_take rs zero m n (omega arith))
take-of_take (r ∷ rs) (suc j) zero zero h = refl
take-of_take (r ∷ rs) (suc j) (suc m) zero h = absurd (omega arith)
take-of_take (r ∷ rs) (suc j) m (suc n) h = take-of_take rs j m n (omega arith)

pub drop-of_drop : (rs : List LogRecord) (j k : ℕ) → drop k (drop j rs) ≡ drop (j + k) rs
drop-of_drop [] zero k = (let e : 0 + k ≡ k = omega arith in rw e)
drop-of_drop [] (suc j) k =
    (let e : suc j + k ≡ suc (j + k) = omega arith in rw e (elim k as (λ k. drop {A = LogRecord} k [] ≡ []) [ zero ↦ refl | suc k ↦ refl ]))
drop-of_drop (r ∷ rs) zero k = (let e : 0 + k ≡ k = omega arith in rw e)
drop-of_drop (r ∷ rs) (suc j) k = (let e : suc j + k ≡ suc (j + k) = omega arith in rw e (drop-of_drop rs j k))

pub take-of_append : (rs zs : List LogRecord) (j m : ℕ) → j + m ≤ length rs → take m (drop j (rs ++ zs)) ≡ take m (drop j rs)
take-of_append rs zs j zero h = refl
take-of_append [] zs j (suc m) h = absurd (omega arith)
take-of_append (r ∷ rs) zs zero (suc m) h = ap (λ l. r ∷ l) (take-of_append rs zs zero m (omega arith))
take-of_append (r ∷ rs) zs (suc j) (suc m) h = take-of_append rs zs j (suc m) (omega arith)

pub take-sum : (rs : List LogRecord) (j m n : ℕ) → take (m + n) (drop j rs) ≡ take m (drop j rs) ++ take n (drop (j + m) rs)
take-sum rs j m n = split (drop j rs) m n ∙ ap (λ l. take m (drop j rs) ++ take n l) (drop-of_drop rs j m)
  where
    split : (qs : List LogRecord) (m n : ℕ) → take (m + n) qs ≡ take m qs ++ take n (drop m qs)
    split qs zero n = (let e : 0 + n ≡ n = omega arith in rw e)
    split [] (suc m) n = (let e : suc m + n ≡ suc (m + n) = omega arith in
        rw e (elim n as (λ n. [] ≡ take {A = LogRecord} n []) [ zero ↦ refl | suc n ↦ refl ]))
    split (q ∷ qs) (suc m) n = (let e : suc m + n ≡ suc (m + n) = omega arith in rw e (ap (λ l. q ∷ l) (split qs m n)))

-- ---- one more record

pub at-grows : (rs : List LogRecord) (j n : ℕ) (es : List Effect) → call_of rs j n ≤ call_of (rs ++ record_of n es) j (suc n)
at-grows [] j n es = grind arith
at-grows (r ∷ rs) j n es = elim j as (λ j. call_of (r ∷ rs) j n ≤ call_of (r ∷ (rs ++ record_of n es)) j (suc n))
    [ zero ↦ omega arith | suc j ↦ at-grows rs j n es ]

-- an earlier call is below the one number as below the other
pub at-same : (rs : List LogRecord) (j n k : ℕ) (es : List Effect) → k < n → nat_lt k (call_of (rs ++ record_of n es) j (suc n)) ≡ nat_lt k (call_of rs j n)
at-same [] j n k es h = grind arith
at-same (r ∷ rs) j n k es h =
    elim j as (λ j. nat_lt k (call_of (r ∷ (rs ++ record_of n es)) j (suc n)) ≡ nat_lt k (call_of (r ∷ rs) j n)) [ zero ↦ refl | suc j ↦ at-same rs j n k es h ]

pub at-push : (rs : List LogRecord) (r : LogRecord) (j d : ℕ) → j ≤ length rs → call_of (rs ++ r ∷ []) j d ≡ call_of rs j r.call
at-push [] r zero d h = refl
at-push [] r (suc j) d h = absurd (omega arith)
at-push (q ∷ rs) r zero d h = refl
at-push (q ∷ rs) r (suc j) d h = at-push rs r j d (omega arith)

pub of_fresh : (n : ℕ) (es : List Effect) (i : ℕ) → contains (touched (all_effects (record_of n es))) i ≡ true → contains (touched es) i ≡ true
of_fresh n es i h = grind (arith, all_effects-one n es)

pub length-both : (rs zs : List LogRecord) → length (rs ++ zs) ≡ length rs + length zs
length-both [] zs = omega arith
length-both (r ∷ rs) zs = (let e : length (rs ++ zs) ≡ length rs + length zs = length-both rs zs in omega (arith, e))

pub drop-prefix : (rs zs : List LogRecord) → drop (length rs) (rs ++ zs) ≡ zs
drop-prefix [] zs = refl
drop-prefix (r ∷ rs) zs = drop-prefix rs zs

pub take-all : (zs : List LogRecord) (n : ℕ) → length zs ≤ n → take n zs ≡ zs
take-all [] n h = elim n as (λ n. take {A = LogRecord} n [] ≡ []) [ zero ↦ refl | suc n ↦ refl ]
take-all (z ∷ zs) zero h = absurd (omega arith)
take-all (z ∷ zs) (suc n) h = ap (λ l. z ∷ l) (take-all zs n (omega arith))

pub at-before : (rs zs : List LogRecord) (i d : ℕ) → i < length rs → call_of (rs ++ zs) i d ≡ call_of rs i d
at-before [] zs i d h = absurd (omega arith)
at-before (r ∷ rs) zs zero d h = refl
at-before (r ∷ rs) zs (suc i) d h = at-before rs zs i d (omega arith)

pub at-seam : (rs zs : List LogRecord) (d : ℕ) → call_of (rs ++ zs) (length rs) d ≡ call_of zs 0 d
at-seam [] zs d = refl
at-seam (r ∷ rs) zs d = at-seam rs zs d

-- ---- what is touched

pub contains-all_effects : (r : LogRecord) (rs : List LogRecord) (i : ℕ) → contains (touched (all_effects (r ∷ rs))) i
    ≡ (contains (touched r.effects) i || contains (touched (all_effects rs)) i)
contains-all_effects r rs i = contains-both r.effects (all_effects rs) i

pub contains-take : (rs : List LogRecord) (k i : ℕ) → contains (touched (all_effects (take k rs))) i ≡ true → contains (touched (all_effects rs)) i ≡ true
contains-take [] k i h = (elim k as (λ j. contains (touched (all_effects (take {A = LogRecord} j []))) i ≡ true → false ≡ true)
    [ zero ↦ λ h. h | suc j ↦ λ h. h ]) h
contains-take (r ∷ rs) k i h =
    (elim k as (λ j. contains (touched (all_effects (take j (r ∷ rs)))) i ≡ true → contains (touched (all_effects (r ∷ rs))) i ≡ true) [
      | zero ↦ λ h. cc
      | suc j ↦ λ h.
          let split : (contains (touched r.effects) i || contains (touched (all_effects (take j rs))) i) ≡ true = grind (arith, contains-all_effects) in
          contains-all_effects r rs i ∙ (elim (or_cases (contains (touched r.effects) i) (contains (touched (all_effects (take j rs))) i) split) [
            | inl e ↦ or_left (contains (touched r.effects) i) (contains (touched (all_effects rs)) i) e
            | inr e ↦ or_right (contains (touched r.effects) i) (contains (touched (all_effects rs)) i) (contains-take rs j i e)
          ])
    ]) h

pub at-take : (rs : List LogRecord) (j i d : ℕ) → i < j → call_of (take j rs) i d ≡ call_of rs i d
at-take rs zero i d h = absurd (omega arith)
at-take [] (suc j) i d h = refl
at-take (r ∷ rs) (suc j) zero d h = refl
at-take (r ∷ rs) (suc j) (suc i) d h = at-take rs j i d (omega arith)

pub at-take_past : (rs : List LogRecord) (j i d : ℕ) → j ≤ i → call_of (take j rs) i d ≡ d
at-take_past rs zero i d h = refl
at-take_past [] (suc j) i d h = refl
at-take_past (r ∷ rs) (suc j) zero d h = absurd (omega arith)
at-take_past (r ∷ rs) (suc j) (suc i) d h = at-take_past rs j i d (omega arith)

pub contains-drop : (rs : List LogRecord) (k i : ℕ) → contains (touched (all_effects (drop k rs))) i ≡ true → contains (touched (all_effects rs)) i ≡ true
contains-drop [] k i h = (elim k as (λ j. contains (touched (all_effects (drop {A = LogRecord} j []))) i ≡ true → false ≡ true)
    [ zero ↦ λ h. h | suc j ↦ λ h. h ]) h
contains-drop (r ∷ rs) k i h =
    (elim k as (λ j. contains (touched (all_effects (drop j (r ∷ rs)))) i ≡ true → contains (touched (all_effects (r ∷ rs))) i ≡ true) [
      | zero ↦ λ h. h
      | suc j ↦ λ h. contains-both r.effects (all_effects rs) i ∙ or_right (contains (touched r.effects) i) (contains (touched (all_effects rs)) i)
          (contains-drop rs j i h)
    ]) h

-- ---- windows below thresholds

pub inside : (b : ℕ → ℕ) (c J K : ℕ) (x : NumberedCall) → K ≤ b c → (below b x && window c J K x) ≡ window c J K x
inside b c J K x h = grind (arith, nat_tests)

pub at_cut : (b : ℕ → ℕ) (c J U next : ℕ) (x : NumberedCall) → b c ≡ U → U ≤ next → (below b x && window c J next x) ≡ window c J U x
at_cut b c J U next x e h = grind (arith, nat_tests)

pub nothing : (t : Bool) (c K L : ℕ) (x : NumberedCall) → (t && window c K K x) ≡ window c L L x
nothing t c K L x = grind (arith, nat_tests)
