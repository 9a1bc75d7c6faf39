-- Groups one after another: where they end, and the calls that they begin with.
use Rattle.assise_record.proofs.Common.{◌≡◌, ℕ, zero, suc, ◌+◌, ◌-◌, ◌<◌, ◌≤◌, true, if◌then◌else◌, List, [], ◌∷◌, ◌++◌, length, take, drop, refl, ap, sym, ◌∙◌}
use Rattle.assise_record.proofs.Common.{arith, inl, inr, length-append, le-leb, lt-leb, AreGroups, all_records, all_coalesced, are_whole, were, coalesced_group}
use Rattle.assise_record.proofs.Common.{LogRecord, call_of, Ascending}
use Rattle.std.proofs.Common.{◌⊎◌}
use Rattle.std.proofs.Math.Seq.{drop-append-add, take-append-add}
use Rattle.assise_record.proofs.Shared.GroupRest.{group-begins, group-ascending, group-shorter, group-some}
use Rattle.assise_record.proofs.Shared.Records.{ascending-append}

-- ---- where groups end

-- no record, or at least the first group
pub ends : (g : List LogRecord) (gs : List (List LogRecord)) (k : ℕ) → are_whole (g ∷ gs) k ≡ true →
    (k ≡ 0) ⊎ ((length (coalesced_group g) ≤ k) × (are_whole gs (k - length (coalesced_group g)) ≡ true))
ends g gs k h = grind arith

pub whole_none : (gs : List (List LogRecord)) → are_whole gs 0 ≡ true
whole_none [] = refl
whole_none (g ∷ gs) = refl

pub were-past : (g : List LogRecord) (gs : List (List LogRecord)) (k : ℕ) → length (coalesced_group g) ≤ k →
    were (g ∷ gs) k ≡ length g + were gs (k - length (coalesced_group g))
were-past g gs k h = ap (λ b. if b then length g + were gs (k - length (coalesced_group g)) else 0) (le-leb (length (coalesced_group g)) k h)

were-before : (g : List LogRecord) (gs : List (List LogRecord)) (k : ℕ) → k < length (coalesced_group g) → were (g ∷ gs) k ≡ 0
were-before g gs k h = ap (λ b. if b then length g + were gs (k - length (coalesced_group g)) else 0) (lt-leb (length (coalesced_group g)) k h)

pub were-none : (gs : List (List LogRecord)) → AreGroups gs → were gs 0 ≡ 0
were-none [] h = refl
were-none (g ∷ gs) h = were-before g gs 0 (group-some g h.0.0 h.0.1)

pub were-ascends : (gs : List (List LogRecord)) (j k : ℕ) → j ≤ k → were gs j ≤ were gs k
were-ascends [] j k h = h
were-ascends (g ∷ gs) j k h = grind (arith, were-ascends gs (j - length (coalesced_group g)) (k - length (coalesced_group g)) (omega arith))

pub were-all : (gs : List (List LogRecord)) → were gs (length (all_coalesced gs)) ≡ length (all_records gs)
were-all [] = refl
were-all (g ∷ gs) = grind (arith, were-all gs, length-append)

pub whole-all : (gs : List (List LogRecord)) → are_whole gs (length (all_coalesced gs)) ≡ true
whole-all [] = refl
whole-all (g ∷ gs) = grind (arith, whole-all gs, length-append)

-- ---- between two places

-- the records from one place to another
abbrev pub part : List LogRecord → ℕ → ℕ → List LogRecord
part rs j k = take (k - j) (drop j rs)

pub part_none : (rs : List LogRecord) (k : ℕ) → part rs k k ≡ []
part_none rs k = grind arith

-- past the first group
pub part_past : (g rs : List LogRecord) (j k : ℕ) → length g ≤ j → j ≤ k → part (g ++ rs) j k ≡ part rs (j - length g) (k - length g)
part_past g rs j k h le = grind (arith, drop-append-add)

-- from the beginning on
pub part_from : (g rs : List LogRecord) (k : ℕ) → length g ≤ k → part (g ++ rs) 0 k ≡ g ++ part rs 0 (k - length g)
part_from g rs k h = grind (arith, take-append-add g rs (k - length g))

-- ---- calls

pub at-past : (g rs : List LogRecord) (k d : ℕ) → length g ≤ k → call_of (g ++ rs) k d ≡ call_of rs (k - length g) d
at-past [] rs k d h = ap (λ n. call_of rs n d) (omega arith)
at-past (r ∷ g) rs zero d h = absurd (omega (arith, h))
at-past (r ∷ g) rs (suc k) d h = at-past g rs k d (omega (arith, h)) ∙ ap (λ n. call_of rs n d) (omega arith)

at-first : (g rs : List LogRecord) (d : ℕ) → call_of (g ++ rs) 0 d ≡ call_of g 0 (call_of rs 0 d)
at-first [] rs d = refl
at-first (r ∷ g) rs d = refl

at-some : (g : List LogRecord) (d e : ℕ) → 0 < length g → call_of g 0 d ≡ call_of g 0 e
at-some [] d e h = absurd (omega (arith, h))
at-some (r ∷ g) d e h = refl

begins-same : (gs : List (List LogRecord)) (d : ℕ) → AreGroups gs → call_of (all_coalesced gs) 0 d ≡ call_of (all_records gs) 0 d
begins-same [] d h = refl
begins-same (g ∷ gs) d h = grind (arith, at-first, group-begins, at-some)

pub calls_same : (gs : List (List LogRecord)) (k d : ℕ) → AreGroups gs → are_whole gs k ≡ true → call_of (all_coalesced gs) k d ≡ call_of (all_records gs)
    (were gs k) d
calls_same [] k d h bk = refl
calls_same (g ∷ gs) k d h bk =
    elim (ends g gs k bk) [
      | inl none ↦
          grind (arith, begins-same (g ∷ gs) d h, were-none (g ∷ gs) h)
      | inr (past, rest) ↦
          let a : ℕ = length (coalesced_group g) in
          let sum : (length g + were gs (k - a)) - length g ≡ were gs (k - a) = omega arith in
          at-past (coalesced_group g) (all_coalesced gs) k d past ∙ calls_same gs (k - a) d h.1 rest
          ∙ sym (grind (arith, at-past))
    ]

ascending_left : (g rs : List LogRecord) (d : ℕ) → Ascending (g ++ rs) d → Ascending g (call_of rs 0 d)
ascending_left [] rs d h = tt
ascending_left (r ∷ g) rs d h = (omega (arith, h.0, at-first g rs d), ascending_left g rs d h.1)

ascending_right : (g rs : List LogRecord) (d : ℕ) → Ascending (g ++ rs) d → Ascending rs d
ascending_right [] rs d h = h
ascending_right (r ∷ g) rs d h = ascending_right g rs d h.1

pub all-ascending : (gs : List (List LogRecord)) (d : ℕ) → AreGroups gs → Ascending (all_records gs) d → Ascending (all_coalesced gs) d
all-ascending [] d h r = tt
all-ascending (g ∷ gs) d h r = grind
    (arith, all-ascending gs d h.1 (ascending_right g (all_records gs) d r), ascending-append, begins-same, group-ascending, ascending_left)

pub all-shorter : (gs : List (List LogRecord)) → length (all_coalesced gs) ≤ length (all_records gs)
all-shorter [] = omega arith
all-shorter (g ∷ gs) = omega (arith, length-append (coalesced_group g) (all_coalesced gs), length-append g (all_records gs), group-shorter g, all-shorter gs)
