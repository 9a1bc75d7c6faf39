-- Inodes with what records make of them.
use Rattle.assise_digest.proofs.Common.{◌≡◌, ◌≤◌, ◌+◌, ◌-◌, ◌||◌, ℕ, zero, suc, min, length, take, drop-drop, take-add, append_assoc, append-nil, true≢false}
use Rattle.assise_digest.proofs.Common.{arith, Bool, true, false, if◌then◌else◌, List, [], ◌∷◌, ◌++◌, Option, Some, None, refl, sym, ap, subst, ◌∙◌, is_some}
use Rattle.assise_digest.proofs.Common.{or_right, take_min, same_Some, slice_get, nat_cmp, Effect, LogRecord, CanBeMadeWhole, record_at, AreWhole, IsBegun}
use Rattle.assise_digest.proofs.Common.{ReceivedLog, ahead, Content, InodeMap, all_applied, contains, touched, value_after, get-all_applied, same_inodes}
use Rattle.assise_digest.proofs.Common.{get-with_value, untouched, value_after-append, contains-both, KeepsNoMore, Lays, all_held, overlaid, overlaid_with}
use Rattle.assise_digest.proofs.Common.{pending_seen, Pending}
use Rattle.std.specs.FinMap as map
use Rattle.assise_digest.proofs.ReceivedLogs.{drop_item}
use Rattle.assise_digest.proofs.KeptInodes.{all_held_point, kept_at, point}

-- ---- one map of both

get-overlaid_with : (m kept : InodeMap) (es : List (ℕ × ℕ)) (i : ℕ) → map.get (overlaid_with m kept es) i
    ≡ (if is_some (map.find nat_cmp i es) then map.get kept i else map.get m i)
get-overlaid_with m kept [] i = refl
get-overlaid_with m kept (e ∷ es) i = grind (arith, get-overlaid_with m kept es i, get-with_value)

pub get-overlaid : (m : InodeMap) (p : Pending) (i : ℕ) → map.get (overlaid m p) i ≡ pending_seen p i (map.get m i)
get-overlaid m p i = grind (arith, get-overlaid_with, map.get-entries)

-- what is kept gives the map that the effects make
pub laid_over : (m : InodeMap) (p : Pending) (es : List Effect) → Lays p m es → overlaid m p ≡ all_applied m es
laid_over m p es l = grind (arith, same_inodes, get-overlaid, get-all_applied, untouched)

-- ---- more effects

pub lays_nothing : (p : Pending) (m : InodeMap) → p.inodes ≡ map.empty → p.last ≡ map.empty → Lays p m []
lays_nothing p m inodes last = grind (arith, map.get-empty)

pub lays_no_more : (p : Pending) (m : InodeMap) (es : List Effect) → Lays p m es → KeepsNoMore p
lays_no_more p m es l i none = l.values i ∙ ap (λ b. if b then value_after i (map.get m i) es else None) (sym (l.kept i) ∙ ap is_some none)

pub lays_more : (p q : Pending) (m : InodeMap) (n : ℕ) (es fs : List Effect) → Lays p m es → q.inodes ≡ all_applied (all_held p m n fs).inodes fs →
    q.last ≡ (all_held p m n fs).last → Lays q m (es ++ fs)
lays_more p q m n es fs l inodes last = record { kept = kept; values = values }
  where
    held : (i : ℕ) → point (all_held p m n fs) i ≡ (if contains (touched fs) i then kept_at m n i (point p i) else point p i)
    held i = all_held_point m n p fs i

    is_kept : (o : Option ℕ) (b : Bool) (v : Option Content) (i : ℕ) → is_some (if b then kept_at m n i (o, v) else (o, v)).0 ≡ (is_some o || b)
    is_kept None true v i = refl
    is_kept None false v i = refl
    is_kept (Some k) true v i = refl
    is_kept (Some k) false v i = refl

    kept : (i : ℕ) → is_some (map.get q.last i) ≡ contains (touched (es ++ fs)) i
    kept i =
        ap (λ x. is_some (map.get x i)) last ∙ ap (λ x. is_some x.0) (held i) ∙ is_kept (map.get p.last i) (contains (touched fs) i) (map.get p.inodes i) i
        ∙ ap (λ b. b || contains (touched fs) i) (l.kept i) ∙ sym (contains-both es fs i)

    -- what stood there before the new effects
    stood : (i : ℕ) (o : Option ℕ) → is_some o ≡ contains (touched es) i →
        (kept_at m n i (o, if contains (touched es) i then value_after i (map.get m i) es else None)).1 ≡ value_after i (map.get m i) es
    stood i None e = sym (untouched i (map.get m i) es (sym e))
    stood i (Some k) e = ap (λ b. if b then value_after i (map.get m i) es else None) (sym e)

    values : (i : ℕ) → map.get q.inodes i ≡ (if contains (touched (es ++ fs)) i then value_after i (map.get m i) (es ++ fs) else None)
    values i =
        ap (λ x. map.get x i) inodes ∙ get-all_applied (all_held p m n fs).inodes fs i ∙ ap (λ x. value_after i x.1 fs) (held i)
        ∙ ap (λ v. value_after i (if contains (touched fs) i then kept_at m n i (map.get p.last i, v) else (map.get p.last i, v)).1 fs) (l.values i)
        ∙ go (contains (touched fs) i) refl (contains (touched es) i) refl
        ∙ ap (λ b. if b then value_after i (map.get m i) (es ++ fs) else None) (sym (contains-both es fs i))
      where
        go : (b : Bool) → contains (touched fs) i ≡ b → (a : Bool) → contains (touched es) i ≡ a
            → value_after i (if b then kept_at m n i (map.get p.last i, if contains (touched es) i then value_after i (map.get m i) es else None) else
            (map.get p.last i, if contains (touched es) i then value_after i (map.get m i) es else None)).1 fs
            ≡ (if (contains (touched es) i || b) then value_after i (map.get m i) (es ++ fs) else None)
        go true e a f =
            ap (λ v. value_after i v fs) (stood i (map.get p.last i) (l.kept i)) ∙ sym (value_after-append i (map.get m i) es fs)
            ∙ ap (λ c. if c then value_after i (map.get m i) (es ++ fs) else None) (sym (or_right (contains (touched es) i) true refl))
        go false e true f =
            untouched i _ fs e ∙ ap (λ c. if c then value_after i (map.get m i) es else None) f
            ∙ sym (untouched i (value_after i (map.get m i) es) fs e) ∙ sym (value_after-append i (map.get m i) es fs)
            ∙ ap (λ c. if (c || false) then value_after i (map.get m i) (es ++ fs) else None) (sym f)
        go false e false f =
            untouched i _ fs e ∙ ap (λ c. if c then value_after i (map.get m i) es else None) f
            ∙ ap (λ c. if (c || false) then value_after i (map.get m i) (es ++ fs) else None) (sym f)

pub laid_no_more : (p q : Pending) (m : InodeMap) (n : ℕ) (fs : List Effect) → KeepsNoMore p → q.inodes ≡ all_applied (all_held p m n fs).inodes fs →
    q.last ≡ (all_held p m n fs).last → KeepsNoMore q
laid_no_more p q m n fs no_more inodes last i none = grind (arith, get-all_applied, all_held_point, untouched)

-- ---- the records of a log, one after another

pub whole_at : (rs : List LogRecord) (k : ℕ) (r : LogRecord) → AreWhole rs → Some r ≡ slice_get rs k → CanBeMadeWhole r.effects
whole_at [] k r w e = absurd (true≢false (ap is_some e))
whole_at (s ∷ rs) zero r w e = subst (λ x. CanBeMadeWhole x.effects) (same_Some s r (sym e)) w.0
whole_at (s ∷ rs) (suc k) r w e = whole_at rs k r w.1 e

pub record_here : (l : ReceivedLog) (number : ℕ) (r : LogRecord) → IsBegun l → l.digested ≤ number → Some r ≡ record_at l.log number →
    Some r ≡ slice_get l.log.records (number - l.log.first)
record_here l number r b h is = grind arith

pub one_more_ahead : (l : ReceivedLog) (number : ℕ) (r : LogRecord) → IsBegun l → l.digested ≤ number → Some r ≡ record_at l.log number
    → take (number + 1 - l.digested) (ahead l) ≡ take (number - l.digested) (ahead l) ++ r ∷ []
one_more_ahead l number r b h is = grind (
  arith,
  take-add (number - l.digested) 1 (ahead l),
  drop-drop (number - l.digested) (l.digested - l.log.first) l.log.records,
  drop_item l.log.records
      (number - l.log.first) r (record_here l number r b h is),
)

pub take_same : {X : Type 0} (j k : ℕ) (xs : List X) → min j (length xs) ≡ min k (length xs) → take j xs ≡ take k xs
take_same j k xs same = sym (take_min j xs) ∙ ap (λ n. take n xs) same ∙ take_min k xs

pub appended_last : (es xs fs : List Effect) → (es ++ xs) ++ fs ≡ es ++ (xs ++ (fs ++ []))
appended_last es xs fs = append_assoc es xs fs ∙ ap (λ ys. es ++ (xs ++ ys)) (sym (append-nil fs))
