-- What is kept beside the area stands for the records that aren't digested.
use Rattle.assise_digest.proofs.Common.{◌≡◌, ◌≤◌, ◌<◌, ◌+◌, ℕ, Bool, true, false, if◌then◌else◌, List, [], ◌∷◌, ◌++◌, length, Option, Some, None, refl, sym, ap}
use Rattle.assise_digest.proofs.Common.{◌∙◌, is_some, true≢false, arith, eq-eqb, ne_eqb, option_or, Effect, LogRecord, all_effects, all_effects-append, Content}
use Rattle.assise_digest.proofs.Common.{InodeMap, all_applied, contains, touched, value_after, contains-both, untouched, value_after-append, get-all_applied}
use Rattle.assise_digest.proofs.Common.{last_touch, IsNew, StandsFor, all_held, forgotten, pending_seen, taken_in, Pending}
use Rattle.std.specs.FinMap as map
use Rattle.assise_digest.proofs.KeptInodes.{all_held_point, forgotten_point, get-noted, kept_at, left_at, point}

-- ---- effects of records

pub value_after_one_more : (i : ℕ) (old : Option Content) (rs : List LogRecord) (r : LogRecord) → value_after i old (all_effects (rs ++ r ∷ []))
    ≡ value_after i (value_after i old (all_effects rs)) r.effects
value_after_one_more i old rs r = grind (arith, all_effects-append, value_after-append)

-- ---- the last record that touches an inode

-- there is one exactly where an effect touches it
pub is_touched : (n : ℕ) (rs : List LogRecord) (i : ℕ) → is_some (last_touch n rs i) ≡ contains (touched (all_effects rs)) i
is_touched n [] i = refl
is_touched n (r ∷ rs) i = grind (arith, is_touched (n + 1) rs i, contains-both)

-- its number is one of theirs
pub within : (n : ℕ) (rs : List LogRecord) (i k : ℕ) → last_touch n rs i ≡ Some k → (n ≤ k) × (k < n + length rs)
within n [] i k e = absurd (true≢false (sym (ap is_some e)))
within n (r ∷ rs) i k e = grind (arith, within (n + 1) rs i)

pub last_touch-append : (n : ℕ) (rs : List LogRecord) (r : LogRecord) (i : ℕ) → last_touch n (rs ++ r ∷ []) i
    ≡ (if contains (touched r.effects) i then Some (n + length rs) else last_touch n rs i)
last_touch-append n [] r i = grind arith
last_touch-append n (s ∷ rs) r i = grind (arith, last_touch-append (n + 1) rs r i)

-- ---- what stands for records

abbrev pub standing_at : InodeMap → ℕ → List LogRecord → ℕ → Option ℕ → Option ℕ × Option Content
standing_at m n rs i o = (o, if is_some o then value_after i (map.get m i) (all_effects rs) else None)

point_of : (p : Pending) (m : InodeMap) (n : ℕ) (rs : List LogRecord) → StandsFor p m n rs → (i : ℕ) → point p i ≡ standing_at m n rs i (last_touch n rs i)
point_of p m n rs s i = ap (λ o. (o, map.get p.inodes i)) (s.last i) ∙ ap (λ v. (last_touch n rs i, v)) (s.values i)

from_points : (p : Pending) (m : InodeMap) (n : ℕ) (rs : List LogRecord) → ((i : ℕ) → point p i ≡ standing_at m n rs i (last_touch n rs i)) → StandsFor p m n rs
from_points p m n rs h = record { last = λ i. ap (λ x. x.0) (h i); values = λ i. ap (λ x. x.1) (h i) }

-- nothing stands for no records
pub stands_for_none : (p : Pending) (m : InodeMap) (n : ℕ) → p.inodes ≡ map.empty → p.last ≡ map.empty → StandsFor p m n []
stands_for_none p m n inodes last = grind (arith, map.get-empty)

-- an inode that no record touches
quiet : (m : InodeMap) (n : ℕ) (rs : List LogRecord) (i : ℕ) → last_touch n rs i ≡ None → value_after i (map.get m i) (all_effects rs) ≡ map.get m i
quiet m n rs i none = untouched i (map.get m i) (all_effects rs) (sym (is_touched n rs i) ∙ ap is_some none)

-- no record has the next number
pub next_is_new : (p : Pending) (m : InodeMap) (n : ℕ) (rs : List LogRecord) → StandsFor p m n rs → IsNew p (n + length rs)
next_is_new p m n rs s i = grind (arith, within)

-- one reads what the records make
pub seen_after : (p : Pending) (m : InodeMap) (n : ℕ) (rs : List LogRecord) → StandsFor p m n rs → (i : ℕ) → pending_seen p i (map.get m i)
    ≡ value_after i (map.get m i) (all_effects rs)
seen_after p m n rs s i = grind (arith, quiet)

-- ---- one more record

pub stands_for_one_more : (p : Pending) (m : InodeMap) (n k : ℕ) (rs : List LogRecord) (r : LogRecord) → StandsFor p m n rs → k ≡ n + length rs →
    StandsFor (taken_in p m k r.effects) m n (rs ++ r ∷ [])
stands_for_one_more p m n k rs r s is =
    from_points (taken_in p m k r.effects) m n (rs ++ r ∷ []) (λ i.
    at_one i (contains (touched r.effects) i) refl ∙ ap (standing_at m n (rs ++ r ∷ []) i) (sym (last_touch-append n rs r i)))
  where
    es : List Effect
    es = r.effects

    value : (i : ℕ) → map.get (taken_in p m k es).inodes i ≡ value_after i (map.get (all_held p m k es).inodes i) es
    value i = get-all_applied (all_held p m k es).inodes es i

    held_value : (i : ℕ) (b : Bool) → contains (touched es) i ≡ b → map.get (all_held p m k es).inodes i
        ≡ (if b then kept_at m k i (point p i) else point p i).1
    held_value i b e = ap (λ x. x.1) (all_held_point m k p es i) ∙ ap (λ c. (if c then kept_at m k i (point p i) else point p i).1) e

    held_last : (i : ℕ) (b : Bool) → contains (touched es) i ≡ b → map.get (all_held p m k es).last i ≡ (if b then kept_at m k i (point p i) else point p i).0
    held_last i b e = ap (λ x. x.0) (all_held_point m k p es i) ∙ ap (λ c. (if c then kept_at m k i (point p i) else point p i).0) e

    -- what is kept of an inode that the record touches is what the records before it make
    before : (i : ℕ) (o : Option ℕ) → last_touch n rs i ≡ o → (kept_at m k i (standing_at m n rs i o)).1 ≡ value_after i (map.get m i) (all_effects rs)
    before i None e = sym (quiet m n rs i e)
    before i (Some j) e = refl

    at_one : (i : ℕ) (b : Bool) → contains (touched es) i ≡ b → point (taken_in p m k es) i ≡ standing_at m n (rs ++ r ∷ []) i
        (if b then Some (n + length rs) else last_touch n rs i)
    at_one i true e =
        ap (λ o. (o, map.get (taken_in p m k es).inodes i))
        (get-noted (all_held p m k es).last k es i ∙ ap (λ c. if c then Some k else map.get (all_held p m k es).last i) e ∙ ap Some is)
        ∙ ap (λ v. (Some (n + length rs), v))
        (value i ∙ ap (λ v. value_after i v es) (held_value i true e ∙ ap (λ x. (kept_at m k i x).1) (point_of p m n rs s i)
        ∙ before i (last_touch n rs i) refl)
        ∙ sym (value_after_one_more i (map.get m i) rs r))
    at_one i false e =
        ap (λ o. (o, map.get (taken_in p m k es).inodes i))
        (get-noted (all_held p m k es).last k es i ∙ ap (λ c. if c then Some k else map.get (all_held p m k es).last i) e ∙ held_last i false e ∙ s.last i)
        ∙ ap (λ v. (last_touch n rs i, v))
        (value i ∙ untouched i (map.get (all_held p m k es).inodes i) es e ∙ held_value i false e ∙ s.values i
        ∙ ap (λ v. if is_some (last_touch n rs i) then v else None)
        (sym (untouched i (value_after i (map.get m i) (all_effects rs)) es e) ∙ sym (value_after_one_more i (map.get m i) rs r)))

-- ---- a record is digested

-- the first of the records goes into the map
pub stands_for_the_rest : (p : Pending) (m : InodeMap) (n : ℕ) (r : LogRecord) (rs : List LogRecord) → StandsFor p m n (r ∷ rs) →
    StandsFor (forgotten p n r.effects) (all_applied m r.effects) (n + 1) rs
stands_for_the_rest p m n r rs s =
    from_points (forgotten p n r.effects) (all_applied m r.effects) (n + 1) rs (λ i.
    forgotten_point n p r.effects i
    ∙ ap (λ x. if contains (touched r.effects) i then left_at n x else x) (point_of p m n (r ∷ rs) s i)
    ∙ at_one i (last_touch (n + 1) rs i) refl (contains (touched r.effects) i))
  where
    value : (i : ℕ) → value_after i (map.get m i) (r.effects ++ all_effects rs) ≡ value_after i (map.get (all_applied m r.effects) i) (all_effects rs)
    value i = value_after-append i (map.get m i) r.effects (all_effects rs) ∙ ap (λ v. value_after i v (all_effects rs)) (sym (get-all_applied m r.effects i))

    at_one : (i : ℕ) (o : Option ℕ) → last_touch (n + 1) rs i ≡ o → (b : Bool)
        → (if b then left_at n (standing_at m n (r ∷ rs) i (option_or o (if b then Some n else None))) else standing_at m n (r ∷ rs) i
        (option_or o (if b then Some n else None)))
        ≡ standing_at (all_applied m r.effects) (n + 1) rs i o
    at_one i (Some k) is true =
        ap (λ c. if c then (None, None) else standing_at m n (r ∷ rs) i (Some k)) (ne_eqb k n (λ e. absurd (omega (arith, e, (within (n + 1) rs i k is).0))))
        ∙ ap (λ v. (Some k, v)) (value i)
    at_one i (Some k) is false = ap (λ v. (Some k, v)) (value i)
    at_one i None is true = ap (λ c. if c then (None, None) else standing_at m n (r ∷ rs) i (Some n)) (eq-eqb n n refl)
    at_one i None is false = refl

-- the map changes where the records touch nothing
pub stands_beside : (p : Pending) (m w : InodeMap) (n : ℕ) (rs : List LogRecord) → StandsFor p m n rs
    → ((i : ℕ) → contains (touched (all_effects rs)) i ≡ true → map.get w i ≡ map.get m i) → StandsFor p w n rs
stands_beside p m w n rs s same = grind (arith, is_touched)
