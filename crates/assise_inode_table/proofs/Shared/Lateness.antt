-- Changes that come late give the same values.
use Rattle.assise_inode_table.proofs.Common.{◌≡◌, ℕ, ◌<◌, ◌≤◌, arith, Bool, true, false, List, [], ◌∷◌, ◌++◌, if◌then◌else◌, Option, refl, sym, ◌∙◌, subst}
use Rattle.assise_inode_table.proofs.Common.{◌||◌, inl, inr, cases_eq, le-ltb, Content, Values, touched, value_after, contains, Step, NumberedCall, trace, Each}
use Rattle.assise_inode_table.proofs.Common.{NumbersAscend, below, window, Clear, Unseen}
use Rattle.std.proofs.lemmas.Bool.Decides.{nat_tests}
use Rattle.assise_inode_table.specs.Late.{late_value, Quiet, NoneBetween, raised_at}
use Rattle.assise_inode_table.proofs.Shared.EffectValues.{untouched}
use Rattle.assise_inode_table.proofs.Shared.PairwiseLists.{each-both, clear_not, clear-right, AscendsAlong, ascends_along}

abbrev Test : Type 0
Test = NumberedCall → Bool

-- an inode that no step whose call passes touches keeps its value
quiet_value : (passes : Test) (i : ℕ) (old : Option Content) (xs : List (NumberedCall × Step)) → Quiet passes i xs → late_value passes i old xs ≡ old
quiet_value passes i old [] q = refl
quiet_value passes i old (x ∷ xs) q = grind (arith, quiet_value passes i old xs q.1, untouched)

pub late : (early later : Test) (i : ℕ) (old : Option Content) (xs : List (NumberedCall × Step)) → NoneBetween early later i xs →
    late_value (λ x. early x || later x) i old xs ≡ late_value later i (late_value early i old xs) xs
late early later i old [] h = refl
late early later i old (x ∷ xs) h =
    let w : Option Content = value_after i old x.1.effects in
    elim (later x.0) as (λ b.
    (b ≡ true → (early x.0 ≡ false) × (contains (touched x.1.effects) i ≡ true → Quiet early i xs)) →
    late_value (λ c. early c || later c) i (if early x.0 || b then w else old) xs
    ≡ late_value later i (if b then value_after i (late_value early i (if early x.0 then w else old) xs) x.1.effects else late_value early i
    (if early x.0 then w else old) xs) xs) [
      | true ↦ λ p.
          subst (λ k. late_value (λ c. early c || later c) i (if k || true then w else old) xs
          ≡ late_value later i (value_after i (late_value early i (if k then w else old) xs) x.1.effects) xs) (sym (p refl).0)
          (elim (contains (touched x.1.effects) i) as (λ b. contains (touched x.1.effects) i ≡ b → (b ≡ true → Quiet early i xs) →
          late_value (λ c. early c || later c) i w xs ≡ late_value later i (value_after i (late_value early i old xs) x.1.effects) xs) [
            | true ↦ grind (arith, late early later i w xs h.1, quiet_value)
            | false ↦ λ e q. rw (untouched i old x.1.effects e, untouched i (late_value early i old xs) x.1.effects e) (late early later i old xs h.1)
          ] refl (p refl).1)
      | false ↦ λ p.
          elim (early x.0) as (λ k. late_value (λ c. early c || later c) i (if k || false then w else old) xs
          ≡ late_value later i (late_value early i (if k then w else old) xs) xs) [
            | true ↦ late early later i w xs h.1
            | false ↦ late early later i old xs h.1
          ]
    ] h.0

-- ---- the next calls of a client

pub value-same : (t u : Test) (i : ℕ) (old : Option Content) (xs : List (NumberedCall × Step)) → ((x : NumberedCall) → t x ≡ u x) →
    late_value t i old xs ≡ late_value u i old xs
value-same t u i old [] h = refl
value-same t u i old (x ∷ xs) h = rw (h x.0) (value-same t u i (if u x.0 then value_after i old x.1.effects else old) xs h)

quiet_from : (passes : Test) (i : ℕ) (xs : List (NumberedCall × Step)) → Each (λ y. passes y.0 ≡ true → contains (touched y.1.effects) i ≡ false) xs →
    Quiet passes i xs
quiet_from passes i [] h = tt
quiet_from passes i (x ∷ xs) h = (h.0, quiet_from passes i xs h.1)

pub in_window : (c a b : ℕ) (x : NumberedCall) → window c a b x ≡ true → (x.client ≡ c) × (a ≤ x.number) × (x.number < b)
in_window c a b x e = grind arith

-- no call below the thresholds comes after one of the window and touches the same inode
none_between : (a b : ℕ → ℕ) (c k i : ℕ) (xs : List (NumberedCall × Step)) → Unseen a xs → AscendsAlong xs → a c ≤ b c →
    NoneBetween (below b) (window c (b c) k) i xs
none_between a b c k i [] u r le = tt
none_between a b c k i (x ∷ xs) u r le = (
  (λ e.
      let p = in_window c (b c) k x.0 e in
      let high : b x.0.client ≤ x.0.number = subst (λ d. b d ≤ x.0.number) (sym p.0) p.1 in
      let unseen : a x.0.client ≤ x.0.number = subst (λ d. a d ≤ x.0.number) (sym p.0) (omega (arith, le, p.1)) in (
        le-ltb x.0.number (b x.0.client) high,
        λ t.
            quiet_from (below b) i xs
            (each-both (λ y. a x.0.client ≤ x.0.number → (y.0.client ≡ x.0.client → ⊥) → Clear (touched x.1.effects) (y.1.visits ++ touched y.1.effects))
            (λ y. y.0.client ≡ x.0.client → x.0.number < y.0.number)
            (λ y. below b y.0 ≡ true → contains (touched y.1.effects) i ≡ false) xs
            (λ y clear ascend kept.
            elim (cases_eq y.0.client x.0.client) [
              | inl same ↦
                  grind arith
              | inr other ↦ clear_not (touched x.1.effects) (touched y.1.effects) i
                  (clear-right (touched x.1.effects) y.1.visits (touched y.1.effects) (clear unseen other)) t
            ])
            u.0 r.0),
      )),
  none_between a b c k i xs u.1 r.1 le,
)

raised_below : (b : ℕ → ℕ) (c k : ℕ) (x : NumberedCall) → b c ≤ k → below (raised_at b c k) x ≡ (below b x || window c (b c) k x)
raised_below b c k x h = grind (arith, nat_tests)

-- the next calls of one client, after all others
pub late_client : (v : Values) (a b : ℕ → ℕ) (c k i : ℕ) (old : Option Content) (xs : List NumberedCall) → Unseen a (trace v xs) → NumbersAscend xs →
    a c ≤ b c → b c ≤ k →
    late_value (below (raised_at b c k)) i old (trace v xs) ≡ late_value (window c (b c) k) i (late_value (below b) i old (trace v xs)) (trace v xs)
late_client v a b c k i old xs u r le up =
    value-same (below (raised_at b c k)) (λ x. below b x || window c (b c) k x) i old (trace v xs) (λ x. raised_below b c k x up)
    ∙ late (below b) (window c (b c) k) i old (trace v xs) (none_between a b c k i (trace v xs) u (ascends_along v xs r) le)
