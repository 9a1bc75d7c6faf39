-- What holds of each call or step of a list, and of each two.
use Rattle.assise_model_world.proofs.Common.{◌≡◌, ℕ, ◌≤◌, ◌⊎◌, Bool, true, false, List, [], ◌∷◌, ◌++◌, if◌then◌else◌, Option, None, refl, ap, ◌&&◌, arith}
use Rattle.assise_model_world.proofs.Common.{filter, list_any, Tree, answer, AreAnswered, tree_after_calls, Effect, has_some, Content, Values, value_after}
use Rattle.assise_model_world.proofs.Common.{touched, contains, after, makes, Step, late_value, NumberedCall, trace, step_of, values_after_calls, AllMakeNew}
use Rattle.assise_model_world.proofs.Common.{exchanges, ops, Each, Pairs, below, Unseen, untouched, each-map}

-- a fact of all clients' steps from that of each client's
pub each-client : (Q : ℕ → NumberedCall × Step → Type 0) (xs : List (NumberedCall × Step)) → ((c : ℕ) → Each (λ x. x.0.client ≡ c → Q c x) xs) →
    Each (λ x. Q x.0.client x) xs
each-client Q [] f = tt
each-client Q (x ∷ xs) f = ((f x.0.client).0 refl, each-client Q xs (λ c. (f c).1))

pub each-forall : {X : Type 0} (P : ℕ → X → Type 0) (xs : List X) → ((i : ℕ) → Each (P i) xs) → Each (λ x. (i : ℕ) → P i x) xs
each-forall P [] h = tt
each-forall P (x ∷ xs) h = ((λ i. (h i).0), each-forall P xs (λ i. (h i).1))

pub pairs-map : {X : Type 0} (R S : X → X → Type 0) (xs : List X) → ((x y : X) → R x y → S x y) → Pairs R xs → Pairs S xs
pairs-map R S [] f h = tt
pairs-map R S (x ∷ xs) f h = (each-map (R x) (S x) xs (f x) h.0, pairs-map R S xs f h.1)

-- one more at the end

pub each-snoc : {X : Type 0} (P : X → Type 0) (xs : List X) (y : X) → Each P xs → P y → Each P (xs ++ y ∷ [])
each-snoc P [] y h p = (p, tt)
each-snoc P (x ∷ xs) y h p = (h.0, each-snoc P xs y h.1 p)

pub pairs-snoc : {X : Type 0} (R : X → X → Type 0) (xs : List X) (y : X) → Pairs R xs → Each (λ x. R x y) xs → Pairs R (xs ++ y ∷ [])
pairs-snoc R [] y h p = (tt, tt)
pairs-snoc R (x ∷ xs) y h p = (each-snoc (R x) xs y h.0 p.0, pairs-snoc R xs y h.1 p.1)

-- those that pass a test

pub each-filter : {X : Type 0} (P : X → Type 0) (k : X → Bool) (xs : List X) → Each P xs → Each P (filter k xs)
each-filter P k [] h = tt
each-filter P k (x ∷ xs) h = grind (arith, each-filter P k xs h.1)

pub each-filter_if : {X : Type 0} (P : X → Type 0) (k : X → Bool) (xs : List X) → Each (λ x. k x ≡ true → P x) xs → Each P (filter k xs)
each-filter_if P k [] h = tt
each-filter_if P k (x ∷ xs) h = grind (arith, each-filter_if P k xs h.1)

pub pairs-filter : {X : Type 0} (R : X → X → Type 0) (k : X → Bool) (xs : List X) → Pairs R xs → Pairs R (filter k xs)
pairs-filter R k [] h = tt
pairs-filter R k (x ∷ xs) h = grind (arith, pairs-filter R k xs h.1, each-filter)

-- what holds of calls holds along their trace
pub each-along : (P : NumberedCall → Type 0) (v : Values) (xs : List NumberedCall) → Each P xs → Each (λ x. P x.0) (trace v xs)
each-along P v [] h = tt
each-along P v (x ∷ xs) h = (h.0, each-along P (after v (step_of v x).effects) xs h.1)

-- thresholds up
pub unseen-raise : (a b : ℕ → ℕ) (xs : List (NumberedCall × Step)) → ((c : ℕ) → a c ≤ b c) → Unseen a xs → Unseen b xs
unseen-raise a b xs up = grind (arith, pairs-map)

-- ---- values

pub value-cong : (t u : NumberedCall → Bool) (i : ℕ) (v : Option Content) (xs : List (NumberedCall × Step)) → Each (λ x. t x.0 ≡ u x.0) xs →
    late_value t i v xs ≡ late_value u i v xs
value-cong t u i v [] h = refl
value-cong t u i v (x ∷ xs) h = rw h.0 (value-cong t u i (if u x.0 then value_after i v x.1.effects else v) xs h.1)

-- steps on which two tests differ don't touch the inode
pub same_value : (t u : NumberedCall → Bool) (i : ℕ) (v : Option Content) (xs : List (NumberedCall × Step)) →
    Each (λ x. (t x.0 ≡ u x.0) ⊎ (contains (touched x.1.effects) i ≡ false)) xs → late_value t i v xs ≡ late_value u i v xs
same_value t u i v [] h = refl
same_value t u i v (x ∷ xs) h = grind (arith, same_value t u i (if u x.0 then value_after i v x.1.effects else v) xs h.1, untouched)

pub value-none : (t : NumberedCall → Bool) (i : ℕ) (v : Option Content) (xs : List (NumberedCall × Step)) → Each (λ x. t x.0 ≡ false) xs →
    late_value t i v xs ≡ v
value-none t i v [] h = refl
value-none t i v (x ∷ xs) h = rw h.0 (value-none t i v xs h.1)

pub value-snoc : (t : NumberedCall → Bool) (i : ℕ) (v : Option Content) (xs : List (NumberedCall × Step)) (y : NumberedCall × Step) →
    late_value t i v (xs ++ y ∷ []) ≡ (if t y.0 then value_after i (late_value t i v xs) y.1.effects else late_value t i v xs)
value-snoc t i v [] y = refl
value-snoc t i v (x ∷ xs) y = value-snoc t i (if t x.0 then value_after i v x.1.effects else v) xs y

pub value-filter : (t k : NumberedCall → Bool) (i : ℕ) (v : Option Content) (xs : List (NumberedCall × Step)) → late_value t i v (filter (λ x. k x.0) xs)
    ≡ late_value (λ x. k x && t x) i v xs
value-filter t k i v [] = refl
value-filter t k i v (x ∷ xs) =
    elim (k x.0) as (λ b. late_value t i v (if b then x ∷ filter (λ x. k x.0) xs else filter (λ x. k x.0) xs) ≡ late_value (λ x. k x && t x) i
    (if b && t x.0 then value_after i v x.1.effects else v) xs) [
      | true ↦ value-filter t k i (if t x.0 then value_after i v x.1.effects else v) xs
      | false ↦ value-filter t k i v xs
    ]

-- the value after thresholds that agree
pub below-same : (a b : ℕ → ℕ) (i : ℕ) (v : Option Content) (xs : List (NumberedCall × Step)) → ((d : ℕ) → a d ≡ b d) → late_value (below a) i v xs
    ≡ late_value (below b) i v xs
below-same a b i v xs e = grind arith

pub has-none : (i : ℕ) (v : Option Content) (es : List Effect) → has_some es ≡ false → value_after i v es ≡ v
has-none i v [] h = refl
has-none i v (e ∷ es) h = cc

-- ---- traces

pub trace-snoc : (v : Values) (xs : List NumberedCall) (y : NumberedCall) → trace v (xs ++ y ∷ []) ≡ trace v xs ++ (y, step_of (values_after_calls v xs) y) ∷ []
trace-snoc v [] y = refl
trace-snoc v (x ∷ xs) y = ap (λ l. (x, step_of v x) ∷ l) (trace-snoc (after v (step_of v x).effects) xs y)

pub values-snoc : (v : Values) (xs : List NumberedCall) (y : NumberedCall) → values_after_calls v (xs ++ y ∷ []) ≡ after (values_after_calls v xs)
    (step_of (values_after_calls v xs) y).effects
values-snoc v [] y = refl
values-snoc v (x ∷ xs) y = values-snoc (after v (step_of v x).effects) xs y

pub values-value : (v : Values) (xs : List NumberedCall) (i : ℕ) → values_after_calls v xs i ≡ late_value (λ x. true) i (v i) (trace v xs)
values-value v [] i = refl
values-value v (x ∷ xs) i = values-value (after v (step_of v x).effects) xs i

pub answered-snoc : (t : Tree) (xs : List NumberedCall) (y : NumberedCall) → AreAnswered t (exchanges xs) →
    y.reply ≡ (answer (tree_after_calls t (ops xs)) y.op).0 → AreAnswered t (exchanges (xs ++ y ∷ []))
answered-snoc t [] y a h = (h, tt)
answered-snoc t (x ∷ xs) y a h = (a.0, answered-snoc (answer t x.op).1 xs y a.1 h)

pub tree-snoc : (t : Tree) (xs : List NumberedCall) (y : NumberedCall) → tree_after_calls t (ops (xs ++ y ∷ [])) ≡ (answer (tree_after_calls t (ops xs)) y.op).1
tree-snoc t [] y = refl
tree-snoc t (x ∷ xs) y = tree-snoc (answer t x.op).1 xs y

pub new-snoc : (v : Values) (xs : List NumberedCall) (y : NumberedCall) → AllMakeNew v xs →
    (list_any (makes y.fresh) (step_of (values_after_calls v xs) y).effects ≡ true → values_after_calls v xs y.fresh ≡ None) → AllMakeNew v (xs ++ y ∷ [])
new-snoc v [] y a h = (h, tt)
new-snoc v (x ∷ xs) y a h = (a.0, new-snoc (after v (step_of v x).effects) xs y a.1 h)
