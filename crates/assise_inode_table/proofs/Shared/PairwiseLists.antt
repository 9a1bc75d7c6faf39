-- What holds of each element of a list, and of each two.
use Rattle.assise_inode_table.proofs.Common.{◌≡◌, ℕ, ◌<◌, true, false, List, [], ◌∷◌, ◌++◌, refl, ◌∙◌, or_from, Values, contains, after, Step, NumberedCall}
use Rattle.assise_inode_table.proofs.Common.{trace, step_of, Each, Pairs, NumbersAscend, Clear, arith}
use Rattle.assise_inode_table.proofs.Shared.EffectValues.{contains-append}

pub each-map : {X : Type 0} (P Q : X → Type 0) (xs : List X) → ((x : X) → P x → Q x) → Each P xs → Each Q xs
each-map P Q [] f h = tt
each-map P Q (x ∷ xs) f h = (f x h.0, each-map P Q xs f h.1)

pub each-always : {X : Type 0} (P : X → Type 0) (xs : List X) → ((x : X) → P x) → Each P xs
each-always P [] f = tt
each-always P (x ∷ xs) f = (f x, each-always P xs f)

pub each-both : {X : Type 0} (P Q R : X → Type 0) (xs : List X) → ((x : X) → P x → Q x → R x) → Each P xs → Each Q xs → Each R xs
each-both P Q R [] f h k = tt
each-both P Q R (x ∷ xs) f h k = (f x h.0 k.0, each-both P Q R xs f h.1 k.1)

-- ---- numbers ascend along a trace as along its calls

abbrev pub AscendsAlong : List (NumberedCall × Step) → Type 0
AscendsAlong xs = Pairs (λ x y. y.0.client ≡ x.0.client → x.0.number < y.0.number) xs

each_along : (x : NumberedCall) (v : Values) (xs : List NumberedCall) → Each (λ y. y.client ≡ x.client → x.number < y.number) xs →
    Each (λ y. y.0.client ≡ x.client → x.number < y.0.number) (trace v xs)
each_along x v [] h = tt
each_along x v (y ∷ ys) h = (h.0, each_along x (after v (step_of v y).effects) ys h.1)

pub ascends_along : (v : Values) (xs : List NumberedCall) → NumbersAscend xs → AscendsAlong (trace v xs)
ascends_along v [] r = tt
ascends_along v (x ∷ xs) r = (each_along x (after v (step_of v x).effects) xs r.0, ascends_along (after v (step_of v x).effects) xs r.1)

-- ---- lists without a common inode

pub clear-right : (is js ks : List ℕ) → Clear is (js ++ ks) → Clear is ks
clear-right is [] ks h = h
clear-right is (j ∷ js) ks h = clear-right is js ks h.1

pub clear-left : (is js ks : List ℕ) → Clear is (js ++ ks) → Clear is js
clear-left is [] ks h = tt
clear-left is (j ∷ js) ks h = (h.0, clear-left is js ks h.1)

pub clear_not : (is js : List ℕ) (i : ℕ) → Clear is js → contains is i ≡ true → contains js i ≡ false
clear_not is [] i h t = refl
clear_not is (j ∷ js) i h t = grind (arith, clear_not is js i h.1 t)

pub clear-append : (is js ks : List ℕ) → Clear is ks → Clear js ks → Clear (is ++ js) ks
clear-append is js [] h k = tt
clear-append is js (j ∷ ks) h k = (contains-append is js j ∙ or_from (contains is j) (contains js j) h.0 k.0, clear-append is js ks h.1 k.1)

pub clear_nothing : (ks : List ℕ) → Clear [] ks
clear_nothing [] = tt
clear_nothing (k ∷ ks) = (refl, clear_nothing ks)
