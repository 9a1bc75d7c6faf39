-- Who stands behind whom in a chain whose nodes differ.
use Rattle.assise_chain.proofs.Common.{◌≡◌, ℕ, ◌==◌, Bool, true, false, if◌then◌else◌, List, [], ◌∷◌, ◌++◌, Some, None, ap, sym, refl, subst, arith, inl, inr}
use Rattle.assise_chain.proofs.Common.{filter, nat_le, ne_eqb, IsAscending, behind, chain, first_of_all, AllDiffer, IsOneOf}
use Rattle.assise_chain.proofs.Rows.{above_all, in_right}

-- whoever isn't there has nobody behind
pub nobody_behind : (ns : List ℕ) (n : ℕ) → (IsOneOf ns n → ⊥) → behind n ns ≡ None
nobody_behind [] n out = refl
nobody_behind (m ∷ ns) n out = let isnt : (m == n) ≡ false = ne_eqb m n (λ e. out (inl e)) in rw isnt (nobody_behind ns n (λ a. out (inr a)))

-- behind a place stands the first of what is behind it
pub behind_place : (prefix rest : List ℕ) (n : ℕ) → AllDiffer (prefix ++ n ∷ rest) → behind n (prefix ++ n ∷ rest) ≡ first_of_all rest
behind_place [] rest n d = let is : (n == n) ≡ true = search arith in rw is refl
behind_place (m ∷ prefix) rest n d = grind (arith, behind_place prefix rest n d.1, in_right)

first_is_one : (ns : List ℕ) (n : ℕ) → first_of_all ns ≡ Some n → IsOneOf ns n
first_is_one [] n e = cc
first_is_one (m ∷ ns) n e = let same : m ≡ n = cc in inl same

behind_other_if : (b : Bool) (m n : ℕ) (ns : List ℕ) → (m == n) ≡ b → (IsOneOf ns m → ⊥) → (behind n ns ≡ Some n → ⊥) →
    (if b then first_of_all ns else behind n ns) ≡ Some n → ⊥
behind_other_if true m n ns e new rest is = let same : m ≡ n = search arith in new (subst (IsOneOf ns) (sym same) (first_is_one ns n is))
behind_other_if false m n ns e new rest is = rest is

-- nobody stands behind itself
pub behind_other : (ns : List ℕ) (n : ℕ) → AllDiffer ns → behind n ns ≡ Some n → ⊥
behind_other [] n d is = cc
behind_other (m ∷ ns) n d is = behind_other_if (m == n) m n ns refl d.0 (λ e. behind_other ns n d.1 e) is

-- the full nodes from the head on begin with it
begins : (full : List ℕ) (head : ℕ) → IsAscending full → IsOneOf full head → (rest : List ℕ) × (filter (nat_le head) full ≡ head ∷ rest)
begins [] head r a = absurd a
begins (n ∷ ns) head r (inl e) =
    let is : nat_le head n ≡ true = search (arith, e) in
    (filter (nat_le head) ns, rw is (ap (λ m. m ∷ filter (nat_le head) ns) e))
begins (n ∷ ns) head r (inr a) = grind (arith, begins ns head r.1 a, above_all ns n head r.0 a)

pub head_first : (full : List ℕ) (head : ℕ) → IsAscending full → IsOneOf full head → first_of_all (chain full head) ≡ Some head
head_first full head r a = grind (arith, begins)
