-- The nodes that are filled from a node.
use Rattle.assise_machine_failures.proofs.Common.{◌≡◌, ◌↔◌, ℕ, zero, suc, ◌-◌, ◌≤◌, ◌==◌, Bool, true, false, List, [], ◌∷◌, ◌++◌, if◌then◌else◌, Option, Some}
use Rattle.assise_machine_failures.proofs.Common.{None, Result, Ok, Err, IsOk, IfOk, ap, sym, arith, append-nil, Refusal, donor_of, filling_fault_of, Standing}
use Rattle.assise_machine_failures.proofs.Common.{standing_of, filled_from, is_number}
use Rattle.std.specs.Result.{result_eq}

-- ---- one node more

filled_to : (nodes : List Standing) (n c : ℕ) → 1 ≤ c →
    filled_from nodes n c ≡ filled_from nodes n (c - 1) ++ (if is_number n (donor_of (standing_of nodes c)) then c ∷ [] else [])
filled_to nodes n zero low = absurd (omega (arith, low))
filled_to nodes n (suc m) low = grind arith

pub one_filled : (nodes : List Standing) (n c : ℕ) (ks js : List ℕ) → 1 ≤ c → ks ≡ filled_from nodes n (c - 1) → js ≡ ks ++ c ∷ [] →
    is_number n (donor_of (standing_of nodes c)) ≡ true → js ≡ filled_from nodes n c
one_filled nodes n c ks js low before push from = grind arith

pub none_filled : (nodes : List Standing) (n c : ℕ) (ks js : List ℕ) → 1 ≤ c → ks ≡ filled_from nodes n (c - 1) → js ≡ ks →
    is_number n (donor_of (standing_of nodes c)) ≡ false → js ≡ filled_from nodes n c
none_filled nodes n c ks js low before same other = grind (arith, append-nil)

-- ---- who a node is filled from

abbrev no_donor : Refusal → Result ℕ Refusal
no_donor e = Err e

none_from : (o : Option Standing) (e : Refusal) → (IsOk (no_donor e) ↔ (filling_fault_of o ≡ None)) → donor_of o ≡ None
none_from o e ok = grind arith

pub filled_is : (o : Option Standing) (r : Result ℕ Refusal) (n : ℕ) (same : Refusal → Refusal → Bool) → (IsOk r ↔ (filling_fault_of o ≡ None)) →
    IfOk r (λ d. donor_of o ≡ Some d) → result_eq (λ d k. d == k) same r (Ok n) ≡ is_number n (donor_of o)
filled_is o (Ok d) n same ok donor = sym (ap (is_number n) donor)
filled_is o (Err e) n same ok donor = sym (ap (is_number n) (none_from o e ok))
