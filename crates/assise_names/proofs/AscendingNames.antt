-- Names ascend if each is below the next.
use Rattle.assise_names.proofs.Common.{◌≡◌, ◌≤◌, ◌<◌, ℕ, ◌+◌, ◌-◌, true, List, [], length, get_or, sym, ◌∙◌, arith, nat_cmp, slice_cmp, get_or_default}
use Rattle.assise_names.proofs.Common.{IsStrictlySortedBy}
use Rattle.std.specs.Ordering.{is_ge}
use Rattle.std.specs.declared.cmp.Ordering.{Ordering}
use Rattle.std.specs.declared.cmp.Ordering.TheVariants.{Less, Equal, Greater}
use Rattle.std.proofs.lemmas.Cmp.{nat_list_cmp_total}
use Rattle.std.proofs.lemmas.Map.Keys.{sorted_from_all_adjacent, Less-from_sorted}

-- what a comparison by `>=` says
pub not_less : (o : Ordering) → true ≡ is_ge o → o ≡ Less → ⊥
not_less Less h e = cc
not_less Equal h e = cc
not_less Greater h e = cc

-- each of the first names is below the next
abbrev pub AscendTo : List (List ℕ) → ℕ → Type 0
AscendTo names i = (k : ℕ) → k + 1 < i → slice_cmp nat_cmp (get_or names k []) (get_or names (k + 1) []) ≡ Less

pub all_ascend : (names : List (List ℕ)) (i : ℕ) → length names ≤ i → AscendTo names i → IsStrictlySortedBy (slice_cmp nat_cmp) names
all_ascend names i all ascend = sorted_from_all_adjacent nat_list_cmp_total names [] (λ k few. ascend k (omega arith))

pub falls : (names : List (List ℕ)) (i : ℕ) (name next : List ℕ) → 1 ≤ i → i < length names → name ≡ get_or names (i - 1) name → next ≡ get_or names i next →
    true ≡ is_ge (slice_cmp nat_cmp name next) → IsStrictlySortedBy (slice_cmp nat_cmp) names → ⊥
falls names i name next some few first second ge sorted =
    let below = Less-from_sorted (slice_cmp nat_cmp) names (i - 1) i [] sorted (omega arith) few in
    let name_is : get_or names (i - 1) [] ≡ name = get_or_default names (i - 1) [] name (omega arith) ∙ sym first in
    let next_is : get_or names i [] ≡ next = get_or_default names i [] next few ∙ sym second in
    not_less _ ge (rw (name_is, next_is) at below)
