-- Regions of new nodes.
use Rattle.assise_machine_state.proofs.Common.{◌≡◌, ℕ, zero, suc, ◌+◌, [], ◌∷◌, ◌++◌, refl, ap, ◌∙◌, arith, new_region, new_regions}

-- one more
pushed : (count hot : ℕ) → new_regions count hot ++ new_region hot ∷ [] ≡ new_regions (suc count) hot
pushed zero hot = refl
pushed (suc count) hot = ap (λ rs. new_region hot ∷ rs) (pushed count hot)

pub one_region_more : (count hot : ℕ) → new_regions count hot ++ new_region hot ∷ [] ≡ new_regions (count + 1) hot
one_region_more count hot = (let next : suc count ≡ count + 1 = omega arith in pushed count hot ∙ ap (λ n. new_regions n hot) next)
