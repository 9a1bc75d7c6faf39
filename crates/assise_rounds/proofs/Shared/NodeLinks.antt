-- Links of nodes: what is known of one, and what stays where one is used.
use Rattle.assise_rounds.proofs.Common.{◌≡◌, ◌≤◌, ℕ, zero, suc, ◌-◌, List, [], ◌∷◌, length, map, slice_index_or, slice_set, refl, ap, sym, subst, arith, Kind}
use Rattle.assise_rounds.proofs.Common.{perfect, FaithfulAt}

module _ {L : Type 0} (f : L → Kind) where
  at_place : (links : List L) (k : ℕ) (d : L) → FaithfulAt (map f links) (suc k) → f (slice_index_or links k d) ≡ perfect
  at_place [] k d h = absurd h
  at_place (l ∷ links) zero d h = h
  at_place (l ∷ links) (suc k) d h = at_place links k d h

  -- the link of node n
  pub at_node : (links : List L) (n : ℕ) (d : L) → FaithfulAt (map f links) n → f (slice_index_or links (n - 1) d) ≡ perfect
  at_node links zero d h = absurd h
  at_node links (suc k) d h = grind (arith, at_place links k d h)

  -- a link is used, and stays of its kind
  pub set_same : (links : List L) (k : ℕ) (d now : L) → f now ≡ f (slice_index_or links k d) → map f (slice_set links k now) ≡ map f links
  set_same [] k d now same = refl
  set_same (l ∷ links) zero d now same = ap (λ k. k ∷ map f links) same
  set_same (l ∷ links) (suc k) d now same = ap (λ ks. f l ∷ ks) (set_same links k d now same)

  -- where each link is faithful
  pub all_faithful : ((l : L) → f l ≡ perfect) → (links : List L) (n : ℕ) → 1 ≤ n → n ≤ length links → FaithfulAt (map f links) n
  all_faithful all links zero some few = absurd (omega (arith, some))
  all_faithful all [] (suc n) some few = absurd (omega (arith, few))
  all_faithful all (l ∷ links) (suc zero) some few = all l
  all_faithful all (l ∷ links) (suc (suc n)) some few = all_faithful all links (suc n) (omega arith) (omega (arith, few))

-- what was known of a node's link is known where all are of the kinds that they were
pub still : (old now : List Kind) (n : ℕ) → now ≡ old → FaithfulAt old n → FaithfulAt now n
still old now n same h = subst (λ ks. FaithfulAt ks n) (sym same) h
