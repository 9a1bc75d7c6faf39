-- Which leases are listed where a test looks at holders alone.
use Rattle.assise_lease_tree.proofs.Common.{◌≡◌, ℕ, ◌==◌, Bool, true, false, cond, not, ◌&&◌, ◌||◌, List, [], ◌∷◌, Option, Some, sym, refl, ap, ◌∙◌, list_any}
use Rattle.assise_lease_tree.proofs.Common.{list_all, and_parts, eqb-true, is_unasked, stand_together, compatible, is_own, is_to_ask, lease_of, Lease, others}
use Rattle.assise_lease_tree.proofs.Common.{not_wanted}

module _ (by : ℕ → Bool) where
  abbrev chosen : ℕ → Lease → Bool
  chosen c l = is_own c l && is_to_ask (λ k. by k.holder) l

  abbrev pub left_of : ℕ → List Lease → Bool
  left_of c ls = by c && is_unasked (lease_of ls c)

  none_left : (l : Lease) (ls : List Lease) → list_all (stand_together l) ls ≡ true → list_any (chosen l.holder) ls ≡ false
  none_left l [] e = refl
  none_left l (k ∷ ks) e = let parts = and_parts (stand_together l k) (list_all (stand_together l) ks) e in
      not_wanted (is_own l.holder k) (is_to_ask (λ z. by z.holder) k) (list_any (chosen l.holder) ks) (others l k parts.0) (none_left l ks parts.1)

  nothing_left : (b : Bool) → false ≡ (b && false)
  nothing_left true = refl
  nothing_left false = refl

  alone : (a b rest : Bool) → rest ≡ false → ((a && b) || rest) ≡ (b && a)
  alone true true rest e = refl
  alone true false rest e = e
  alone false true rest e = e
  alone false false rest e = e

  left_step : (b : Bool) (l : Lease) (c : ℕ) (found : Option Lease) (rest : Bool) → (b ≡ true → (l.holder ≡ c) × (rest ≡ false)) →
      rest ≡ (by c && is_unasked found)
      → ((b && (not l.revoked && by l.holder)) || rest) ≡ (by c && is_unasked (cond b (Some l) found))
  left_step true l c found rest here more = let is = here refl in alone (not l.revoked) (by l.holder) rest is.1 ∙ ap (λ z. by z && not l.revoked) is.0
  left_step false l c found rest here more = more

  -- of compatible leases a holder's is listed where the test looks at holders alone and the lease isn't revoked
  pub listed_of : (c : ℕ) (ls : List Lease) → compatible ls ≡ true → list_any (chosen c) ls ≡ left_of c ls
  listed_of c [] fits = nothing_left (by c)
  listed_of c (l ∷ ls) fits =
      let parts = and_parts (list_all (stand_together l) ls) (compatible ls) fits in
      left_step (l.holder == c) l c (lease_of ls c) (list_any (chosen c) ls)
      (λ own. let same = eqb-true l.holder c own in (same, ap (λ z. list_any (chosen z) ls) (sym same) ∙ none_left l ls parts.0))
      (listed_of c ls parts.1)
