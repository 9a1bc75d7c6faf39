-- What one more entry leaves of what a book keeps.
use Rattle.assise_keeper_tests.proofs.Common.{◌≡◌, ◌≢◌, ℕ, ◌+◌, ◌≤◌, List, [], ◌∷◌, ◌++◌, refl, sym, ap, ◌∙◌, ne_eqb, eq-eqb, arith, EntryValue, opens, calls}
use Rattle.assise_keeper_tests.proofs.Common.{OpensOnce, openings, openings-append}
use mathlib.Core.Logic.{dite}
use native.Mathlib.Decide.{ℕ_discrete}
use Rattle.assise_names.specs.declared.durability.Durability.{Durability}
use Rattle.assise_history.specs.declared.call.Call.{Call}

pub once_called : (h : List EntryValue) (x : Call) → OpensOnce h → OpensOnce (h ++ calls x ∷ [])
once_called h x once d = let o = once d in omega (arith, openings-append d h (calls x ∷ []))

pub unused_called : (h : List EntryValue) (next : ℕ) (x : Call) → ((d : ℕ) → next ≤ d → openings d h ≡ 0) → (d : ℕ) → next ≤ d → openings d (h ++ calls x ∷ [])
    ≡ 0
unused_called h next x unused d le = let o = unused d le in omega (arith, openings-append d h (calls x ∷ []))

one_opening : (c n : ℕ) (u : Durability) (d : ℕ) → openings d (opens c n u ∷ []) ≤ 1
one_opening c n u d = dite (ℕ_discrete c d) (λ e. rw (eq-eqb c d e) (omega arith)) (λ ne. rw (ne_eqb c d ne) (omega arith))

pub once_opened : (h : List EntryValue) (c n : ℕ) (u : Durability) → openings c h ≡ 0 → OpensOnce h → OpensOnce (h ++ opens c n u ∷ [])
once_opened h c n u none once d = let o = once d in let one = one_opening c n u d in
    dite (ℕ_discrete c d) (λ e. let z : openings d h ≡ 0 = ap (λ (z : ℕ). openings z h) (sym e) ∙ none in omega (arith, openings-append d h (opens c n u ∷ [])))
    (λ ne. let z : openings d (opens c n u ∷ []) ≡ 0 = rw (ne_eqb c d ne) refl in omega (arith, openings-append d h (opens c n u ∷ [])))

pub unused_opened : (h : List EntryValue) (c n : ℕ) (u : Durability) → ((d : ℕ) → c ≤ d → openings d h ≡ 0) → (d : ℕ) → c + 1 ≤ d →
    openings d (h ++ opens c n u ∷ []) ≡ 0
unused_opened h c n u unused d le = let o = unused d (omega arith) in let ne : c ≢ d = λ e. omega arith in
    let z : openings d (opens c n u ∷ []) ≡ 0 = rw (ne_eqb c d ne) refl in omega (arith, openings-append d h (opens c n u ∷ []))
