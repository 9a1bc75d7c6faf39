-- Who owns a client, and how a half of a view outlives a step.
use Rattle.assise_keeper.proofs.Common.{◌≡◌, ◌≢◌, ℕ, ◌+◌, ◌<◌, eqb, ◌⊎◌, Bool, true, false, cond, List, [], ◌∷◌, ◌++◌, length, sym, refl, ap, ◌∙◌, subst, inl}
use Rattle.assise_keeper.proofs.Common.{inr, ⊎_elim, Option, Some, None, ne_eqb, eq-eqb, arith, append-nil, some, some-ne-none, some-injective, get_elem?}
use Rattle.assise_keeper.proofs.Common.{EntryValue, Half, Opens, Alone, OpensOnce, openings, openings_of, calls_by, client_after, MayAddAll, HalfFits, HasRight}
use Rattle.assise_keeper.proofs.Common.{Opener}
use Rattle.assise_keeper.proofs.Shared.PassAdds.{no_calls, was_or_opened, calls-append, openings-append, all-openings-append, opened-in, extends-further}
use Rattle.assise_keeper.proofs.Rights.{adds_none}

pub at_snoc_place : {A : Type 0} (l : List A) (a b : A) (j : ℕ) → get_elem? (l ++ a ∷ []) j ≡ some b → (get_elem? l j ≡ some b) ⊎ ((j ≡ length l) × (a ≡ b))
at_snoc_place [] a b Rattle.std.proofs.Common.zero e = inr (refl, some-injective a b e)
at_snoc_place [] a b (Rattle.std.proofs.Common.suc j) e = absurd (some-ne-none b (sym e))
at_snoc_place (x ∷ xs) a b Rattle.std.proofs.Common.zero e = inl e
at_snoc_place (x ∷ xs) a b (Rattle.std.proofs.Common.suc j) e = grind (arith, at_snoc_place xs a b j e)

abbrev pub half_of : ℕ → Bool → ℕ × Bool
half_of j side = (j, side)

pub no_side : (j id : ℕ) → half_of j false ≡ half_of id true → ⊥
no_side j id e = let t : false ≡ true = ap (λ (z : ℕ × Bool). z.1) e in (cc)

pub no_side' : (j id : ℕ) → half_of j true ≡ half_of id false → ⊥
no_side' j id e = let t : true ≡ false = ap (λ (z : ℕ × Bool). z.1) e in (cc)

pub same_seat : (j id : ℕ) (a b : Bool) → half_of j a ≡ half_of id b → j ≡ id
same_seat j id a b e = ap (λ (z : ℕ × Bool). z.0) e

-- the owners once the client, if there is one, has a new one
abbrev pub owns : (ℕ → ℕ × Bool) → ℕ × Bool → Option ℕ → ℕ → ℕ × Bool
owns owner at None = owner
owns owner at (Some c) = λ y. cond (eqb y c) at (owner y)

pub owns_mine : (owner : ℕ → ℕ × Bool) (at : ℕ × Bool) (c : Option ℕ) (d : ℕ) → c ≡ Some d → owns owner at c d ≡ at
owns_mine owner at None d is = absurd (cc)
owns_mine owner at (Some c) d is = let same : d ≡ c = cc in rw (eq-eqb d c same) refl

pub owns_other : (owner : ℕ → ℕ × Bool) (at : ℕ × Bool) (c : Option ℕ) (d : ℕ) → ¬ (c ≡ Some d) → owns owner at c d ≡ owner d
owns_other owner at None d ne = refl
owns_other owner at (Some c) d ne = let other : d ≢ c = λ e. ne (ap (λ (z : ℕ). let o : Option ℕ = Some z in o) (sym e)) in rw (ne_eqb d c other) refl

-- a half with no client of the new owner stays
pub fits_still : {S : Type 0} (h : List EntryValue) (owner : ℕ → ℕ × Bool) (who : Opener) (j : ℕ) (side : Bool) (v : Half S) (at : ℕ × Bool) (c : Option ℕ) →
    ((d : ℕ) → v.client ≡ Some d → ¬ (c ≡ Some d)) → HalfFits h owner who j side v → HalfFits h (owns owner at c) who j side v
fits_still h owner who j side v at c disjoint f = (f.0, (λ d is. let t = f.1 d is in (t.0, owns_other owner at c d (disjoint d is) ∙ t.1)), f.2)

-- another's half outlives what a pass adds
pub fits_on : {S : Type 0} (h xs : List EntryValue) (owner : ℕ → ℕ × Bool) (who : Opener) (id j : ℕ) (side : Bool) (c : Option ℕ) (o : Opens) (v : Half S) →
    ((d : ℕ) → c ≡ Some d → owner d ≡ (id, true)) → HasRight who (id, true) o → MayAddAll c o xs → OpensOnce (h ++ xs)
    → (half_of j side ≡ half_of id true → ⊥) → HalfFits h owner who j side v → HalfFits (h ++ xs) (owns owner (id, true) (client_after c xs)) who j side v
fits_on h xs owner who id j side c o v mine right own once disjoint f =
    let not_mine : (d : ℕ) → v.client ≡ Some d → ¬ (client_after c xs ≡ Some d) = λ d is e.
    let t = f.1 d is in
    ⊎_elim (λ (a : c ≡ Some d). disjoint (sym t.1 ∙ mine d a))
    (λ (b : 0 < openings d xs). let o = once d in let two = openings-append d h xs in let had = opened-in d h v.seen f.0.0 t.0 in absurd (omega arith))
    (was_or_opened o d c xs own e) in
    let none : v.opens ≡ Alone → openings_of xs ≡ [] = λ is. adds_none who (id, true) (j, side) o c xs right own disjoint
    (subst (HasRight who (j, side)) is f.2) in
    fits_still (h ++ xs) owner who j side v (id, true) (client_after c xs) not_mine (
      (
        extends-further h v.seen xs f.0.0,
        (λ d is. calls-append d h xs ∙ (ap (λ z. calls_by d h ++ z) (no_calls o d c xs own (not_mine d is)) ∙ (append-nil (calls_by d h) ∙ f.0.1 d is))),
        (λ is. all-openings-append h xs ∙ (ap (λ z. openings_of h ++ z) (none is) ∙ (append-nil (openings_of h) ∙ f.0.2 is))),
      ),
      (λ d is. f.1 d is),
      f.2,
    )
