-- Who may open clients before and after a step.
use Rattle.assise_keeper.proofs.Common.{◌≡◌, ℕ, List, [], Option, sym, refl, ap, ◌∙◌, EntryValue, Opens, Never, Alone, AmongOthers, openings_of, MayAddAll}
use Rattle.assise_keeper.proofs.Common.{MayOpenClients, Opener, alone, anyone, HasRight, Owner}
use Rattle.assise_keeper.proofs.Shared.PassAdds.{no_openings}

-- the half that may open alone
abbrev lone : Owner → Opener → Owner
lone at (alone other) = other
lone at anyone = at

-- where one half may open alone, no other may open
none_else : (was who : Opener) (from at : Owner) (p : Opens) → was ≡ alone from → (at ≡ from → ⊥) → HasRight was at p → HasRight who at p
none_else was who from at Never is other has = tt
none_else was who from at Alone is other has = absurd (other (ap (lone at) (sym has ∙ is)))
none_else was who from at AmongOthers is other has = absurd (let e : alone from ≡ anyone = sym is ∙ has in (cc))

-- The half `from` has the first right then and the half `to` the second; all others have what they had.
pub record Moved (was : Opener) (from to : Owner) (left right : Opens) : Type 0 where
  pub who : Opener
  pub first : HasRight who from left
  pub second : HasRight who to right
  pub others : (at : Owner) (p : Opens) → (at ≡ from → ⊥) → HasRight was at p → HasRight who at p

-- of a right there may be left the first to the half that has it, and the second to another
abbrev pub CanPart : Opens → Opens → Opens → Type 0
CanPart o left right = (was : Opener) (from to : Owner) → HasRight was from o → Moved was from to left right

pub keeps_right : (o : Opens) → CanPart o o Never
keeps_right o was from to has = record { who = was; first = has; second = tt; others = λ at p other h. h }

pub passes_on : (o : Opens) → CanPart o Never o
passes_on Never was from to has = record { who = was; first = tt; second = tt; others = λ at p other h. h }
passes_on Alone was from to has = record { who = alone to; first = tt; second = refl; others = λ at p other h. none_else was (alone to) from at p has other h }
passes_on AmongOthers was from to has = record { who = was; first = tt; second = has; others = λ at p other h. h }

pub shares : (o : Opens) → MayOpenClients o → CanPart o AmongOthers AmongOthers
shares Never may was from to has = absurd may
shares Alone may was from to has = record { who = anyone; first = refl; second = refl; others = λ at p other h. none_else was anyone from at p has other h }
shares AmongOthers may was from to has = record { who = was; first = has; second = has; others = λ at p other h. h }

-- where another half may open alone, no opening is added
pub adds_none : (who : Opener) (from at : Owner) (o : Opens) (c : Option ℕ) (xs : List EntryValue) → HasRight who from o → MayAddAll c o xs → (at ≡ from → ⊥) →
    who ≡ alone at → openings_of xs ≡ []
adds_none who from at Never c xs has own other is = no_openings c xs own
adds_none who from at Alone c xs has own other is = absurd (other (ap (lone at) (sym is ∙ has)))
adds_none who from at AmongOthers c xs has own other is = absurd (let e : alone at ≡ anyone = sym is ∙ has in (cc))

-- where another half may open alone, this one may open none
pub opens_none : (who : Opener) (from at : Owner) (o : Opens) → HasRight who from o → (at ≡ from → ⊥) → HasRight who at Alone → o ≡ Never
opens_none who from at Never has other is = refl
opens_none who from at Alone has other is = absurd (other (ap (lone at) (sym is ∙ has)))
opens_none who from at AmongOthers has other is = absurd (let e : alone at ≡ anyone = sym is ∙ has in (cc))
