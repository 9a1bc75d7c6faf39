-- Where the walk for a client's lost changes ends: all its calls in front of that have lower numbers.
use Rattle.assise_files.proofs.Common.{◌≡◌, ℕ, ◌+◌, ◌<◌, ◌≤◌, true, false, ◌==◌, nat_le, List, [], ◌∷◌, ◌++◌, reverse, refl, ap, sym, ◌∙◌, inl, inr, arith}
use Rattle.assise_files.proofs.Common.{append_assoc, and_parts, cases_Bool, eqb-true, leb-true, lt-leb, Call, EntryValue, opens, calls, crashes, fails, returns}
use Rattle.assise_files.proofs.Common.{calls_made, made_before, is_lost_change, lost_changes, AreFound, IsNumbered, is_call_to}
use Rattle.assise_files.specs.declared.redo.Lost.{Lost}

none_earlier : (c first : ℕ) (front later : List EntryValue) →
    ((before behind : List EntryValue) (y : Call) → front ≡ before ++ calls y ∷ behind → c ≡ y.client → y.number < first) →
    lost_changes c first (front ++ later) ≡ lost_changes c first later
none_earlier c first [] later early = refl
none_earlier c first (calls y ∷ es) later early =
    let rest : lost_changes c first (es ++ later) ≡ lost_changes c first later = none_earlier c first es later
    (λ before behind z split. early (calls y ∷ before) behind z (ap (λ xs. calls y ∷ xs) split)) in
    let none : is_lost_change c first (es ++ later) y ≡ false =
    elim (cases_Bool (c == y.client)) [
      | inl own ↦ let low : nat_le first y.number ≡ false = lt-leb first y.number (early [] es y refl (eqb-true c y.client own)) in rw (own, low) refl
      | inr other ↦ rw other refl
    ] in
    rw none rest
none_earlier c first (opens d n u ∷ es) later early =
    none_earlier c first es later (λ before behind z split. early (opens d n u ∷ before) behind z (ap (λ xs. opens d n u ∷ xs) split))
none_earlier c first (crashes d ∷ es) later early =
    none_earlier c first es later (λ before behind z split. early (crashes d ∷ before) behind z (ap (λ xs. crashes d ∷ xs) split))
none_earlier c first (fails n losses ∷ es) later early =
    none_earlier c first es later (λ before behind z split. early (fails n losses ∷ before) behind z (ap (λ xs. fails n losses ∷ xs) split))
none_earlier c first (returns n ∷ es) later early =
    none_earlier c first es later (λ before behind z split. early (returns n ∷ before) behind z (ap (λ xs. returns n ∷ xs) split))

pub walk_ends : (c first : ℕ) (h before later : List EntryValue) (e : EntryValue) (lost : Lost) → IsNumbered h → before ++ e ∷ later ≡ h →
    is_call_to c first e ≡ true → AreFound c first (e ∷ later) lost →
    lost.changes.items ≡ reverse (lost_changes c first h)
walk_ends c first h before later (calls x) lost numbered split is found =
    let parts = and_parts (c == x.client) (nat_le x.number first) is in
    let client : c ≡ x.client = eqb-true c x.client parts.0 in
    let low : x.number ≤ first = leb-true x.number first parts.1 in
    let number : x.number ≡ calls_made x.client before = numbered before later x (sym split) in
    let early : (b behind : List EntryValue) (y : Call) → before ≡ b ++ calls y ∷ behind → c ≡ y.client → y.number < first =
    λ b behind y at own.
    let its : y.number ≡ calls_made y.client b = numbered b (behind ++ calls x ∷ later) y
    (sym split ∙ ap (λ xs. xs ++ calls x ∷ later) at ∙ append_assoc b (calls y ∷ behind) (calls x ∷ later)) in
    let few : calls_made c b + 1 ≤ calls_made c before = made_before before b behind y c at (sym own) in
    let its_own : y.number ≡ calls_made c b = its ∙ ap (λ d. calls_made d b) (sym own) in
    let all : x.number ≡ calls_made c before = number ∙ ap (λ d. calls_made d before) (sym client) in
    omega (arith, few, its_own, all, low) in
    found.changes ∙ ap reverse (sym (none_earlier c first before (calls x ∷ later) early)) ∙ ap (λ xs. reverse (lost_changes c first xs)) split
walk_ends c first h before later (opens d n u) lost numbered split is found = cc
walk_ends c first h before later (crashes d) lost numbered split is found = cc
walk_ends c first h before later (fails n losses) lost numbered split is found = cc
walk_ends c first h before later (returns n) lost numbered split is found = cc
