-- Legal histories, one entry at a time.
use Rattle.assise_history.proofs.Common.{◌≡◌, ◌↔◌, List, [], ◌∷◌, ◌++◌, refl, ap, subst, ◌∙◌, inl, inr, append_assoc, opening, EntryValue, kept, IsRun, IsLegal}
use Rattle.assise_history.proofs.Common.{Fits, arith}
use Rattle.assise_history.proofs.Shared.TestedElements.{by_ends, cut_end, not_nil}

-- where nothing happened
pub legal-nil : IsLegal []
unfolding IsLegal
legal-nil = λ prefix later e h. absurd (not_nil prefix later e h)

-- one entry more that fits
pub legal-push : (h : List EntryValue) (e : EntryValue) → IsLegal h → Fits h e → IsLegal (h ++ e ∷ [])
unfolding IsLegal
legal-push h e legal fits = λ prefix later x same.
    elim (cut_end h e prefix x later same) [
      | inl last ↦ subst (λ f. Fits f x) last.prefix_is (subst (Fits h) last.last_is fits)
      | inr earlier ↦ legal prefix earlier.rest x earlier.split
    ]

pub legal-prefix : (h more : List EntryValue) → IsLegal (h ++ more) → IsLegal h
unfolding IsLegal
legal-prefix h more legal = λ prefix rest x same. legal prefix (rest ++ more) x (ap (λ g. g ++ more) same ∙ append_assoc prefix (x ∷ rest) more)

pub legal-last : (h : List EntryValue) (e : EntryValue) → IsLegal (h ++ e ∷ []) → Fits h e
unfolding IsLegal
legal-last h e legal = legal h [] e refl

pub one_more : (h : List EntryValue) (e : EntryValue) → IsLegal (h ++ e ∷ []) ↔ (IsLegal h × Fits h e)
one_more h e = grind (arith, legal-prefix, legal-last, legal-push)

-- an entry in the midst, and a prefix
pub fits_in : (h before later : List EntryValue) (e : EntryValue) → IsLegal h → h ≡ before ++ e ∷ later → Fits before e
unfolding IsLegal
fits_in h before later e legal split = legal before later e split

pub prefix_in : (h before later : List EntryValue) → IsLegal h → h ≡ before ++ later → IsLegal before
prefix_in h before later legal split = legal-prefix before later (subst IsLegal split legal)

pub legal_from : (h : List EntryValue) → ((before later : List EntryValue) (e : EntryValue) → h ≡ before ++ e ∷ later → Fits before e) → IsLegal h
unfolding IsLegal
legal_from h each = each

-- one entry after another
pub along : (P : List EntryValue → Type 0) → P [] → ((h : List EntryValue) (e : EntryValue) → IsLegal h → Fits h e → P h → P (h ++ e ∷ [])) →
    (h : List EntryValue) → IsLegal h → P h
along P none step h =
    by_ends (λ g. IsLegal g → P g) (λ legal. none)
    (λ g e before legal. let l = legal-prefix g (e ∷ []) legal in step g e l (legal-last g e legal) (before l)) h

-- what is kept of a legal history, and of each prefix of it, is a run
pub legal_run : (h : List EntryValue) → IsLegal h → IsRun opening (kept h)
legal_run = along (λ h. IsRun opening (kept h)) tt (λ h e legal fits before. fits.run)

pub prefix_run : (h prefix later : List EntryValue) → IsLegal h → h ≡ prefix ++ later → IsRun opening (kept prefix)
prefix_run h prefix later legal split = legal_run prefix (prefix_in h prefix later legal split)
