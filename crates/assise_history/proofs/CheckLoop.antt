-- What the check of a history knows of the prefix that it has gone along.
use Rattle.assise_history.proofs.Common.{◌≡◌, ℕ, ◌+◌, ◌<◌, true, false, List, [], ◌∷◌, ◌++◌, length, take, drop, get_or, refl, ap, sym, subst, ◌∙◌, take_more}
use Rattle.assise_history.proofs.Common.{take-append-drop, opening, EntryValue, kept, kept_more, IsRun, IsLegal, Fits, follows, summary, summed_from}
use Rattle.assise_history.proofs.Common.{summary_after, Summary, arith}
use Rattle.assise_history.proofs.Shared.Runs.{kept-push}
use Rattle.assise_history.proofs.Shared.Legality.{legal-push, legal-prefix, legal-last}
use Rattle.assise_history.proofs.Shared.SummaryAgrees.{may_follow, is_allowed}

summed_from-push : (s : Summary) (es : List EntryValue) (e : EntryValue) → summed_from s (es ++ e ∷ []) ≡ summary_after (summed_from s es) e
summed_from-push s [] e = refl
summed_from-push s (x ∷ es) e = summed_from-push (summary_after s x) es e

summary-push : (es : List EntryValue) (e : EntryValue) → summary (es ++ e ∷ []) ≡ summary_after (summary es) e
summary-push es e = summed_from-push _ es e

take_more_read : (es : List EntryValue) (i : ℕ) (e : EntryValue) → i < length es → e ≡ get_or es i e → take (i + 1) es ≡ take i es ++ e ∷ []
take_more_read es i e h is = take_more es i e h ∙ ap (λ x. take i es ++ x ∷ []) (sym is)

-- prefixes of a legal history are legal, and what comes next fits them
prefix_at : (es : List EntryValue) (i : ℕ) → IsLegal es → IsLegal (take i es)
prefix_at es i legal = legal-prefix (take i es) (drop i es) (subst IsLegal (sym (take-append-drop i es)) legal)

fits_at : (es : List EntryValue) (i : ℕ) (e : EntryValue) → i < length es → e ≡ get_or es i e → IsLegal es → Fits (take i es) e
fits_at es i e h is legal = legal-last (take i es) e (subst IsLegal (take_more_read es i e h is) (prefix_at es (i + 1) legal))

-- an entry that the summary bars, or after which what is kept is no run
pub not_allowed : (es : List EntryValue) (i : ℕ) (e : EntryValue) → i < length es → e ≡ get_or es i e → follows (summary (take i es)) e ≡ false → IsLegal es → ⊥
not_allowed es i e h is barred legal = grind (arith, is_allowed, prefix_at, fits_at)

pub no_run : (es : List EntryValue) (i : ℕ) (e : EntryValue) → i < length es → e ≡ get_or es i e → (IsRun opening (kept_more (kept (take i es)) e) → ⊥) →
    IsLegal es → ⊥
no_run es i e h is wrong legal = wrong (subst (IsRun opening) (kept-push (take i es) e) (fits_at es i e h is legal).run)

-- one entry more that passes
pub checked_more : (es : List EntryValue) (i : ℕ) (e : EntryValue) → i < length es → e ≡ get_or es i e → IsLegal (take i es) → follows (summary (take i es)) e
    ≡ true → IsRun opening (kept_more (kept (take i es)) e) → IsLegal (take (i + 1) es)
checked_more es i e h is legal rule run = grind (
  arith,
  take_more_read es i e h is,
  legal-push (take i es) e legal record
      { follows = may_follow (take i es) e legal rule; run = subst (IsRun opening) (sym (kept-push (take i es) e)) run },
)

pub kept_at : (es : List EntryValue) (i : ℕ) (e : EntryValue) → i < length es → e ≡ get_or es i e → kept (take (i + 1) es) ≡ kept_more (kept (take i es)) e
kept_at es i e h is = ap kept (take_more_read es i e h is) ∙ kept-push (take i es) e

pub summary_at : (es : List EntryValue) (i : ℕ) (e : EntryValue) → i < length es → e ≡ get_or es i e → summary (take (i + 1) es)
    ≡ summary_after (summary (take i es)) e
summary_at es i e h is = ap summary (take_more_read es i e h is) ∙ summary-push (take i es) e
