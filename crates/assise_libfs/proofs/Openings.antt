-- What an opening adds to the openings that a pass has seen.
use Rattle.assise_libfs.proofs.Common.{◌≡◌, ◌∙◌, ℕ, List, [], ◌∷◌, ◌++◌, Result, Ok, Err, ap, IfOk, OnErr, Durability, EntryValue, opens, openings_of}
use Rattle.assise_libfs.proofs.Common.{all-openings-append, OpensNoOther}

-- a client is opened behind a history without an opening that wasn't seen
pub no_other_opened : {A X : Type 0} (old taken h new : List EntryValue) (n : ℕ) (u : Durability) (r : Result ℕ X) → (A → openings_of taken ≡ openings_of old) →
    IfOk r (λ c. h ≡ taken ++ opens c n u ∷ []) → new ≡ h → IfOk r (λ c. A → OpensNoOther c n u old new)
no_other_opened old taken h new n u (Ok c) none opened is =
    λ alone. ap openings_of (is ∙ opened) ∙ (all-openings-append taken (opens c n u ∷ []) ∙ ap (λ z. z ++ opens c n u ∷ []) (none alone))
no_other_opened old taken h new n u (Err x) none opened is = tt

-- or none is opened
pub none_opened : {A X : Type 0} (old taken h new : List EntryValue) (r : Result ℕ X) → (A → openings_of taken ≡ openings_of old) → OnErr r (h ≡ taken) →
    new ≡ h → OnErr r (A → openings_of new ≡ openings_of old)
none_opened old taken h new (Ok c) none unchanged is = tt
none_opened old taken h new (Err x) none unchanged is = λ alone. ap openings_of (is ∙ unchanged) ∙ none alone
