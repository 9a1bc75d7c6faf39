-- What is written to a text that is empty is the text.
use Rattle.assise_console.proofs.Common.{◌≡◌, ◌∙◌, List, ℕ, [], ◌∷◌, ◌++◌, Result, Ok, Err, OnOk, IsOk, ap, sym, append-nil, append_assoc, WritesInCalls}
use Rattle.assise_console.proofs.Common.{FoldsTo, concat}
use Rattle.arrayvec.specs.ArrayString.{ArrayString}

pub on_ok : {T E : Type 0} {P : Type 0} (r : Result T E) → IsOk r → OnOk r P → P
on_ok (Ok x) is p = p
on_ok (Err e) is p = cc

-- a text has what it is given behind what it had
abbrev Grows : ArrayString → List ℕ → ArrayString → Type 0
Grows s bytes t = t.bytes ≡ s.bytes ++ bytes

grown : (s t : ArrayString) (parts : List (List ℕ)) → FoldsTo Grows s parts t → t.bytes ≡ s.bytes ++ concat parts
grown s t [] h = ap (λ x. x.bytes) (sym h) ∙ sym (append-nil s.bytes)
grown s t (part ∷ parts) h = grown h.0 t parts h.2 ∙ ap (λ bytes. bytes ++ concat parts) h.1 ∙ append_assoc s.bytes part (concat parts)

pub whole_text : (s t : ArrayString) (bytes : List ℕ) → s.bytes ≡ [] → WritesInCalls Grows s bytes t → t.bytes ≡ bytes
whole_text s t bytes empty h = grown s t h.parts h.calls ∙ ap (λ front. front ++ concat h.parts) empty ∙ h.whole
