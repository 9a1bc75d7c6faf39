use Rattle.assise_names.proofs.Common.{◌≡◌, ◌∙◌, [], lit<, sym, ap, subst, Ok, Err, inr, strip_prefix_char, err_from_is_err_and, SpellsPath, path_of, Memory}
use Rattle.assise_names.proofs.Common.{NotAbsolute}
use Rattle.assise_names.proofs.PathLemmas.{behind_a_slash, no_slash, path_kind}
use Rattle.assise_names.proofs.Spellings.{spelled_behind}
use Rattle.assise_names.proofs.path.path_of.Goals as goal

pub returns-in_default-clause-first_fault : goal.returns-in_default-clause-first_fault
returns-in_default-clause-first_fault c =
    inr (no_slash _ c.strip_prefix.result (strip_prefix_char 47 _ _ c.strip_prefix.ensures.cases (lit< tt)) c.in_default.is)

pub returns-in_default-clause-faults : goal.returns-in_default-clause-faults
returns-in_default-clause-faults c =
    let none = no_slash _ c.strip_prefix.result (strip_prefix_char 47 _ _ c.strip_prefix.ensures.cases (lit< tt)) c.in_default.is in
    λ fault h. (let both : Err NotAbsolute ≡ Err fault = sym none ∙ h in let same : NotAbsolute ≡ fault = cc in ap Err same)

pub returns-in_default-clause-root : goal.returns-in_default-clause-root
returns-in_default-clause-root c =
    let none = no_slash _ c.strip_prefix.result (strip_prefix_char 47 _ _ c.strip_prefix.ensures.cases (lit< tt)) c.in_default.is in
    λ root. absurd (let bad : Ok [] ≡ Err NotAbsolute = ap path_of (sym root) ∙ none in cc)

pub returns-in_err-check-in-Err-Memory-clause-memory : goal.returns-in_err-check-in-Err-Memory-clause-memory
returns-in_err-check-in-Err-Memory-clause-memory c =
    let y = err_from_is_err_and c.from_residual.result c.from_residual.ensures.1 in
    λ is. absurd (path_kind c.args.text.now
    (c.in_err-check-in-Err-Memory.ensures.first_fault ∙ ap Err (sym y.2 ∙ (let both : Err y.0 ≡ Err Memory = sym y.1 ∙ is in cc))))

pub returns-in-Ok-clause-spelled : goal.returns-in-Ok-clause-spelled
returns-in-Ok-clause-spelled c =
    let text = behind_a_slash c.args.text.now c.strip_prefix.result c.in-Some.rest (strip_prefix_char 47 _ _ c.strip_prefix.ensures.cases (lit< tt))
    c.in-Some.is in
    let path = c.in-Ok.path in
    subst (λ t. SpellsPath t path) (sym text) (spelled_behind c.in-Some.rest.now path c.in-Ok.ensures.first_fault c.in-Ok.ensures.lawful)
