use Rattle.assise_names.proofs.Common.{◌≡◌, false, true, IsOk, lit<, subst, strip_prefix_char}
use Rattle.assise_names.proofs.PathLemmas.{no_slash}
use Rattle.assise_names.proofs.path.Path.check.Goals as goal

pub returns-in_default-clause-first_fault : goal.returns-in_default-clause-first_fault
returns-in_default-clause-first_fault c = no_slash _ c.strip_prefix.result (strip_prefix_char 47 _ _ c.strip_prefix.ensures.cases (lit< tt)) c.in_default.is

pub returns-in_default-clause-spells : goal.returns-in_default-clause-spells
returns-in_default-clause-spells c = (
  λ bad. absurd (let no : false ≡ true = bad in cc),
  λ ok. absurd (let no : false ≡ true = subst IsOk (returns-in_default-clause-first_fault c) ok in cc),
)
