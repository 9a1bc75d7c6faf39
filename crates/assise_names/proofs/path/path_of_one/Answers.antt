use Rattle.assise_names.proofs.Common.{[], Ok, ap, sym, ◌∙◌, err_from_is_err_and}
use Rattle.assise_names.proofs.FewNames.{no_first, one_named}
use Rattle.assise_names.proofs.PathLemmas.{faulty}
use Rattle.assise_names.proofs.path.path_of_one.Goals as goal

pub returns-in_err-name-clause-first_fault : goal.returns-in_err-name-clause-first_fault
returns-in_err-name-clause-first_fault c =
    let y = err_from_is_err_and c.from_residual.result c.from_residual.ensures.1 in
    rw y.1 (faulty _ c.args.text.now _ _ y.2 c.in_err-name.ensures.first_fault (no_first c.args.text.now [] _))

pub returns-clause-first_fault : goal.returns-clause-first_fault
returns-clause-first_fault c = one_named c.args.text.now c.in_ok-name.name c.in_ok-name.ensures.first_fault ∙ ap Ok (sym c.in_ok-new.ensures.ok)
