use Rattle.assise_names.proofs.Common.{[], ◌∷◌, Ok, ap, sym, ◌∙◌, err_from_is_err_and}
use Rattle.assise_names.proofs.FewNames.{no_first, no_second, no_third, three_named}
use Rattle.assise_names.proofs.PathLemmas.{faulty}
use Rattle.assise_names.proofs.path.path_of_three.Goals as goal

pub returns-in_err-first-clause-first_fault : goal.returns-in_err-first-clause-first_fault
returns-in_err-first-clause-first_fault c =
    let y = err_from_is_err_and c.from_residual.result c.from_residual.ensures.1 in
    rw y.1 (faulty _ c.args.text.now _ _ y.2 c.in_err-first.ensures.first_fault (no_first c.args.text.now (c.args.next.now ∷ c.args.last.now ∷ []) _))

pub returns-in_err-second-clause-first_fault : goal.returns-in_err-second-clause-first_fault
returns-in_err-second-clause-first_fault c =
    let y = err_from_is_err_and c.from_residual-in_err-second.result c.from_residual-in_err-second.ensures.1 in
    rw y.1 (faulty _ c.args.next.now _ _ y.2 c.in_err-second.ensures.first_fault
    (no_second c.args.text.now c.args.next.now _ (c.args.last.now ∷ []) _ c.in_ok-first.ensures.first_fault))

pub returns-in_err-third-clause-first_fault : goal.returns-in_err-third-clause-first_fault
returns-in_err-third-clause-first_fault c =
    let y = err_from_is_err_and c.from_residual-in_err-third.result c.from_residual-in_err-third.ensures.1 in
    rw y.1 (faulty _ c.args.last.now _ _ y.2 c.in_err-third.ensures.first_fault
    (no_third c.args.text.now c.args.next.now c.args.last.now _ _ [] _ c.in_ok-first.ensures.first_fault c.in_ok-second.ensures.first_fault))

pub returns-clause-first_fault : goal.returns-clause-first_fault
returns-clause-first_fault c =
    three_named c.args.text.now c.args.next.now c.args.last.now c.in_ok-first.first c.in_ok-second.second c.in_ok-third.third
    c.in_ok-first.ensures.first_fault c.in_ok-second.ensures.first_fault c.in_ok-third.ensures.first_fault
    ∙ ap Ok (sym c.in_ok-new.ensures.ok)
