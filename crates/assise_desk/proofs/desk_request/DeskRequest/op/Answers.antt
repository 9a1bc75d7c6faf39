use Rattle.assise_desk.proofs.Common.{rules, err_from_is_err_and, other_faults}
use Rattle.assise_desk.proofs.PathFaults.{fault_of_path}
use Rattle.assise_desk.proofs.desk_request.DeskRequest.op.Goals as goal

pub returns-in_err-path-clause-err : goal.returns-in_err-path-clause-err
returns-in_err-path-clause-err c =
    let p = err_from_is_err_and c.from_residual.result c.from_residual.ensures.1 in
    rw (p.1, p.2) (fault_of_path c.args.call c.args.path.now c.args.other.now c.in_err-path.field-0.0 (λ is. search (rules, is)) (λ is. search (rules, is))
    c.in_err-path.ensures.err)

pub returns-in_err-path_at-in-Rename-clause-err : goal.returns-in_err-path_at-in-Rename-clause-err
returns-in_err-path_at-in-Rename-clause-err c =
    let p = err_from_is_err_and c.from_residual-in_err-path_at-in-Rename.result c.from_residual-in_err-path_at-in-Rename.ensures.1 in
    rw (p.1, p.2, c.in-Rename.is) (other_faults c.in_ok-path.path c.in_ok-path.ensures.ok c.in_err-path_at-in-Rename.ensures.err)
