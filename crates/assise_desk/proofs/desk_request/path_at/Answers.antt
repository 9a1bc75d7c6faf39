use Rattle.assise_desk.proofs.Common.{err_from_is_err_and}
use Rattle.assise_desk.proofs.PathFaults.{fault_of_text}
use Rattle.assise_desk.proofs.desk_request.path_at.Goals as goal

pub returns-in_err-parse-in-Ok-clause-err : goal.returns-in_err-parse-in-Ok-clause-err
returns-in_err-parse-in-Ok-clause-err c =
    let p = err_from_is_err_and c.from_residual.result c.from_residual.ensures.1 in
    rw p.1 (fault_of_text c.args.bytes.now c.in-Ok.text.now c.in_err-parse-in-Ok.field-0.0 p.0 c.in-Ok.ensures.cases.0 c.in_err-parse-in-Ok.ensures.first_fault
    p.2)
