use Rattle.assise_desk.proofs.Common.{◌∙◌, Err, [], ap, refl, err_from_is_err_and, asks_for_none, is_called}
use Rattle.assise_desk.proofs.caller_desk.make_call.Goals as goal

pub returns-clause-calls : goal.returns-clause-calls
returns-clause-calls c = (c.call.ensures.tried.0, is_called c.in_ok-op.op c.call.result c.in_ok-op.ensures.ok c.call.ensures.tried.1 c.replied_at.ensures)

pub returns-in_err-op-clause-calls : goal.returns-in_err-op-clause-calls
returns-in_err-op-clause-calls c =
    let error = err_from_is_err_and c.from_residual.result c.from_residual.ensures.1 in
    ([], asks_for_none c.in_err-op.field-0.0 c.in_err-op.ensures.err (error.1 ∙ ap Err error.2) record { told = refl; stays = refl })
