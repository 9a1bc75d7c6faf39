use Rattle.assise_libfs.proofs.Common.{◌∙◌, Err, ap, turn_answer}
use Rattle.std.proofs.lemmas.Result.{err_from_is_err_and}
use Rattle.assise_libfs.proofs.Faults.{trying_refused}
use Rattle.assise_libfs.proofs.cluster.ClusterOfServed.try_call.Goals as goal

pub returns-in_err-reply-clause-refused : goal.returns-in_err-reply-clause-refused
returns-in_err-reply-clause-refused g c =
    let error = err_from_is_err_and c.from_residual.result c.from_residual.ensures.1 in
    rw (error.1 ∙ ap Err error.2) (
    trying_refused _ c.args.self.now.sound.invariant.holds _ c.args.client c.args.op.now _ c.in_err-reply.field-0.0 c.try_call.ensures.happens
    (ap turn_answer c.in_err-reply.was))
