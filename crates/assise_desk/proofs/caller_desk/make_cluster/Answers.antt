use Rattle.assise_desk.proofs.Common.{arith, err_from_is_err_and, cluster_lacks_memory}
use Rattle.assise_desk.proofs.DeskSteps.{is_in_range}
use Rattle.assise_desk.proofs.caller_desk.make_cluster.Goals as goal

pub returns-in_err-new-clause-fault : goal.returns-in_err-new-clause-fault
returns-in_err-new-clause-fault c =
    let p = err_from_is_err_and c.from_residual-in_err-new.result c.from_residual-in_err-new.ensures.1 in
    rw p.1
    (cluster_lacks_memory
    (is_in_range c.args.request.now (omega (arith, c.if-nodes-eq0.false)) (omega (arith, c.if-nodes-gt-MOST_NODES.false)) (omega (arith, c.if-log-lt8.false))
    (omega (arith, c.if-log-gt4096.false))
    (omega (arith, c.if-hot-lt1.false)) (omega (arith, c.if-hot-gt4096.false)))
    p.2)
