use Rattle.assise_desk.proofs.Common.{arith, cluster_seen}
use Rattle.assise_desk.proofs.DeskSteps.{hot_set}
use Rattle.assise_desk.proofs.caller_desk.set_hot.Goals as goal

pub returns-clause-sets : goal.returns-clause-sets
returns-clause-sets c =
    hot_set c.args.request.now c.done_told.result c.set_hot.result (cluster_seen c.args.files.now) (cluster_seen c.set_hot.new.self)
    (omega (arith, c.if-request-lt1.false)) (omega (arith, c.if-request-gt4096.false)) c.done_told.ensures c.set_hot.ensures.happens
