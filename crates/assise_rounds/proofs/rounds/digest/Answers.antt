use Rattle.assise_rounds.proofs.Common.{digested, refused, machine}
use Rattle.assise_rounds.proofs.RoundSteps.{digests_once}
use Rattle.assise_rounds.proofs.rounds.digest.Goals as goal

pub returns-in-Ok : goal.returns-in-Ok
returns-in-Ok g c = digests_once (machine c.args.cluster.now) (machine c.digest.new.self) c.args.node (digested c.in-Ok.count) c.in-Ok.ensures.happens

pub returns-in-Err : goal.returns-in-Err
returns-in-Err g c = digests_once (machine c.args.cluster.now) (machine c.digest.new.self) c.args.node (refused c.in-Err.field-0) c.in-Err.ensures.happens
