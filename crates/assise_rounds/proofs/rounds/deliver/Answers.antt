use Rattle.assise_rounds.proofs.Common.{◌≡◌, ◌≤◌, subst, level_of, newest, perfect, machine}
use Rattle.assise_rounds.proofs.CarriedFrames.{is_delivered, is_lost}
use Rattle.assise_rounds.proofs.rounds.deliver.Goals as goal

pub returns-in-Some-clause-delivers : goal.returns-in-Some-clause-delivers
returns-in-Some-clause-delivers g c =
    let read : c.in-Some.came.version ≤ newest (level_of (machine c.args.cluster.now).members.levels c.args.node) =
    subst (λ level. c.in-Some.came.version ≤ level) c.in-Ok.ensures.level c.in-Some.ensures.came.begins.prefix.version in
    rw c.is_ok.ensures.value
    (is_delivered (g.L.Link.kind c.args.link.now ≡ perfect) (machine c.args.cluster.now) (machine c.deliver.new.self) c.args.frame c.in-Some.came c.args.node
    c.deliver.result c.in-Some.ensures.same read c.deliver.ensures.happens)

pub returns-clause-delivers : goal.returns-clause-delivers
returns-clause-delivers g c = is_lost (g.L.Link.kind c.args.link.now ≡ perfect) (machine c.args.cluster.now) c.args.frame c.args.node

pub returns-in_default-clause-delivers : goal.returns-in_default-clause-delivers
returns-in_default-clause-delivers g c = is_lost (g.L.Link.kind c.args.link.now ≡ perfect) (machine c.args.cluster.now) c.args.frame c.args.node
