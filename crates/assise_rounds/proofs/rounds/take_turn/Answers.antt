use Rattle.assise_rounds.proofs.Common.{◌≡◌, perfect, machine}
use Rattle.assise_rounds.proofs.RoundSteps.{turn_refused, turn_taken}
use Rattle.assise_rounds.proofs.rounds.take_turn.Goals as goal

pub returns-in-Ok-clause-turn : goal.returns-in-Ok-clause-turn
returns-in-Ok-clause-turn g c =
    turn_taken (g.L.Link.kind c.args.link.now ≡ perfect) (machine c.args.cluster.now) (machine c.deliver_all.new.cluster) c.args.node c.deliver_all.result _
    c.in-Ok.frames.items c.is_empty-busy.result
    c.in-Ok.frames.ok.0 c.is_empty-busy.ensures c.in-Ok.ensures c.deliver_all.ensures.carried

pub returns-in-Err-clause-turn : goal.returns-in-Err-clause-turn
returns-in-Err-clause-turn g c = turn_refused (g.L.Link.kind c.args.link.now ≡ perfect) (machine c.args.cluster.now) (machine c.args.cluster.now) c.args.node
    c.in-Err.field-0 c.in-Err.ensures
