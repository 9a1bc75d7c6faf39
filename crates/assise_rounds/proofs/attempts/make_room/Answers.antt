use Rattle.assise_rounds.proofs.Common.{map, machine, turn_answer, FaithfulAt}
use Rattle.assise_rounds.proofs.VainTries.{room_made}
use Rattle.assise_rounds.proofs.attempts.make_room.Goals as goal

pub returns-clause-makes : goal.returns-clause-makes
returns-clause-makes g c =
    room_made (FaithfulAt (map g.L.Link.kind c.args.links.now)) c.round_over.result c.args.client (turn_answer c.try_call.result) (machine c.args.cluster.now)
    (machine c.try_call.new.self)
    (machine c.round_over.new.cluster) c.try_call.ensures.happens c.round_over.ensures.rounds
