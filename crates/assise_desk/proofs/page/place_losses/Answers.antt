use Rattle.assise_desk.proofs.Common.{arith}
use Rattle.assise_desk.proofs.Losses.{losses-length}
use Rattle.assise_desk.proofs.page.place_losses.Goals as goal

pub returns-in-None-clause-too_many : goal.returns-in-None-clause-too_many
returns-in-None-clause-too_many c =
    omega (arith, losses-length c.args.losses.now, c.in-None.ensures.place, c.loop-client.invariant.end, c.loop-client-test.true)

pub returns-clause-count : goal.returns-clause-count
returns-clause-count c =
    omega (arith, losses-length c.args.losses.now, c.loop-client.invariant.end, c.loop-client.auto.client-index-end, c.loop-client-test.false)
