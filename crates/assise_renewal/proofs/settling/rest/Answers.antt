use Rattle.assise_renewal.proofs.Common.{machine, IsDsync}
use Rattle.assise_renewal.proofs.Led.{led_nowhere, led_on, led_round}
use Rattle.assise_renewal.proofs.settling.rest.Goals as goal

pub loop-init : goal.loop-init
loop-init g c = led_nowhere IsDsync (machine c.args.cluster.now)

pub returns-then-not-round : goal.returns-then-not-round
returns-then-not-round g c =
    led_on IsDsync (machine c.args.cluster.now) (machine c.loop.cluster) (machine c.round.new.cluster) c.loop.invariant
    (led_round IsDsync c.round.result (machine c.loop.cluster) (machine c.round.new.cluster) c.round.ensures)

pub loop-preserved : goal.loop-preserved
loop-preserved g c =
    led_on IsDsync (machine c.args.cluster.now) (machine c.loop.cluster) (machine c.round.new.cluster) c.loop.invariant
    (led_round IsDsync c.round.result (machine c.loop.cluster) (machine c.round.new.cluster) c.round.ensures)
