use Rattle.assise_renewal.proofs.Common.{◌+◌, refl, Dsync, machine, IsDsync}
use Rattle.assise_renewal.proofs.Led.{led_call, led_nowhere, led_on}
use Rattle.assise_renewal.proofs.settling.sync_all.Goals as goal

pub loop-client-init : goal.loop-client-init
loop-client-init g c = led_nowhere IsDsync (machine c.args.cluster.now)

pub loop-client-preserved : goal.loop-client-preserved
loop-client-preserved g c =
    led_on IsDsync (machine c.args.cluster.now) (machine c.loop-client.cluster) (machine c.make_call.new.cluster) c.loop-client.invariant
    (led_call IsDsync (c.loop-client.client + 1) Dsync (machine c.loop-client.cluster) (machine c.make_call.new.cluster) refl refl c.make_call.ensures)
