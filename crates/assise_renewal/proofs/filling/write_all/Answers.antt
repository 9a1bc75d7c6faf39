use Rattle.assise_renewal.proofs.Common.{machine, IsOfFirst}
use Rattle.assise_renewal.proofs.Led.{led_nowhere, led_on}
use Rattle.assise_renewal.proofs.filling.write_all.Goals as goal

pub loop-piece-init : goal.loop-piece-init
loop-piece-init g c = led_nowhere IsOfFirst (machine c.args.cluster.now)

pub returns-in_err-make : goal.returns-in_err-make
returns-in_err-make g c =
    led_on IsOfFirst (machine c.args.cluster.now) (machine c.loop-piece.cluster) (machine c.make.new.cluster) c.loop-piece.invariant c.make.ensures

pub loop-piece-preserved : goal.loop-piece-preserved
loop-piece-preserved g c =
    led_on IsOfFirst (machine c.args.cluster.now) (machine c.loop-piece.cluster) (machine c.make.new.cluster) c.loop-piece.invariant c.make.ensures
