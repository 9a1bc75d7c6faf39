use Rattle.assise_renewal.proofs.Common.{machine, IsOfFirst}
use Rattle.assise_renewal.proofs.Led.{led_on}
use Rattle.assise_renewal.proofs.filling.fill_directory.Goals as goal

pub returns-in_err-make_one : goal.returns-in_err-make_one
returns-in_err-make_one g c =
    led_on IsOfFirst (machine c.args.cluster.now) (machine c.loop-name.cluster) (machine c.make_one.new.cluster) c.loop-name.invariant c.make_one.ensures

pub returns-in_err-enter : goal.returns-in_err-enter
returns-in_err-enter g c = led_on IsOfFirst (machine c.args.cluster.now) (machine c.loop-name.cluster) (machine c.make_one.new.cluster) c.loop-name.invariant
    c.make_one.ensures

pub loop-name-preserved : goal.loop-name-preserved
loop-name-preserved g c = led_on IsOfFirst (machine c.args.cluster.now) (machine c.loop-name.cluster) (machine c.make_one.new.cluster) c.loop-name.invariant
    c.make_one.ensures
