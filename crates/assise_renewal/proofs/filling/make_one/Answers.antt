use Rattle.assise_renewal.proofs.Common.{machine, IsOfFirst}
use Rattle.assise_renewal.proofs.Led.{led_on}
use Rattle.assise_renewal.proofs.filling.make_one.Goals as goal

pub returns-in_ok-make-in-Ok : goal.returns-in_ok-make-in-Ok
returns-in_ok-make-in-Ok g c =
    led_on IsOfFirst (machine c.args.cluster.now) (machine c.make.new.cluster) (machine c.write_all.new.cluster) c.make.ensures c.write_all.ensures
