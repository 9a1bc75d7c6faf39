use Rattle.assise_renewal.proofs.Common.{machine, IsDsync}
use Rattle.assise_renewal.proofs.Led.{led_nowhere, led_on}
use Rattle.assise_renewal.proofs.SameTree.{same_tree_kept}
use Rattle.assise_renewal.proofs.settling.settle.Goals as goal

pub returns-then-are_all_replicated-clause-settles : goal.returns-then-are_all_replicated-clause-settles
returns-then-are_all_replicated-clause-settles g c = led_nowhere IsDsync (machine c.args.cluster.now)

pub returns-clause-settles : goal.returns-clause-settles
returns-clause-settles g c =
    led_on IsDsync (machine c.args.cluster.now) (machine c.sync_all.new.cluster) (machine c.rest.new.cluster) c.sync_all.ensures c.rest.ensures

pub returns-clause-stays : goal.returns-clause-stays
returns-clause-stays g c =
    same_tree_kept c.args.cluster.now c.rest.new.cluster
    (led_on IsDsync (machine c.args.cluster.now) (machine c.sync_all.new.cluster) (machine c.rest.new.cluster) c.sync_all.ensures c.rest.ensures)
