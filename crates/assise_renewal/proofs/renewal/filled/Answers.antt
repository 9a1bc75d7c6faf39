use Rattle.assise_renewal.proofs.Common.{machine}
use Rattle.assise_renewal.proofs.OneClient.{begun_first, one_client}
use Rattle.assise_renewal.proofs.renewal.filled.Goals as goal

pub returns-clause-begun : goal.returns-clause-begun
returns-clause-begun g c =
    begun_first c.args.sizes _ (machine c.in_ok-cluster.cluster) (machine c.open.new.self) (machine c.fill.new.cluster) c.in_ok-cluster.ensures.begun
    c.in-Ok.ensures.happens c.fill.ensures

pub returns-clause-client : goal.returns-clause-client
returns-clause-client g c =
    one_client c.args.sizes c.fill.new.cluster
    (begun_first c.args.sizes _ (machine c.in_ok-cluster.cluster) (machine c.open.new.self) (machine c.fill.new.cluster) c.in_ok-cluster.ensures.begun
    c.in-Ok.ensures.happens c.fill.ensures)
