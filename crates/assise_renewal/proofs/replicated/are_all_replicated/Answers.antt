use Rattle.assise_renewal.proofs.Common.{arith, HasReplicatedAll}
use Rattle.assise_renewal.proofs.AllReplicated.{all_replicated, one_further}
use Rattle.assise_renewal.proofs.replicated.are_all_replicated.Goals as goal

pub loop-client-preserved : goal.loop-client-preserved
loop-client-preserved g c =
    one_further (HasReplicatedAll c.args.cluster.now) c.loop-client.client c.loop-client.invariant
    (c.has_replicated_all.ensures c.if-not-has_replicated_all.false)

pub returns : goal.returns
returns g c =
    λ yes. all_replicated c.args.cluster.now c.headline.ensures.legal
    (λ d some few. c.loop-client.invariant d some (omega (arith, few, c.loop-client-test.false)))
