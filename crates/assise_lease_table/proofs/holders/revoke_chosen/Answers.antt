use Rattle.assise_lease_table.proofs.Common.{revoked_if}
use Rattle.assise_lease_table.proofs.Lists.{changed_more}
use Rattle.assise_lease_table.proofs.holders.revoke_chosen.Goals as goal

pub loop-lease-preserved : goal.loop-lease-preserved
loop-lease-preserved g c = changed_more (λ x. revoked_if (g.T.Chooses.choice c.args.test.now x) x) c.args.leases.now c.loop-lease.leases _ _ _
    c.loop-lease-test.true c.loop-lease.auto.leases c.loop-lease.invariant c.revoked_if_chosen.ensures
