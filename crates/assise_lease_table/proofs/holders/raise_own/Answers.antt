use Rattle.assise_lease_table.proofs.Common.{is_own_unasked, raised_if}
use Rattle.assise_lease_table.proofs.Lists.{changed_more}
use Rattle.assise_lease_table.proofs.holders.raise_own.Goals as goal

pub loop-lease-preserved : goal.loop-lease-preserved
loop-lease-preserved c = changed_more (λ x. raised_if (is_own_unasked c.args.holder x) c.args.mode x) c.args.leases.now c.loop-lease.leases _ _ _
    c.loop-lease-test.true c.loop-lease.auto.leases c.loop-lease.invariant c.raised_if_own.ensures
