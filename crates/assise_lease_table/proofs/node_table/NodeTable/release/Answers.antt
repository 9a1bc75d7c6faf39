use Rattle.assise_lease_table.proofs.Common.{leases_at, is_own}
use Rattle.assise_lease_table.proofs.Shared.LeaseChanges.{Fits, becomes_each, leave_out_fits}
use Rattle.assise_lease_table.proofs.node_table.NodeTable.release.Goals as goal

pub invariant_of-self : goal.invariant_of-self
invariant_of-self c = record {
  compatible_leases = becomes_each Fits c.take.ensures
      (leave_out_fits (is_own c.args.node) (leases_at c.args.self.now.leases c.args.inode) (c.args.self.now.compatible_leases c.args.inode))
      c.args.self.now.compatible_leases;
}
