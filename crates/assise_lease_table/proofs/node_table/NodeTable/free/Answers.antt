use Rattle.assise_lease_table.proofs.Common.{leases_at, leave_out, is_own}
use Rattle.assise_lease_table.proofs.Shared.LeaseChanges.{Fits, all_each, leave_out_fits}
use Rattle.assise_lease_table.proofs.node_table.NodeTable.free.Goals as goal

pub invariant_of-self : goal.invariant_of-self
invariant_of-self c = record {
  compatible_leases = all_each Fits (leases_at c.args.self.now.leases) (leave_out (is_own c.args.node)) c.take_all.ensures
      (leave_out_fits (is_own c.args.node)) c.args.self.now.compatible_leases;
}
