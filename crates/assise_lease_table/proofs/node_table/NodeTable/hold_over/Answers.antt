use Rattle.assise_lease_table.proofs.Common.{leases_at}
use Rattle.assise_lease_table.proofs.Shared.LeaseChanges.{Fits, becomes_each, with_lease_fits, leave_out_fits}
use Rattle.assise_lease_table.proofs.node_table.NodeTable.hold_over.Goals as goal

pub invariant_of-self : goal.invariant_of-self
invariant_of-self g c = record {
  compatible_leases = becomes_each Fits c.put_over.ensures
      (with_lease_fits c.args.node c.args.mode _
      (leave_out_fits (g.T.Chooses.choice c.args.over.now) (leases_at c.args.self.now.leases c.args.inode) (c.args.self.now.compatible_leases c.args.inode))
      c.requires.free) c.args.self.now.compatible_leases;
}
