use Rattle.assise_lease_table.proofs.Common.{leases_at, is_rival}
use Rattle.assise_lease_table.proofs.Shared.LeaseChanges.{Fits, becomes_each, revoke_fits}
use Rattle.assise_lease_table.proofs.node_table.NodeTable.ask.Goals as goal

pub invariant_of-self : goal.invariant_of-self
invariant_of-self c = record {
  compatible_leases = becomes_each Fits c.revoke.ensures
      (revoke_fits (is_rival c.args.node c.args.mode) (leases_at c.args.self.now.leases c.args.inode) (c.args.self.now.compatible_leases c.args.inode))
      c.args.self.now.compatible_leases;
}
