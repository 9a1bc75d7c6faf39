use Rattle.assise_lease_table.proofs.Common.{leases_at, revoke, is_own}
use Rattle.assise_lease_table.proofs.Shared.LeaseChanges.{Fits, all_each, revoke_fits}
use Rattle.assise_lease_table.proofs.node_table.NodeTable.freeze.Goals as goal

pub invariant_of-self : goal.invariant_of-self
invariant_of-self c = record {
  compatible_leases = all_each Fits (leases_at c.args.self.now.leases) (revoke (is_own c.args.node)) c.revoke_all.ensures (revoke_fits (is_own c.args.node))
      c.args.self.now.compatible_leases;
}
