use Rattle.assise_lease_table.proofs.Common.{ℕ, nat_eq, is_some, get, leases_at, is_own}
use Rattle.assise_lease_table.proofs.Shared.LeaseChanges.{Fits, Known, becomes_each, leave_out_fits, leave_out_known}
use Rattle.assise_lease_table.proofs.client_table.ClientTableOf.release.Goals as goal

pub invariant_of-self : goal.invariant_of-self
invariant_of-self g c =
    let known = λ (h : ℕ). is_some (get nat_eq c.args.self.now.revokers h) in
    record {
      compatible_leases = becomes_each Fits c.take.ensures
          (leave_out_fits (is_own c.args.client) (leases_at c.args.self.now.leases c.args.inode) (c.args.self.now.compatible_leases c.args.inode))
          c.args.self.now.compatible_leases;
      enrolled = becomes_each (Known known) c.take.ensures
          (leave_out_known known (is_own c.args.client) (leases_at c.args.self.now.leases c.args.inode) (c.args.self.now.enrolled c.args.inode))
          c.args.self.now.enrolled;
    }
