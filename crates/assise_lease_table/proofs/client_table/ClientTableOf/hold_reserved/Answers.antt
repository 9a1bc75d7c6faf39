use Rattle.assise_lease_table.proofs.Common.{ℕ, nat_eq, is_some, get, leases_at}
use Rattle.assise_lease_table.proofs.Shared.LeaseChanges.{Fits, Known, becomes_each, with_lease_fits, with_lease_known}
use Rattle.assise_lease_table.proofs.client_table.ClientTableOf.hold_reserved.Goals as goal

pub invariant_of-self : goal.invariant_of-self
invariant_of-self g c =
    let known = λ (h : ℕ). is_some (get nat_eq c.args.self.now.revokers h) in
    record {
      compatible_leases = becomes_each Fits c.put.ensures
          (with_lease_fits c.args.client c.args.mode (leases_at c.args.self.now.leases c.args.inode) (c.args.self.now.compatible_leases c.args.inode)
          c.requires.free) c.args.self.now.compatible_leases;
      enrolled = becomes_each (Known known) c.put.ensures
          (with_lease_known known c.args.client c.args.mode (leases_at c.args.self.now.leases c.args.inode) c.requires.enrolled
          (c.args.self.now.enrolled c.args.inode)) c.args.self.now.enrolled;
    }
