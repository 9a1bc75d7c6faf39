use Rattle.assise_lease_table.proofs.Common.{ℕ, nat_eq, is_some, get, leases_at, revoke, is_own}
use Rattle.assise_lease_table.proofs.Shared.LeaseChanges.{Fits, Known, all_each, revoke_fits, revoke_known}
use Rattle.assise_lease_table.proofs.client_table.ClientTableOf.freeze.Goals as goal

pub invariant_of-self : goal.invariant_of-self
invariant_of-self g c =
    let known = λ (h : ℕ). is_some (get nat_eq c.args.self.now.revokers h) in
    record {
      compatible_leases = all_each Fits (leases_at c.args.self.now.leases) (revoke (is_own c.args.client)) c.revoke_all.ensures
          (revoke_fits (is_own c.args.client)) c.args.self.now.compatible_leases;
      enrolled = all_each (Known known) (leases_at c.args.self.now.leases) (revoke (is_own c.args.client)) c.revoke_all.ensures
          (revoke_known known (is_own c.args.client)) c.args.self.now.enrolled;
    }
