use Rattle.assise_lease_table.proofs.Common.{ℕ, nat_eq, is_some, get, leases_at, revoke}
use Rattle.assise_lease_table.proofs.Shared.LeaseChanges.{Fits, Known, all_each, revoke_fits, revoke_known}
use Rattle.assise_lease_table.proofs.client_table.ClientTableOf.revoke_everywhere.Goals as goal

pub invariant_of-self : goal.invariant_of-self
invariant_of-self g c =
    let known = λ (h : ℕ). is_some (get nat_eq c.args.self.now.revokers h) in
    let choice = g.T.Chooses.choice c.args.test.now in
    record {
      compatible_leases = all_each Fits (leases_at c.args.self.now.leases) (revoke choice) c.revoke_everywhere.ensures (revoke_fits choice)
          c.args.self.now.compatible_leases;
      enrolled = all_each (Known known) (leases_at c.args.self.now.leases) (revoke choice) c.revoke_everywhere.ensures (revoke_known known choice)
          c.args.self.now.enrolled;
    }
