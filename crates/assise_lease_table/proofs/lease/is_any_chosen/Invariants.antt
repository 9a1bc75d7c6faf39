use Rattle.assise_lease_table.proofs.Common.{◌≡◌, drop, list_any}
use Rattle.assise_lease_table.proofs.lease.is_any_chosen.Given as goal

abbrev pub invariant-loop-lease : goal.invariant-loop-lease
invariant-loop-lease g l = list_any (g.T.Chooses.choice l.test) (drop l.lease-index l.leases) ≡ list_any (g.T.Chooses.choice l.test) l.leases
