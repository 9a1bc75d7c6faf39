use Rattle.assise_lease_table.proofs.Common.{◌≡◌, ◌++◌, map, take, drop, revoked_if}
use Rattle.assise_lease_table.proofs.holders.revoke_chosen.Given as goal

abbrev pub invariant-loop-lease : goal.invariant-loop-lease
invariant-loop-lease g l = l.leases ≡ map (λ x. revoked_if (g.T.Chooses.choice l.test x) x) (take l.lease-index l.initial.leases) ++ drop l.lease-index
    l.initial.leases
