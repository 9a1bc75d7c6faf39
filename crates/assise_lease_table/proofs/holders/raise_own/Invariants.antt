use Rattle.assise_lease_table.proofs.Common.{◌≡◌, ◌++◌, map, take, drop, is_own_unasked, raised_if}
use Rattle.assise_lease_table.proofs.holders.raise_own.Given as goal

abbrev pub invariant-loop-lease : goal.invariant-loop-lease
invariant-loop-lease l = l.leases ≡ map (λ x. raised_if (is_own_unasked l.holder x) l.mode x) (take l.lease-index l.initial.leases) ++ drop l.lease-index
    l.initial.leases
