use Rattle.assise_lease_table.proofs.Common.{◌≡◌, ◌++◌, drop, asked_at}
use Rattle.assise_lease_table.proofs.holders.push_unasked.Given as goal

-- with what is left to list they are all
abbrev pub invariant-loop-lease : goal.invariant-loop-lease
invariant-loop-lease g l = l.asked.items ++ asked_at (g.T.Chooses.choice l.test) l.inode (drop l.lease-index l.leases) ≡ l.fn.asked.items ++ asked_at
    (g.T.Chooses.choice l.test) l.inode l.leases
