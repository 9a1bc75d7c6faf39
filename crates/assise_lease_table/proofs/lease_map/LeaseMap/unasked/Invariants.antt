use Rattle.assise_lease_table.proofs.Common.{◌≡◌, ◌++◌, SmallVec, Lease}
use Rattle.assise_lease_table.proofs.Shared.Unasked.{unasked_in}
use Rattle.assise_lease_table.proofs.lease_map.LeaseMap.unasked.Given as goal

-- with what is left to list they are all
abbrev pub invariant-loop-inode : goal.invariant-loop-inode
invariant-loop-inode g l = l.asked.items ++ unasked_in (λ (v : SmallVec Lease). v.items) (g.T.Chooses.choice l.test) l.inode-iterator
    ≡ unasked_in (λ (v : SmallVec Lease). v.items) (g.T.Chooses.choice l.test) l.self.inodes.entries
