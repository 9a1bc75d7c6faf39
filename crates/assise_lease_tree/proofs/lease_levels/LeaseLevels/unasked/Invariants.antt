use Rattle.assise_lease_tree.proofs.Common.{◌≡◌, ◌++◌, unasked_in, BothLevels}
use Rattle.assise_lease_tree.proofs.lease_levels.LeaseLevels.unasked.Given as goal

-- with what is left to list they are all
abbrev pub invariant-loop-inode : goal.invariant-loop-inode
invariant-loop-inode g l =
    l.asked.items ++ unasked_in (λ (b : BothLevels). b.clients.items) (g.T.Chooses.choice l.test) l.inode-iterator
    ≡ unasked_in (λ (b : BothLevels). b.clients.items) (g.T.Chooses.choice l.test) l.self.inodes.entries
