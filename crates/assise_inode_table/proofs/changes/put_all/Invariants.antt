use Rattle.assise_inode_table.proofs.Common.{◌≡◌}
use Rattle.assise_inode_table.proofs.Shared.MapChanges.{IsLeft}
use Rattle.assise_inode_table.proofs.changes.put_all.Given as goal

abbrev pub invariant-loop-change : goal.invariant-loop-change
invariant-loop-change g l =
    record {
      left : IsLeft (g.S.Inodes.contents l.fn.store) (g.S.Inodes.contents l.store) l.fn.changes.items l.changes.items;
      setting : g.S.InodeStore.setting l.store ≡ g.S.InodeStore.setting l.fn.store;
    }

abbrev pub decreases-loop-change : goal.decreases-loop-change
decreases-loop-change g l = goal.left-loop-change g l
