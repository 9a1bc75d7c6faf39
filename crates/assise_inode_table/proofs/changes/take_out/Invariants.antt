use Rattle.assise_inode_table.proofs.Common.{◌≡◌, map_without}
use Rattle.assise_inode_table.proofs.changes.take_out.Given as goal

abbrev pub invariant-loop-inode : goal.invariant-loop-inode
invariant-loop-inode g l =
    record {
      left : map_without (g.S.Inodes.contents l.store) l.inodes.items ≡ map_without (g.S.Inodes.contents l.fn.store) l.fn.inodes.items;
      setting : g.S.InodeStore.setting l.store ≡ g.S.InodeStore.setting l.fn.store;
    }

abbrev pub decreases-loop-inode : goal.decreases-loop-inode
decreases-loop-inode g l = goal.left-loop-inode g l
