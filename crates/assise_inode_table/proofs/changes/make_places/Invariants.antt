use Rattle.assise_inode_table.proofs.Common.{◌≡◌, take, placed, map_without}
use Rattle.assise_inode_table.proofs.changes.make_places.Given as goal

abbrev pub invariant-loop-change : goal.invariant-loop-change
invariant-loop-change g l =
    record {
      placed : g.S.Inodes.contents l.store ≡ placed (g.S.Inodes.contents l.fn.store) (take l.change-index l.changes);
      noted : map_without (g.S.Inodes.contents l.store) l.made.items ≡ g.S.Inodes.contents l.fn.store;
      setting : g.S.InodeStore.setting l.store ≡ g.S.InodeStore.setting l.fn.store;
    }
